-- The pieces of the prefixes of open containers, one after another.
use Rattle.std.proofs.Common.{◌≡◌, ℕ, ◌+◌, ◌≤◌, zero, suc, true, false, List, [], ◌∷◌, Option, None, Some, refl, sym, ap, ◌∙◌, subst, drop, length}
use Rattle.parse_lines.proofs.Prelude.{Constructs, Container, ContainerLine, continues, drop_all, Footnote, is_quote, Item, list_any, or_parts, Output, Quote, Rest}
use Rattle.std.proofs.lemmas.Bool.{true≢false}
use Rattle.event_definition.specs.Containers.{Prefixed, prefix_and, prefix_pieces, prefixed, prefixed_by}
use Rattle.event_definition.specs.Pieces.{Pieces, Nil, join}
use Rattle.parse_pieces.proofs.Sizes.{join_assoc, join_nil}
use Rattle.parse_pieces.specs.Written.{WritesPieces}
use Rattle.parse_lines.proofs.Prefixes.{none_later}

-- these are the pieces of the first containers
abbrev pub IsSplit : Constructs → List Container → ℕ → Rest → Rest → Pieces → Type 0
IsSplit on containers depth start rest front =
    prefixed on containers start
    ≡ prefixed_by (join front (prefixed on (drop depth containers) rest).pieces) (prefixed on (drop depth containers) rest).rest

pub split_none : (on : Constructs) (containers : List Container) (rest : Rest) → IsSplit on containers 0 rest rest Nil
split_none on containers rest = refl

-- one container more
pub split_more : (on : Constructs) (containers : List Container) (depth : ℕ) (c : Container) (start rest : Rest) (front : Pieces) (more : ContainerLine)
    → drop depth containers ≡ c ∷ drop (depth + 1) containers → continues on c false rest ≡ Some more → IsSplit on containers depth start rest front
    → IsSplit on containers (depth + 1) start more.rest (join front (prefix_pieces c rest more.rest))
split_more on containers depth c start rest front more split is read =
    let others = drop (depth + 1) containers in
    let next = prefixed on others more.rest in
    let here : prefixed on (drop depth containers) rest ≡ prefixed_by (join (prefix_pieces c rest more.rest) next.pieces) next.rest =
    ap (λ (cs : List Container). prefixed on cs rest) split ∙ ap (λ (o : Option ContainerLine). prefix_and c rest o (prefixed on others)) is in
    read ∙ ap (λ (p : Prefixed). prefixed_by (join front p.pieces) p.rest) here
    ∙ ap (λ (ps : Pieces). prefixed_by ps next.rest) (sym (join_assoc front (prefix_pieces c rest more.rest) next.pieces))

split_end : (on : Constructs) (containers : List Container) (depth : ℕ) (start rest : Rest) (front : Pieces)
    → prefixed on (drop depth containers) rest ≡ prefixed_by Nil rest → IsSplit on containers depth start rest front
    → prefixed on containers start ≡ prefixed_by front rest
split_end on containers depth start rest front none read =
    read ∙ ap (λ (p : Prefixed). prefixed_by (join front p.pieces) p.rest) none ∙ ap (λ (ps : Pieces). prefixed_by ps rest) (join_nil front)

-- a container that doesn't go on
pub split_stopped : (on : Constructs) (containers : List Container) (depth : ℕ) (c : Container) (start rest : Rest) (front : Pieces)
    → drop depth containers ≡ c ∷ drop (depth + 1) containers → continues on c false rest ≡ None → IsSplit on containers depth start rest front
    → prefixed on containers start ≡ prefixed_by front rest
split_stopped on containers depth c start rest front split is read =
    split_end on containers depth start rest front
    (ap (λ (cs : List Container). prefixed on cs rest) split
    ∙ ap (λ (o : Option ContainerLine). prefix_and c rest o (prefixed on (drop (depth + 1) containers))) is) read

-- all of them
pub split_all : (on : Constructs) (containers : List Container) (depth : ℕ) (start rest : Rest) (front : Pieces) → length containers ≤ depth
    → IsSplit on containers depth start rest front → prefixed on containers start ≡ prefixed_by front rest
split_all on containers depth start rest front all read =
    split_end on containers depth start rest front (ap (λ (cs : List Container). prefixed on cs rest) (drop_all depth containers all)) read

-- ---- where nothing is left

drop_nothing : (n : ℕ) → drop {A = ℕ} n [] ≡ []
drop_nothing zero = refl
drop_nothing (suc n) = refl

nothing_written : (on : Constructs) (containers : List Container) → list_any is_quote containers ≡ false → prefixed on containers [] ≡ prefixed_by Nil []
nothing_written on [] none = refl
nothing_written on (Quote ∷ containers) none = absurd (true≢false (or_parts true (list_any is_quote containers) none).0)
nothing_written on (Item item ∷ containers) none =
    let more = nothing_written on containers none in
    let gone = drop_nothing item.size in
    ap (λ (r : Rest). prefixed_by (join (prefix_pieces (Item item) [] r) (prefixed on containers r).pieces) (prefixed on containers r).rest) gone ∙ more
nothing_written on (Footnote label ∷ containers) none = nothing_written on containers none

-- no quote is among the others
pub split_nothing : (on : Constructs) (containers : List Container) (quotes depth : ℕ) (start rest : Rest) (front : Pieces) → quotes ≤ depth
    → list_any is_quote (drop quotes containers) ≡ false → rest ≡ [] → IsSplit on containers depth start rest front
    → prefixed on containers start ≡ prefixed_by front rest
split_nothing on containers quotes depth start rest front le none empty read =
    split_end on containers depth start rest front
    (ap (prefixed on (drop depth containers)) empty ∙ nothing_written on (drop depth containers) (none_later quotes depth containers le none)
    ∙ ap (prefixed_by Nil) (sym empty)) read

-- what is written by them
pub written_whole : {A : Type 0} (text : List ℕ) (all : Prefixed) (front : Pieces) (rest : Rest) (a b : Output A) → all ≡ prefixed_by front rest
    → WritesPieces text front a b → (all.rest ≡ rest) × WritesPieces text all.pieces a b
written_whole text all front rest a b is written =
    (ap (λ (p : Prefixed). p.rest) is, subst (λ (p : Prefixed). WritesPieces text p.pieces a b) (sym is) written)
