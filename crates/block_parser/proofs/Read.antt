-- Lines that were read, some at a time.
use Rattle.std.proofs.Common.{◌≡◌, ℕ, ◌≤◌, ◌<◌, List, [], ◌∷◌, ◌++◌, refl, sym, ap, ◌∙◌, subst, get_or, length, append_assoc, arith}
use Rattle.block_parser.proofs.Prelude.{AreLines, Constructs, empty_tree, HasRead, KeepsLines, Kind, length-append, lines, open_lines, open_text, Parser}
use Rattle.block_parser.proofs.Prelude.{ReadsSome, spine_of, step, steps, TextLine, Tree}
use Rattle.markdown_options.specs.declared.beside.Kind.TheVariants.{Whitespace}
use Rattle.block_parser.specs.View.{kind_after_lines}

kind_later : (ls : List TextLine) → kind_after_lines Whitespace ls ≡ Whitespace
kind_later [] = refl
kind_later (line ∷ ls) = refl

-- one more line
steps_more : (on : Constructs) (before : Kind) (t : Tree) (ls : List TextLine) (line : TextLine)
    → steps on before t (ls ++ line ∷ []) ≡ step on (kind_after_lines before ls) (steps on before t ls) line
steps_more on before t [] line = refl
steps_more on before t (first ∷ ls) line =
    let more = step on before t first in
    steps_more on Whitespace more ls line ∙ ap (λ kind. step on kind (steps on Whitespace more ls) line) (kind_later ls)

-- the same after lines that lead to a tree
pub steps_to : (on : Constructs) (t so_far : Tree) (ls : List TextLine) (line : TextLine) → steps on Whitespace t ls ≡ so_far
    → steps on Whitespace t (ls ++ line ∷ []) ≡ step on Whitespace so_far line
steps_to on t so_far ls line are =
    steps_more on Whitespace t ls line
    ∙ ap (λ kind. step on kind (steps on Whitespace t ls) line) (kind_later ls)
    ∙ ap (λ (u : Tree). step on Whitespace u line) are

-- a text of lines and a rest is one of those, the first of the rest and what follows it
pub split_more : (text rest after : List ℕ) (ls : List TextLine) (line : TextLine) → lines text ≡ ls ++ lines rest → lines rest ≡ line ∷ lines after
    → lines text ≡ (ls ++ line ∷ []) ++ lines after
split_more text rest after ls line split first = split ∙ ap (λ xs. ls ++ xs) first ∙ sym (append_assoc ls (line ∷ []) (lines after))

-- more lines
pub steps_append : (on : Constructs) (before : Kind) (t : Tree) (ls more : List TextLine)
    → steps on before t (ls ++ more) ≡ steps on (kind_after_lines before ls) (steps on before t ls) more
steps_append on before t [] more = refl
steps_append on before t (first ∷ ls) more =
    let next = step on before t first in
    steps_append on Whitespace next ls more ∙ ap (λ kind. steps on kind (steps on Whitespace next ls) more) (kind_later ls)

-- white space stands after some
pub kind_after_some : (before : Kind) (ls : List TextLine) → 0 < length ls → kind_after_lines before ls ≡ Whitespace
kind_after_some before [] some = absurd (omega (arith, some))
kind_after_some before (line ∷ ls) some = refl

-- ---- the lines of a text so far

pub record AllRead {A : Type 0} (on : Constructs) (before : Kind) (text left : List ℕ) (here : Kind) (p : Parser A) : Type 0 where
  pub read : List TextLine
  pub split : lines text ≡ read ++ lines left
  pub reads : HasRead p (spine_of (steps on before empty_tree read))
  pub kind : here ≡ kind_after_lines before read
  pub shorter : length left ≤ length text

-- whichever are read, the open paragraph has the lines of one
pub keeps_lines : {A : Type 0} (on : Constructs) (before : Kind) (text left : List ℕ) (here : Kind) (p : Parser A) → ((k : ℕ) → get_or text k 0 < 256)
    → (h : AllRead on before text left here p) → KeepsLines on here (steps on before empty_tree h.read) left
keeps_lines on before text left here p bytes h = λ read others is.
    let so_far = steps on before empty_tree h.read in
    subst (λ (t : Tree). AreLines (open_text t.now))
    (steps_append on before empty_tree h.read read ∙ ap (λ kind. steps on kind so_far read) (sym h.kind))
    (open_lines on before text bytes (h.read ++ read) others (append_assoc h.read read others ∙ ap (λ ls. h.read ++ ls) is ∙ sym h.split))

-- some more of them
pub read_more : {A : Type 0} (on : Constructs) (before : Kind) (text left rest : List ℕ) (here : Kind) (p q : Parser A) (h : AllRead on before text left here p)
    → length rest < length left → ReadsSome on here (steps on before empty_tree h.read) left rest q → AllRead on before text rest Whitespace q
read_more on before text left rest here p q h less more =
    let so_far = steps on before empty_tree h.read in
    let some : 0 < length (h.read ++ more.read) = omega (arith, length-append h.read more.read, more.some) in
    record {
      read = h.read ++ more.read;
      split = h.split ∙ ap (λ ls. h.read ++ ls) more.split ∙ sym (append_assoc h.read more.read (lines rest));
      reads = subst (λ (t : Tree). HasRead q (spine_of t))
          (ap (λ kind. steps on kind so_far more.read) h.kind ∙ sym (steps_append on before empty_tree h.read more.read)) more.reads;
      kind = sym (kind_after_some before (h.read ++ more.read) some);
      shorter = omega (arith, h.shorter, less);
    }
