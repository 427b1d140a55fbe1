-- The prefixes of open containers are read one after another.
use Rattle.std.proofs.Common.{◌≡◌, ℕ, ◌+◌, ◌≤◌, suc, zero, false, ◌||◌, List, [], ◌∷◌, None, Some, refl, sym, ap, ◌∙◌, arith, drop, length}
use Rattle.parse_lines.proofs.Prelude.{beside_in, Constructs, Container, ContainerLine, continues, drop_all, fold, going_on, InAll, InSome, into, is_quote}
use Rattle.parse_lines.proofs.Prelude.{line_left, line_rest, LineRest, list_any, or_parts, prefixed, Prefixed, Rest, reverse}
use Rattle.parse_laid.proofs.EmptyRests.{nothing_stays_nothing}
use Rattle.parse_laid.proofs.Outermost.{prefixes_are_in_order}

-- what containers leave of a line, the outermost first
abbrev pub through : Constructs → Prefixed → List Container → Prefixed
through on line containers = fold (λ here c. into on c here) line containers

-- Of any line that begins with `start`, the first containers leave `rest`.
abbrev pub IsRead : Constructs → List Container → ℕ → Rest → Rest → Type 0
IsRead on containers depth start rest =
    (line : LineRest) → line.rest ≡ start
    → (here : LineRest) × (here.rest ≡ rest) × (through on (InAll here) (drop depth containers) ≡ through on (InAll line) containers)

-- all containers leave it, up to the first that doesn't go on
abbrev pub IsLeft : Constructs → List Container → Rest → Rest → Type 0
IsLeft on containers start rest = (line : LineRest) → line.rest ≡ start → rest ≡ (line_left (prefixed on (reverse containers) line)).rest

pub read_none : (on : Constructs) (containers : List Container) (rest : Rest) → IsRead on containers 0 rest rest
read_none on containers rest line e = (line, e, refl)

into_more : (on : Constructs) (c : Container) (here : LineRest) (rest : Rest) (more : ContainerLine) → here.rest ≡ rest → continues on c false rest ≡ Some more
    → into on c (InAll here) ≡ InAll (line_rest more.rest (beside_in more.before here.beside))
into_more on c here rest more e is = ap (λ (x : Rest). going_on (continues on c false x) here) e ∙ ap (λ o. going_on o here) is

into_none : (on : Constructs) (c : Container) (here : LineRest) (rest : Rest) → here.rest ≡ rest → continues on c false rest ≡ None
    → into on c (InAll here) ≡ InSome here
into_none on c here rest e is = ap (λ (x : Rest). going_on (continues on c false x) here) e ∙ ap (λ o. going_on o here) is

-- one container more
pub read_more : (on : Constructs) (containers : List Container) (depth : ℕ) (c : Container) (start rest : Rest) (more : ContainerLine)
    → drop depth containers ≡ c ∷ drop (depth + 1) containers → continues on c false rest ≡ Some more → IsRead on containers depth start rest
    → IsRead on containers (depth + 1) start more.rest
read_more on containers depth c start rest more split is read line e =
    let r = read line e in (
      line_rest more.rest (beside_in more.before r.0.beside),
      refl,
      sym (
          ap (through on (InAll r.0)) split
          ∙ ap (λ (p : Prefixed). through on p (drop (depth + 1) containers)) (into_more on c r.0 rest more r.1 is)
          )
          ∙ r.2,
    )

stays_outside : (on : Constructs) (line : LineRest) (containers : List Container) → through on (InSome line) containers ≡ InSome line
stays_outside on line [] = refl
stays_outside on line (c ∷ containers) = stays_outside on line containers

left_at : (on : Constructs) (containers : List Container) (line here : LineRest) (rest : Rest) (found : Prefixed) → here.rest ≡ rest
    → through on (InAll here) [] ≡ InAll here → found ≡ through on (InAll line) containers → (line_left found).rest ≡ rest
    → rest ≡ (line_left (prefixed on (reverse containers) line)).rest
left_at on containers line here rest found e o is same =
    sym (ap (λ (p : Prefixed). (line_left p).rest) (prefixes_are_in_order.outermost on containers line ∙ sym is) ∙ same)

-- a container that doesn't go on
pub read_stopped : (on : Constructs) (containers : List Container) (depth : ℕ) (c : Container) (start rest : Rest)
    → drop depth containers ≡ c ∷ drop (depth + 1) containers → continues on c false rest ≡ None → IsRead on containers depth start rest
    → IsLeft on containers start rest
read_stopped on containers depth c start rest split is read line e =
    let r = read line e in
    let found : through on (InAll r.0) (drop depth containers) ≡ InSome r.0 =
    ap (through on (InAll r.0)) split
    ∙ ap (λ (p : Prefixed). through on p (drop (depth + 1) containers)) (into_none on c r.0 rest r.1 is)
    ∙ stays_outside on r.0 (drop (depth + 1) containers) in
    left_at on containers line r.0 rest (InSome r.0) r.1 refl (sym found ∙ r.2) r.1

-- all of them
pub read_all : (on : Constructs) (containers : List Container) (depth : ℕ) (start rest : Rest) → length containers ≤ depth
    → IsRead on containers depth start rest → IsLeft on containers start rest
read_all on containers depth start rest all read line e =
    let r = read line e in
    left_at on containers line r.0 rest (InAll r.0) r.1 refl (sym (ap (through on (InAll r.0)) (drop_all depth containers all)) ∙ r.2) r.1

-- ---- where nothing is left

nothing_left : (on : Constructs) (containers : List Container) (here : LineRest) → list_any is_quote containers ≡ false → here.rest ≡ []
    → (left : LineRest) × (through on (InAll here) containers ≡ InAll left) × (left.rest ≡ [])
nothing_left on [] here e none = (here, refl, none)
nothing_left on (c ∷ containers) here e none =
    let parts = or_parts (is_quote c) (list_any is_quote containers) e in
    let one = nothing_stays_nothing on (c ∷ []) [] here here (ap (λ b. b || false) parts.0) refl none in
    let more = nothing_left on containers one.0 parts.1 one.2 in
    (more.0, ap (λ (p : Prefixed). through on p containers) one.1 ∙ more.1, more.2)

none_dropped : (depth : ℕ) (containers : List Container) → list_any is_quote containers ≡ false → list_any is_quote (drop depth containers) ≡ false
none_dropped zero containers h = h
none_dropped (suc depth) [] h = refl
none_dropped (suc depth) (c ∷ containers) h = none_dropped depth containers (or_parts (is_quote c) (list_any is_quote containers) h).1

pub none_later : (first depth : ℕ) (containers : List Container) → first ≤ depth → list_any is_quote (drop first containers) ≡ false
    → list_any is_quote (drop depth containers) ≡ false
none_later zero depth containers le h = none_dropped depth containers h
none_later (suc first) zero containers le h = absurd (omega arith)
none_later (suc first) (suc depth) [] le h = refl
none_later (suc first) (suc depth) (c ∷ containers) le h = none_later first depth containers (omega arith) h

-- no quote is among the others
pub read_nothing : (on : Constructs) (containers : List Container) (quotes depth : ℕ) (start rest : Rest) → quotes ≤ depth
    → list_any is_quote (drop quotes containers) ≡ false → rest ≡ [] → IsRead on containers depth start rest → IsLeft on containers start rest
read_nothing on containers quotes depth start rest le none empty read line e =
    let r = read line e in
    let n = nothing_left on (drop depth containers) r.0 (none_later quotes depth containers le none) (r.1 ∙ empty) in
    left_at on containers line r.0 rest (InAll n.0) r.1 refl (sym n.1 ∙ r.2) (n.2 ∙ sym empty)
