-- A line in the containers that are open.
use Rattle.std.proofs.Common.{◌≡◌, ℕ, ◌+◌, ◌<◌, Bool, true, false, ◌&&◌, ◌==◌, List, [], ◌∷◌, ◌++◌, Option, None, Some, refl, sym, ap, ◌∙◌, subst, length}
use Rattle.std.proofs.Common.{get_or, take, arith}
use Rattle.block_parser.proofs.Prelude.{append-nil, At, began_blank, Beside, beside_in, Blank, BlockLine, Blocks, Constructs, Container, ContainerLine}
use Rattle.block_parser.proofs.Prelude.{containers_of, continues, Descent, eq-eqb, Fence, Fenced, grow, Indented, InFenced, Inside, InText, is_nothing}
use Rattle.block_parser.proofs.Prelude.{is_one_blank, is_one_blank_row, join, join-nil, last_ending_or, level, Level, LineEnding, map, ne_eqb, new, Nil}
use Rattle.block_parser.proofs.Prelude.{OpenHtml, Opening, OpenTable, own_lines, Rest, Row, rows_of, spine, Spine, spine_after, spine_at, spine_of, state_of}
use Rattle.block_parser.proofs.Prelude.{Text, Tree}
use Rattle.std.specs.Prelude.{if◌then◌else◌}
use Rattle.block_rows.specs.declared.row.Row.TheVariants as row
use Rattle.definition_inline.specs.Definition.{Definition as LinkDefinition}
use Rattle.definition_block.specs.Tree.{Block, Ending, Cons, all_endings, front, trailing}
use Rattle.definition_block.specs.Tree.{goes_on}
use Rattle.block_rows.specs.Rows.{definition_on, definition_value, BlockRow, Single}
use Rattle.block_state.specs.Shows.{InIndented, InHtml, InTable, lone, is_nil, AreWritten}
use Rattle.block_leaves.specs.View.{leaf_grown}
use Rattle.block_parser.proofs.Closing.{opening_depth, length-around, length-containers}

-- ---- the container at a depth

pub get-append : {X : Type 0} (xs : List X) (x : X) (ys : List X) (d : X) → get_or (xs ++ x ∷ ys) (length xs) d ≡ x
get-append [] x ys d = refl
get-append (z ∷ xs) x ys d = get-append xs x ys d

abbrev inner_containers : Opening → List Container
inner_containers (At leaf) = []
inner_containers (Inside c kids inner) = c ∷ inner_containers inner

containers-at : (around : List Level) (kids : Blocks) (now : Opening) → containers_of (spine_at around kids now).around
    ≡ containers_of around ++ inner_containers now
containers-at around kids (At leaf) = sym (append-nil (containers_of around))
containers-at around kids (Inside c inner_kids inner) =
    containers-at (level c kids ∷ around) inner_kids inner ∙ append-one (containers_of around) c (inner_containers inner)
  where
    append-one : (xs : List Container) (x : Container) (ys : List Container) → (xs ++ x ∷ []) ++ ys ≡ xs ++ x ∷ ys
    append-one [] x ys = refl
    append-one (z ∷ xs) x ys = ap (λ w. z ∷ w) (append-one xs x ys)

pub container-at : (around : List Level) (kids inner_kids : Blocks) (c d : Container) (inner : Opening)
    → get_or (containers_of (spine_at around kids (Inside c inner_kids inner)).around) (length around) d ≡ c
container-at around kids inner_kids c d inner =
    ap (λ cs. get_or cs (length around) d) (containers-at around kids (Inside c inner_kids inner))
    ∙ ap (λ n. get_or (containers_of around ++ c ∷ inner_containers inner) n d) (sym (length-containers around))
    ∙ get-append (containers_of around) c (inner_containers inner) d

-- ---- one container more

abbrev pub Began : Tree → ℕ → Bool → Type 0
Began t depth b = (around : List Level) (kids inner_kids : Blocks) (c : Container) (inner : Opening) → depth ≡ length around
    → spine_at around kids (Inside c inner_kids inner) ≡ spine_of t → b ≡ began_blank inner_kids inner

module _ (on : Constructs) (beside : Beside) (line : Rest) (t : Tree) (depth : ℕ) (rest : Rest) (here : Beside) (containers : List Container)
    (opened : containers ≡ containers_of (spine_of t).around) (lt : depth < length containers) (c : Container) (is : c ≡ get_or containers depth c) (b : Bool)
    (began : Began t depth b) where
  goes-inside : (left : ContainerLine) → continues on c b rest ≡ Some left → (around : List Level) (kids : Blocks) (now : Opening) → depth ≡ length around
      → spine_at around kids now ≡ spine_of t
      → spine_after [] t.done (grow on beside t.now line) ≡ spine_after around kids (grow on here now rest)
      → Descent on beside line t 0 (depth + 1) left.rest (beside_in left.before here)
  goes-inside left h around kids (At leaf) deep same grows =
      absurd (omega (arith, ap length opened, length-containers (spine_of t).around, ap (λ (s : Spine). length s.around) same))
  goes-inside left h around kids (Inside inner_c inner_kids inner) deep same grows =
      let same_c : c ≡ inner_c =
      is ∙ ap (λ cs. get_or cs depth c) (opened ∙ ap (λ (s : Spine). containers_of s.around) (sym same))
      ∙ ap (λ n. get_or (containers_of (spine_at around kids (Inside inner_c inner_kids inner)).around) n c) deep
      ∙ container-at around kids inner_kids inner_c c inner in
      let goes : continues on inner_c (began_blank inner_kids inner) rest ≡ Some left =
      ap (λ x. continues on x (began_blank inner_kids inner) rest) (sym same_c)
      ∙ ap (λ x. continues on c x rest) (sym (began around kids inner_kids inner_c inner deep same)) ∙ h in
      record {
        around = level inner_c kids ∷ around;
        kids = inner_kids;
        now = inner;
        deep = omega (arith, deep);
        same = same;
        grows =
            grows
            ∙ ap (λ o. spine_after around kids (goes_on o on inner_c inner_kids inner here rest (λ l. grow on (beside_in l.before here) inner l.rest))) goes
            ∙ ap (λ (bs : Blocks). spine_at (level inner_c bs ∷ around) (join inner_kids (grow on (beside_in left.before here) inner left.rest).done)
            (grow on (beside_in left.before here) inner left.rest).now) (join-nil kids);
        stuck = λ wrong. absurd (omega arith);
      }

  pub goes_inside : (left : ContainerLine) → continues on c b rest ≡ Some left → Descent on beside line t 0 depth rest here
      → Descent on beside line t 0 (depth + 1) left.rest (beside_in left.before here)
  goes_inside left h d = goes-inside left h d.around d.kids d.now d.deep d.same d.grows

  stays-outside : continues on c b rest ≡ None → (around : List Level) (kids : Blocks) (now : Opening) → depth ≡ length around
      → spine_at around kids now ≡ spine_of t
      → grow on here now rest ≡ new (length rest) on false now here rest
  stays-outside h around kids (At leaf) deep same =
      absurd (omega (arith, ap length opened, length-containers (spine_of t).around, ap (λ (s : Spine). length s.around) same))
  stays-outside h around kids (Inside inner_c inner_kids inner) deep same =
      let same_c : c ≡ inner_c =
      is ∙ ap (λ cs. get_or cs depth c) (opened ∙ ap (λ (s : Spine). containers_of s.around) (sym same))
      ∙ ap (λ n. get_or (containers_of (spine_at around kids (Inside inner_c inner_kids inner)).around) n c) deep
      ∙ container-at around kids inner_kids inner_c c inner in
      let stops : continues on inner_c (began_blank inner_kids inner) rest ≡ None =
      ap (λ x. continues on x (began_blank inner_kids inner) rest) (sym same_c)
      ∙ ap (λ x. continues on c x rest) (sym (began around kids inner_kids inner_c inner deep same)) ∙ h in
      ap (λ o. goes_on o on inner_c inner_kids inner here rest (λ l. grow on (beside_in l.before here) inner l.rest)) stops

  pub stays_outside : continues on c b rest ≡ None → Descent on beside line t 0 depth rest here → Descent on beside line t (length containers) depth rest here
  stays_outside h d = record {
    around = d.around;
    kids = d.kids;
    now = d.now;
    deep = d.deep;
    same = d.same;
    grows = d.grows;
    stuck = λ lt. stays-outside h d.around d.kids d.now d.deep d.same;
  }

-- ---- whether a container began with a blank line

abbrev is_blank_rows : List BlockRow → Bool
is_blank_rows (Single (Blank ending) ∷ []) = true
is_blank_rows rows = false

blank-rows : (bs : Blocks) → is_one_blank bs ≡ (is_nil (front bs) && is_blank_rows (rows_of (trailing bs)))
blank-rows Nil = refl
blank-rows (Cons (Ending ending) Nil) = refl
blank-rows (Cons (Blank ending) Nil) = refl
blank-rows (Cons b Nil) = refl
blank-rows (Cons b (Cons c bs)) = none b ∙ parts b c (all_endings (Cons b (Cons c bs))) refl
  where
    none : (b : Block) → is_one_blank (Cons b (Cons c bs)) ≡ false
    none (Blank ending) = refl
    none b = refl

    parts : (b c : Block) (x : Bool) → all_endings (Cons b (Cons c bs)) ≡ x
        → false ≡ (is_nil (if x then Nil else Cons b (front (Cons c bs))) && is_blank_rows (rows_of (if x then Cons b (Cons c bs) else trailing (Cons c bs))))
    parts b c false h = refl
    parts (Ending e) (Ending f) true h = refl
    parts (Ending e) (Blank f) true h = refl
    parts (Blank e) (Ending f) true h = refl
    parts (Blank e) (Blank f) true h = refl
    parts b c true h = cc

pub and-swap : (a b : Bool) → (a && b) ≡ (b && a)
and-swap true true = refl
and-swap true false = refl
and-swap false true = refl
and-swap false false = refl

-- a definition is no ending
not-blank : (ls : List BlockLine) (o : Option LinkDefinition) (rows : List BlockRow) → is_blank_rows (Single (definition_value ls o) ∷ rows) ≡ false
not-blank ls None rows = refl
not-blank ls (Some d) rows = refl

one-row : (waiting : List Row) → is_one_blank_row waiting ≡ is_blank_rows (map lone waiting)
one-row [] = refl
one-row (row.Blank ending ∷ []) = refl
one-row (row.Definition n ∷ []) = sym (not-blank (own_lines (take n [])) (definition_on (take n [])) [])
one-row (r ∷ []) = refl
one-row (a ∷ b ∷ rows) = two a
  where
    two : (a : Row) → is_one_blank_row (a ∷ b ∷ rows) ≡ is_blank_rows (lone a ∷ (lone b ∷ map lone rows))
    two (row.Definition n) = sym (not-blank (own_lines (take n [])) (definition_on (take n [])) (lone b ∷ map lone rows))
    two r = refl

-- only the innermost container can have begun so
pub began_is : (rows waiting : List Row) (bare : Bool) (pool : List BlockLine) (containers : List Container) (around : List Level) (kids inner_kids : Blocks)
    (c : Container) (inner : Opening)
    → let s = spine_at around kids (Inside c inner_kids inner) in
    (left : List BlockLine) → AreWritten rows waiting bare pool s.around s.kids left → containers ≡ containers_of s.around
    → ((length around + 1 == length containers) && is_nothing (At s.leaf) && (bare && is_one_blank_row waiting)) ≡ began_blank inner_kids inner
began_is rows waiting bare pool containers around kids inner_kids c (At leaf) left h opened =
    let last : (length around + 1 == length containers) ≡ true =
    eq-eqb (length around + 1) (length containers) (omega (arith, ap length opened, length-containers (level c kids ∷ around))) in
    ap (λ x. x && is_nothing (At leaf) && (bare && is_one_blank_row waiting)) last
    ∙ and-swap (is_nothing (At leaf)) (bare && is_one_blank_row waiting)
    ∙ ap (λ x. x && is_nothing (At leaf))
    (ap (λ x. x && is_one_blank_row waiting) h.is_bare ∙ ap (λ x. is_nil (front inner_kids) && x) (one-row waiting ∙ ap is_blank_rows h.waiting_stand)
    ∙ sym (blank-rows inner_kids))
began_is rows waiting bare pool containers around kids inner_kids c (Inside inner_c others inner) left h opened =
    let more = length-around (level inner_c inner_kids ∷ (level c kids ∷ around)) others inner in
    let deeper : (length around + 1 == length containers) ≡ false =
    ne_eqb (length around + 1) (length containers) (λ e. omega (
      arith,
      e,
      ap length opened,
      length-containers (spine_at around kids (Inside c inner_kids (Inside inner_c others inner))).around,
      more,
    )) in
    ap (λ x. x && is_nothing (At (spine_at around kids (Inside c inner_kids (Inside inner_c others inner))).leaf) && (bare && is_one_blank_row waiting))
    deeper
    ∙ sym (and-swap (is_one_blank inner_kids) false)

-- ---- a line in all containers

pub no_deeper : (containers : List Container) (around : List Level) (kids : Blocks) (now : Opening)
    → containers ≡ containers_of (spine_at around kids now).around → length containers ≡ length around → opening_depth now ≡ 0
no_deeper containers around kids now opened all =
    omega (arith, ap length opened, all, length-containers (spine_at around kids now).around, length-around around kids now)

pub depth_of : (containers : List Container) (kids : Blocks) (now : Opening) → containers ≡ containers_of (spine_at [] kids now).around
    → opening_depth now ≡ length containers
depth_of containers kids now opened =
    omega (arith, ap length opened, length-containers (spine_at [] kids now).around, length-around [] kids now)

module _ (P Q : Spine → Type 0) (on : Constructs) (e : Beside) (r : Rest) where
  pub text_grows : (around : List Level) (kids : Blocks) (now : Opening) → opening_depth now ≡ 0 → InText ≡ state_of (spine_at around kids now).leaf
      → Q (spine_after around kids (new (length r) on true now e r)) → Q (spine_after around kids (grow on e now r))
  text_grows around kids (At (Text ls)) none is h = h
  text_grows around kids (At leaf) none is h = let wrong = is in cc
  text_grows around kids (Inside c inner_kids inner) none is h = absurd (omega (arith, none))

  pub table_grows : (last : Option LineEnding) (around : List Level) (kids : Blocks) (now : Opening) → opening_depth now ≡ 0
      → InTable last ≡ state_of (spine_at around kids now).leaf
      → Q (spine_after around kids (new (length r) on true now e r)) → Q (spine_after around kids (grow on e now r))
  table_grows last around kids (At (OpenTable ls)) none is h = h
  table_grows last around kids (At leaf) none is h = let wrong = is in cc
  table_grows last around kids (Inside c inner_kids inner) none is h = absurd (omega (arith, none))

  pub indented_grows : ((around : List Level) (kids : Blocks) (ls pending : List BlockLine) → P (spine around kids (Indented ls pending))
      → Q (spine_after around kids (leaf_grown on e r (At (Indented ls pending)))))
      → (count : ℕ) (last : Option LineEnding) (around : List Level) (kids : Blocks) (now : Opening) → opening_depth now ≡ 0
      → InIndented count last ≡ state_of (spine_at around kids now).leaf
      → P (spine_at around kids now) → Q (spine_after around kids (grow on e now r))
  indented_grows grows count last around kids (At (Indented ls pending)) none is h = grows around kids ls pending h
  indented_grows grows count last around kids (At leaf) none is h = let wrong = is in cc
  indented_grows grows count last around kids (Inside c inner_kids inner) none is h = absurd (omega (arith, none))

  pub fenced_grows : (f : Fence) → ((around : List Level) (kids : Blocks) (opening : Option LineEnding) (ls : List BlockLine)
      → P (spine around kids (Fenced f opening ls)) → Q (spine_after around kids (leaf_grown on e r (At (Fenced f opening ls)))))
      → (last : Option LineEnding) (around : List Level) (kids : Blocks) (now : Opening) → opening_depth now ≡ 0
      → InFenced f last ≡ state_of (spine_at around kids now).leaf
      → P (spine_at around kids now) → Q (spine_after around kids (grow on e now r))
  fenced_grows f grows last around kids (At (Fenced fence opening ls)) none is h =
      let same : InFenced f last ≡ InFenced fence (last_ending_or opening ls) = is in
      let is_fence : fence ≡ f = cc in
      subst (λ (x : Fence). Q (spine_after around kids (grow on e (At (Fenced x opening ls)) r))) (sym is_fence)
      (grows around kids opening ls (subst (λ (x : Fence). P (spine around kids (Fenced x opening ls))) is_fence h))
  fenced_grows f grows last around kids (At leaf) none is h = let wrong = is in cc
  fenced_grows f grows last around kids (Inside c inner_kids inner) none is h = absurd (omega (arith, none))

  pub html_grows : (kind : ℕ) → ((around : List Level) (kids : Blocks) (ls : List BlockLine) → P (spine around kids (OpenHtml kind ls))
      → Q (spine_after around kids (leaf_grown on e r (At (OpenHtml kind ls)))))
      → (last : Option LineEnding) (around : List Level) (kids : Blocks) (now : Opening) → opening_depth now ≡ 0
      → InHtml kind last ≡ state_of (spine_at around kids now).leaf
      → P (spine_at around kids now) → Q (spine_after around kids (grow on e now r))
  html_grows kind grows last around kids (At (OpenHtml other ls)) none is h =
      let same : InHtml kind last ≡ InHtml other (last_ending_or None ls) = is in
      let is_kind : other ≡ kind = cc in
      subst (λ (x : ℕ). Q (spine_after around kids (grow on e (At (OpenHtml x ls)) r))) (sym is_kind)
      (grows around kids ls (subst (λ (x : ℕ). P (spine around kids (OpenHtml x ls))) is_kind h))
  html_grows kind grows last around kids (At leaf) none is h = let wrong = is in cc
  html_grows kind grows last around kids (Inside c inner_kids inner) none is h = absurd (omega (arith, none))
