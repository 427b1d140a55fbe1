-- The nodes of delimiters say how columns are aligned.
use Rattle.std.proofs.Common.{◌≡◌, ℕ, zero, suc, ◌+◌, Bool, true, false, List, [], ◌∷◌, ◌++◌, map, length, replicate, refl, sym, ap, ap₂, subst, ◌∙◌, arith, eqb}
use Rattle.parse_tables.proofs.Prelude.{AlignKind, alignment, and_parts, append, Around, begins_other, colon_if, cond-false, cond_both, Cons, cut, End, end_at}
use Rattle.parse_tables.proofs.Prelude.{enter_at, exit_at, if◌then◌else◌, Name, named, named_both, Nil, Node, Nodes, one, run, same_end, same_name}
use Rattle.parse_tables.proofs.Prelude.{value_align, void_nodes}
use Rattle.std.specs.Prelude.{not, ◌&&◌, drop, Some}
use Rattle.std.proofs.lemmas.Bool.{not-true}
use Rattle.engine_events.specs.declared.event.Name.TheVariants as n
use Rattle.event_check.specs.Align.{align_of, mark, marks, marks_in}
use Rattle.event_check.specs.declared.align.Marks.{Marks}
use Rattle.event_grammar.specs.declared.slot.Between.TheVariants.{Spaces}
use Rattle.event_grammar.specs.declared.slot.Form.TheVariants.{Plain}
use Rattle.event_grammar.specs.declared.slot.Slot.{Slot}
use Rattle.event_grammar.specs.Grammar.{many, one as one_slot, opt, row}
use Rattle.event_grammar.specs.Slots.{take_child}
use Rattle.parse_slots.specs.Left.{Fill, IsFilled, took}
use Rattle.parse_slots.proofs.Steps.{fill_both, fill_none, fill_taken, filled_by}
use Rattle.parse_slots.proofs.Voids.{further_apart, void_is, void_taken}
use Rattle.parse_lines.proofs.Quiet.{no_void}
use Rattle.parse_links.specs.Tails.{FillsTo, MayEnd}

-- ---- runs

run_none : (byte b : ℕ) (bs : List ℕ) → eqb b byte ≡ false → run byte (b ∷ bs) ≡ 0
run_none byte b bs h = cond-false (eqb b byte) _ 0 h

other_run : (byte : ℕ) (bs : List ℕ) → begins_other bs ≡ true → (byte ≡ 58 → run byte bs ≡ 0) × (byte ≡ 45 → run byte bs ≡ 0)
other_run byte [] h = (λ _. refl, λ _. refl)
other_run byte (b ∷ bs) h =
    let parts = and_parts (not (eqb b 58)) (not (eqb b 45)) h in (
      λ is. ap (λ (x : ℕ). run x (b ∷ bs)) is ∙ run_none 58 b bs (not-true (eqb b 58) parts.0),
      λ is. ap (λ (x : ℕ). run x (b ∷ bs)) is ∙ run_none 45 b bs (not-true (eqb b 45) parts.1),
    )

colon_run : (first : Bool) (bs : List ℕ) → run 58 bs ≡ 0 → run 58 (colon_if first ++ bs) ≡ length (colon_if first)
colon_run true bs h = ap (λ (k : ℕ). 1 + k) h
colon_run false bs h = h

dash_run : (k : ℕ) (bs : List ℕ) → run 45 bs ≡ 0 → run 45 (replicate k 45 ++ bs) ≡ k
dash_run zero bs h = h
dash_run (suc k) bs h = ap (λ (j : ℕ). 1 + j) (dash_run k bs h) ∙ omega arith

after_last : (last : Bool) (bs : List ℕ) → begins_other bs ≡ true → run 45 (colon_if last ++ bs) ≡ 0
after_last true bs h = refl
after_last false bs h = (other_run 45 bs h).1 refl

pub record HasRuns (bytes bs : List ℕ) (first last : Bool) (n : ℕ) : Type 0 where
  pub left : run 58 bytes ≡ length (colon_if first)
  pub dashes : run 45 (drop (length (colon_if first)) bytes) ≡ suc n
  pub right : run 58 (drop (length (colon_if first) + suc n) bytes) ≡ length (colon_if last)
  pub rest : drop (length (colon_if first) + suc n + length (colon_if last)) bytes ≡ bs

drop_dashes : (k : ℕ) (bs : List ℕ) → drop k (replicate k 45 ++ bs) ≡ bs
drop_dashes zero bs = refl
drop_dashes (suc k) bs = drop_dashes k bs

drop_more : (k l : ℕ) (bs : List ℕ) → drop (k + l) (replicate k 45 ++ bs) ≡ drop l bs
drop_more zero l bs = let same : 0 + l ≡ l = omega arith in ap (λ (j : ℕ). drop j bs) same
drop_more (suc k) l bs =
    let step : suc k + l ≡ suc (k + l) = omega arith in
    ap (λ (j : ℕ). drop j (45 ∷ (replicate k 45 ++ bs))) step ∙ drop_more k l bs

drop_colon : (last : Bool) (bs : List ℕ) → drop (length (colon_if last)) (colon_if last ++ bs) ≡ bs
drop_colon true bs = refl
drop_colon false bs = refl

pub runs_of : (bytes bs : List ℕ) (first last : Bool) (n : ℕ) → bytes ≡ colon_if first ++ (45 ∷ (replicate n 45 ++ (colon_if last ++ bs)))
    → begins_other bs ≡ true → HasRuns bytes bs first last n
runs_of bytes bs first last n is other =
    subst (λ xs. HasRuns xs bs first last n) (sym is) (own first)
  where
    tail : List ℕ
    tail = colon_if last ++ bs

    inside : List ℕ
    inside = replicate n 45 ++ tail

    own : (first : Bool) → HasRuns (colon_if first ++ (45 ∷ inside)) bs first last n
    own true =
        let two : 1 + suc n ≡ suc (suc n) = omega arith in
        let all : 1 + suc n + length (colon_if last) ≡ suc (suc (n + length (colon_if last))) = omega arith in
        record {
          left = refl;
          dashes = dash_run (suc n) tail (after_last last bs other);
          right = ap (λ (k : ℕ). run 58 (drop k (58 ∷ 45 ∷ inside))) two ∙ ap (run 58) (drop_dashes n tail) ∙ colon_run last bs ((other_run 58 bs other).0 refl);
          rest = ap (λ (k : ℕ). drop k (58 ∷ 45 ∷ inside)) all ∙ drop_more n (length (colon_if last)) tail ∙ drop_colon last bs;
        }
    own false =
        let one : 0 + suc n ≡ suc n = omega arith in
        let all : 0 + suc n + length (colon_if last) ≡ suc (n + length (colon_if last)) = omega arith in
        record {
          left = refl;
          dashes = dash_run (suc n) tail (after_last last bs other);
          right = ap (λ (k : ℕ). run 58 (drop k (45 ∷ inside))) one ∙ ap (run 58) (drop_dashes n tail) ∙ colon_run last bs ((other_run 58 bs other).0 refl);
          rest = ap (λ (k : ℕ). drop k (45 ∷ inside)) all ∙ drop_more n (length (colon_if last)) tail ∙ drop_colon last bs;
        }

-- ---- nodes

marked : (text : List ℕ) (name : Name) (e : End) (k : ℕ) (m : Marks) → e.owed ≡ 0 → same_name name n.Data ≡ false
    → marks_in (void_nodes text name e (end_at (e.index + suc k) 0)) m ≡ mark name m
marked text name e k m bare other = ap (λ ns. marks_in ns m) (void_is text name e (end_at (e.index + suc k) 0) (omega arith) other)

colons : (text : List ℕ) (e : End) (first : Bool) (m : Marks) → e.owed ≡ 0
    → marks_in (void_nodes text n.GfmTableDelimiterMarker e (end_at (e.index + length (colon_if first)) 0)) m ≡ (if first then mark n.GfmTableDelimiterMarker m else m)
colons text e true m bare = marked text n.GfmTableDelimiterMarker e 0 m bare refl
colons text e false m bare =
    let here : e.index ≡ e.index + 0 = omega arith in
    ap (λ ns. marks_in ns m) (no_void text n.GfmTableDelimiterMarker e (end_at (e.index + 0) 0) (ap₂ end_at here bare))

marks_both : (ns ms : Nodes) (m : Marks) → marks_in (append ns ms) m ≡ marks_in ms (marks_in ns m)
marks_both Nil ms m = refl
marks_both (Cons (Around enter kids exit) ns) ms m = marks_both ns ms (marks_in kids (mark enter.name m))

pub named_void : (text : List ℕ) (name other : Name) (from to : End) → same_name other n.Data ≡ false → same_name other name ≡ false
    → named name (void_nodes text other from to) ≡ []
named_void text name other from to no_data apart =
    cond_both (same_end to from) Nil (cut (Around (enter_at text other from) Nil (exit_at text other to))) (λ ns. named name ns ≡ [])
    (λ _. refl)
    (λ _. ap (named name) (cond-false (same_name other n.Data && true) _ _ (ap (λ (b : Bool). b && true) no_data))
    ∙ ap (λ (xs : List Node). xs ++ []) (cond-false (same_name other name) (Around (enter_at text other from) Nil (exit_at text other to) ∷ []) [] apart))

aligned : (first last : Bool)
    → align_of (if last then mark n.GfmTableDelimiterMarker (mark n.GfmTableDelimiterFiller (if first then mark n.GfmTableDelimiterMarker (marks false false false) else marks false false false))
    else mark n.GfmTableDelimiterFiller (if first then mark n.GfmTableDelimiterMarker (marks false false false) else marks false false false)) ≡ alignment first last
aligned true true = refl
aligned true false = refl
aligned false true = refl
aligned false false = refl

-- ---- the row of the grammar

-- what is left of the row of a delimiter after the first colon, after the dashes, and of that around it
abbrev dashes_slots : List Slot
dashes_slots = one_slot n.GfmTableDelimiterFiller ∷ opt n.GfmTableDelimiterMarker ∷ []

abbrev colon_slots : List Slot
colon_slots = opt n.GfmTableDelimiterMarker ∷ []

abbrev bar_slots : List Slot
bar_slots = many n.GfmTableCellDivider ∷ []

-- dashes may follow, and then a colon or nothing
abbrev TakesDashes : List Slot → Type 0
TakesDashes slots = take_child slots n.GfmTableDelimiterFiller ≡ Some (took Plain colon_slots)

no_colon : (slots : List Slot) (text : List ℕ) (e : End) → e.owed ≡ 0
    → Fill Spaces slots (void_nodes text n.GfmTableDelimiterMarker e (end_at (e.index + 0) 0)) slots
no_colon slots text e bare =
    let here : e.index ≡ e.index + 0 = omega arith in
    subst (λ (ns : Nodes). Fill Spaces slots ns slots) (sym (no_void text n.GfmTableDelimiterMarker e (end_at (e.index + 0) 0) (ap₂ end_at here bare)))
    (fill_none Spaces slots)

one_colon : (slots rest : List Slot) (text : List ℕ) (e : End) → take_child slots n.GfmTableDelimiterMarker ≡ Some (took Plain rest)
    → Fill Spaces slots (void_nodes text n.GfmTableDelimiterMarker e (end_at (e.index + suc zero) 0)) rest
one_colon slots rest text e takes =
    void_taken Spaces slots n.GfmTableDelimiterMarker Plain rest text e (end_at (e.index + suc zero) 0)
    (further_apart e (end_at (e.index + suc zero) 0) (omega arith)) refl takes refl

dashes_fill : (slots : List Slot) (text : List ℕ) (e : End) (k : ℕ) → TakesDashes slots
    → Fill Spaces slots (void_nodes text n.GfmTableDelimiterFiller e (end_at (e.index + suc k) 0)) colon_slots
dashes_fill slots text e k takes =
    void_taken Spaces slots n.GfmTableDelimiterFiller Plain colon_slots text e (end_at (e.index + suc k) 0)
    (further_apart e (end_at (e.index + suc k) 0) (omega arith)) refl takes refl

first_fill : (text : List ℕ) (e : End) (first : Bool) → e.owed ≡ 0
    → FillsTo (row n.GfmTableDelimiterCellValue Plain) TakesDashes Spaces
    (void_nodes text n.GfmTableDelimiterMarker e (end_at (e.index + length (colon_if first)) 0))
first_fill text e true bare = record { rest = dashes_slots; fill = one_colon (row n.GfmTableDelimiterCellValue Plain) dashes_slots text e refl; ends = refl }
first_fill text e false bare = record {
  rest = row n.GfmTableDelimiterCellValue Plain;
  fill = no_colon (row n.GfmTableDelimiterCellValue Plain) text e bare;
  ends = refl;
}

last_fill : (text : List ℕ) (e : End) (last : Bool) → e.owed ≡ 0
    → FillsTo colon_slots MayEnd Spaces (void_nodes text n.GfmTableDelimiterMarker e (end_at (e.index + length (colon_if last)) 0))
last_fill text e true bare = record { rest = []; fill = one_colon colon_slots [] text e refl; ends = refl }
last_fill text e false bare = record { rest = colon_slots; fill = no_colon colon_slots text e bare; ends = refl }

-- ---- a delimiter

-- the nodes of the parts of a delimiter, from an end on
module _ (text : List ℕ) (e : End) (first last : Bool) (count : ℕ) where
  abbrev after_colon : End
  after_colon = end_at (e.index + length (colon_if first)) 0

  abbrev after_dashes : End
  after_dashes = end_at (after_colon.index + suc count) 0

  abbrev pub column_end : End
  column_end = end_at (after_dashes.index + length (colon_if last)) 0

  abbrev pub column_kids : Nodes
  column_kids =
      append (void_nodes text n.GfmTableDelimiterMarker e after_colon)
      (append (void_nodes text n.GfmTableDelimiterFiller after_colon after_dashes) (void_nodes text n.GfmTableDelimiterMarker after_dashes column_end))

  kids_marks : e.owed ≡ 0 → align_of (marks_in column_kids (marks false false false)) ≡ alignment first last
  kids_marks bare =
      let m = marks false false false in
      let left = void_nodes text n.GfmTableDelimiterMarker e after_colon in
      let fill = void_nodes text n.GfmTableDelimiterFiller after_colon after_dashes in
      let right = void_nodes text n.GfmTableDelimiterMarker after_dashes column_end in
      ap align_of
      (marks_both left (append fill right) m
      ∙ marks_both fill right (marks_in left m)
      ∙ ap (λ x. marks_in right (marks_in fill x)) (colons text e first m bare)
      ∙ ap (marks_in right) (marked text n.GfmTableDelimiterFiller after_colon count (if first then mark n.GfmTableDelimiterMarker m else m) refl refl)
      ∙ colons text after_dashes last (mark n.GfmTableDelimiterFiller (if first then mark n.GfmTableDelimiterMarker m else m)) refl)
      ∙ aligned first last

  none_named : (name : Name) → same_name n.GfmTableDelimiterMarker name ≡ false → same_name n.GfmTableDelimiterFiller name ≡ false → named name column_kids ≡ []
  none_named name a b =
      named_both name _ _
      ∙ ap₂ (λ (xs ys : List Node). xs ++ ys) (named_void text name n.GfmTableDelimiterMarker e after_colon refl a)
      (named_both name _ _
      ∙ ap₂ (λ (xs ys : List Node). xs ++ ys) (named_void text name n.GfmTableDelimiterFiller after_colon after_dashes refl b)
      (named_void text name n.GfmTableDelimiterMarker after_dashes column_end refl a))

  -- the node of a delimiter
  abbrev pub value_node : Node
  value_node = Around (enter_at text n.GfmTableDelimiterCellValue e) column_kids (exit_at text n.GfmTableDelimiterCellValue column_end)

  abbrev pub column_node : Node
  column_node = Around (enter_at text n.GfmTableDelimiterCell e) (one value_node) (exit_at text n.GfmTableDelimiterCell column_end)

  pub column_aligns : e.owed ≡ 0 → map value_align (named n.GfmTableDelimiterCellValue (one column_node)) ≡ alignment first last ∷ []
  column_aligns bare =
      ap (λ (xs : List Node). map value_align ((value_node ∷ xs ++ []) ++ [])) (none_named n.GfmTableDelimiterCellValue refl refl)
      ∙ ap (λ (a : AlignKind). a ∷ []) (kids_marks bare)

  pub column_definitions : named n.Definition (one column_node) ≡ []
  column_definitions = ap (λ (xs : List Node). (xs ++ []) ++ []) (none_named n.Definition refl refl)

  -- and fills its row
  value_filled : e.owed ≡ 0 → IsFilled Spaces Plain value_node
  value_filled bare =
      let left = first_fill text e first bare in
      let right = last_fill text after_dashes last refl in
      filled_by Spaces Plain n.GfmTableDelimiterCellValue right.rest value_node refl
      (fill_both left.fill (fill_both (dashes_fill left.rest text after_colon count left.ends) right.fill)) right.ends

  pub column_filled : e.owed ≡ 0 → IsFilled Spaces Plain column_node
  column_filled bare =
      filled_by Spaces Plain n.GfmTableDelimiterCell bar_slots column_node refl
      (fill_taken Spaces (row n.GfmTableDelimiterCell Plain) n.GfmTableDelimiterCellValue Plain bar_slots value_node refl refl (value_filled bare)) refl
