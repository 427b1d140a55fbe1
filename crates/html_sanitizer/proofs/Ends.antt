-- A page up to a place, and what ends in it.
use Rattle.std.proofs.Common.{◌≡◌, ℕ, zero, suc, ◌+◌, ◌-◌, ◌<◌, ◌≤◌, Bool, true, false, not, ◌&&◌, ◌||◌, cond, eqb, List, [], ◌∷◌, ◌++◌, length, take, refl}
use Rattle.std.proofs.Common.{sym, ap, ◌∙◌}
use Rattle.std.proofs.Common.{Bor, arith, inl, inr, get_or}
use Rattle.std.specs.Prelude.{nat_lt, nat_le}
use Rattle.std.specs.List.{list_all, list_any, prefix_len}
use Rattle.std.proofs.lemmas.Bool.{cases_Bool, cond-true, cond-false, lt-ltb, le-ltb, leb-true, leb-false, and_parts, ne_eqb}
use Rattle.std.proofs.lemmas.List.{take_all}
use Rattle.definition_page.specs.Tags.{Tag, end_tag}
use Rattle.definition_html.specs.Listing.{is_in, is_part, PartRow, part_rows, parents_by, parents_of, heading_names, frame_names}
use Rattle.definition_html.specs.State.{State, state, level, says, with_open, opened, ended_of, ended, count_to, begins_with_frame, with_room}
use Rattle.definition_html.specs.Listed.{begun, begun_in, begun_heading, begins}
use Rattle.html_safe_page.specs.Views.{names_of, onto, open_names}
use Rattle.html_safe_page.proofs.Follow.{open_push}

-- a page in which this is printed and these raw elements are open, where a page was in this state
abbrev pub page_in : State → List ℕ → List (List ℕ) → State
page_in s out names = state out (level s.level.in_heading names) s.around

-- ---- ends

-- which elements are open before doesn't matter
ended_open : (n : ℕ) (names before : List (List ℕ)) (s : State) → ended_of n names (with_open before s) ≡ ended_of n names s
ended_open zero names before s = refl
ended_open (suc n) [] before s = refl
ended_open (suc n) (name ∷ names) before s = ended_open n names before (says (end_tag name) s)

pub ended_step : (s : State) (n : ℕ) (out name : List ℕ) (names : List (List ℕ)) → ended (suc n) (page_in s out (name ∷ names))
    ≡ ended n (page_in s (out ++ end_tag name) names)
ended_step s n out name names = sym (ended_open n names names (says (end_tag name) (page_in s out (name ∷ names))))

pub ended_none : (s : State) (n : ℕ) (out : List ℕ) → ended n (page_in s out []) ≡ page_in s out []
ended_none s zero out = refl
ended_none s (suc n) out = refl

-- one more ends
pub popped : (s : State) (left : ℕ) (out after : List ℕ) (items others : List (Bor (List ℕ))) (last : Bor (List ℕ)) (target : State) → 0 < left → items ≡ others
    ++ last ∷ []
    → after ≡ out ++ end_tag last.now → ended left (page_in s out (open_names items)) ≡ target → ended (left - 1) (page_in s after (open_names others)) ≡ target
popped s left out after items others last target some is printed e =
    let more : suc (left - 1) ≡ left = omega arith in
    ap (λ x. ended (left - 1) (page_in s x (open_names others))) printed
    ∙ sym (ended_step s (left - 1) out last.now (open_names others))
    ∙ ap (λ k. ended k (page_in s out (last.now ∷ open_names others))) more
    ∙ ap (λ ns. ended left (page_in s out ns)) (sym (ap open_names is ∙ open_push others last))
    ∙ e

-- none is left
pub all_popped : (s : State) (left : ℕ) (out : List ℕ) (items others : List (Bor (List ℕ))) (target : State) → length others ≡ 0 → items ≡ others ++ []
    → ended left (page_in s out (open_names items)) ≡ target → page_in s out (open_names others) ≡ target
all_popped s left out items [] target none is e =
    sym (ap (λ xs. ended left (page_in s out (open_names xs))) is ∙ ended_none s left out) ∙ e
all_popped s left out items (x ∷ xs) target none is e = absurd (omega arith)

-- ---- the last element of some names

abbrev pub is_other : List (List ℕ) → List ℕ → Bool
is_other wanted name = not (is_in wanted name)

pub stops_here : (wanted : List (List ℕ)) (name : List ℕ) (names : List (List ℕ)) → is_in wanted name ≡ true → prefix_len (is_other wanted) (name ∷ names) ≡ 0
stops_here wanted name names h = ap (λ t. cond (not t) (1 + prefix_len (is_other wanted) names) 0) h

pub goes_on : (wanted : List (List ℕ)) (name : List ℕ) (names : List (List ℕ)) → is_in wanted name ≡ false
    → prefix_len (is_other wanted) (name ∷ names) ≡ 1 + prefix_len (is_other wanted) names
goes_on wanted name names h = ap (λ t. cond (not t) (1 + prefix_len (is_other wanted) names) 0) h

-- the number is found
pub counted : (wanted names : List (List ℕ)) (above : ℕ) → prefix_len (is_other wanted) names ≡ above → above < length names → count_to wanted names ≡ above + 1
counted wanted names above e less =
    ap (λ k. cond (nat_lt k (length names)) (k + 1) 0) e ∙ cond-true (nat_lt above (length names)) (above + 1) 0 (lt-ltb above (length names) less)

-- nothing is found
pub counted_none : (wanted names : List (List ℕ)) → prefix_len (is_other wanted) names ≡ length names → count_to wanted names ≡ 0
counted_none wanted names e =
    ap (λ k. cond (nat_lt k (length names)) (k + 1) 0) e ∙ cond-false (nat_lt (length names) (length names)) (length names + 1) 0
    (le-ltb (length names) (length names) (omega arith))

-- ---- the place of an element

length_onto : (items : List (Bor (List ℕ))) (others : List (List ℕ)) → length (onto items others) ≡ length items + length others
length_onto [] others = omega arith
length_onto (x ∷ xs) others = length_onto xs (x.now ∷ others) ∙ add_more (length xs) (length others)
  where
    add_more : (m n : ℕ) → m + suc n ≡ suc m + n
    add_more m n = omega arith

pub length_open : (items : List (Bor (List ℕ))) → length (open_names items) ≡ length items
length_open items = omega (arith, length_onto items [])

abbrev pub not_empty : List (List ℕ) → Bool
not_empty [] = false
not_empty (x ∷ xs) = true

not_empty_if : (t : Bool) (a b : List (List ℕ)) (rest : Bool) → not_empty a ≡ true → rest ≡ not_empty b → (t || rest) ≡ not_empty (cond t a b)
not_empty_if true a b rest h e = sym h
not_empty_if false a b rest h e = e

parents_some : (rows : List PartRow) (name : List ℕ) → list_all (λ (row : PartRow). not_empty row.parents) rows ≡ true
    → list_any (λ (row : PartRow). is_in row.names name) rows ≡ not_empty (parents_by rows name)
parents_some [] name h = refl
parents_some (row ∷ rows) name h =
    let parts = and_parts (not_empty row.parents) (list_all (λ (row : PartRow). not_empty row.parents) rows) h in
    not_empty_if (is_in row.names name) row.parents (parents_by rows name) _ parts.0 (parents_some rows name parts.1)

rows_have : list_all (λ (row : PartRow). not_empty row.parents) part_rows ≡ true
unfolding part_rows
rows_have = refl

pub part_by_parents : (name : List ℕ) → is_part name ≡ not_empty (parents_of name)
part_by_parents name = parents_some part_rows name rows_have

pub empty_texts : (items : List (Bor (List ℕ))) → not_empty (names_of items) ≡ not (eqb (length items) 0)
empty_texts [] = refl
empty_texts (x ∷ xs) = sym (ap not (ne_eqb (suc (length xs)) 0 (λ e. omega (arith, e))))

-- there is room for one more, or not
begun_found : (next : State → State) (t : Tag) (s : State) (n : ℕ) (found : Bool) → n ≡ length s.level.names → found ≡ nat_lt n 50
    → begun next t s ≡ cond found (next (opened t s)) s
begun_found next t s n found size test = elim (cases_Bool (nat_le 50 (length s.level.names))) [
  | inl h ↦
      let le = leb-true 50 (length s.level.names) h in
      cond-true (nat_le 50 (length s.level.names)) s _ h ∙ sym (cond-false found _ s (test ∙ le-ltb n 50 (omega arith)))
  | inr h ↦
      let less = leb-false 50 (length s.level.names) h in
      cond-false (nat_le 50 (length s.level.names)) s _ h ∙ sym (cond-true found _ s (test ∙ lt-ltb n 50 (omega arith)))
]

and_none : (a : Bool) → (a && false) ≡ false
and_none true = refl
and_none false = refl

and_all : (a : Bool) → (a && true) ≡ a
and_all true = refl
and_all false = refl

-- a heading begins in no heading
heading_found : (h : Bool) (next : State → State) (t : Tag) (s : State) (n : ℕ) (found : Bool) → n ≡ length s.level.names
    → found ≡ (nat_lt n 50 && not (s.level.in_heading && h))
    → cond h (begun_heading next t s) (begun next t s) ≡ cond found (next (opened t s)) s
heading_found h next t s n found size test = elim (cases_Bool (s.level.in_heading && h)) [
  | inl e ↦
      let both = and_parts s.level.in_heading h e in
      cond-true h (begun_heading next t s) (begun next t s) both.1
      ∙ cond-true s.level.in_heading s (begun next t s) both.0
      ∙ sym (cond-false found (next (opened t s)) s (test ∙ ap (λ x. nat_lt n 50 && not x) e ∙ and_none (nat_lt n 50)))
  | inr e ↦ skipped h e ∙ begun_found next t s n found size (test ∙ ap (λ x. nat_lt n 50 && not x) e ∙ and_all (nat_lt n 50))
]
  where
    skipped : (h : Bool) → (s.level.in_heading && h) ≡ false → cond h (begun_heading next t s) (begun next t s) ≡ begun next t s
    skipped true e = cond-false s.level.in_heading s (begun next t s) (sym (and_all s.level.in_heading) ∙ e)
    skipped false e = refl

-- an element that is no part
pub place_free : (next : State → State) (t : Tag) (s after : State) (name : List ℕ) (n : ℕ) (found : Bool) → t.name ≡ name → not_empty (parents_of name) ≡ false
    → after ≡ with_room name s → n ≡ length after.level.names → found ≡ (nat_lt n 50 && not (after.level.in_heading && is_in heading_names name))
    → begins next t s ≡ cond found (next (opened t after)) after
place_free next t s after name n found e free room size test =
    let here : after ≡ with_room t.name s = room ∙ ap (λ x. with_room x s) (sym e) in
    cond-false (is_part t.name) _ _ (ap is_part e ∙ part_by_parents name ∙ free)
    ∙ ap (λ u. cond (is_in heading_names t.name) (begun_heading next t u) (begun next t u)) (sym here)
    ∙ heading_found (is_in heading_names t.name) next t after n found size
    (test ∙ ap (λ x. nat_lt n 50 && not (after.level.in_heading && is_in heading_names x)) (sym e))

count_same : (t : Tag) (s : State) (name : List ℕ) (parents : List (List ℕ)) (count : ℕ) → t.name ≡ name → parents ≡ parents_of name
    → count ≡ count_to parents s.level.names → count_to (parents_of t.name) s.level.names ≡ count
count_same t s name parents count e p c = ap (λ x. count_to (parents_of x) s.level.names) e ∙ ap (λ x. count_to x s.level.names) (sym p) ∙ sym c

-- a part without its parent
pub place_none : (next : State → State) (t : Tag) (s : State) (name : List ℕ) (parents : List (List ℕ)) (count : ℕ) → t.name ≡ name → parents ≡ parents_of name
    → not_empty parents ≡ true → count ≡ count_to parents s.level.names → count ≡ 0 → begins next t s ≡ s
place_none next t s name parents count e p some c none =
    cond-true (is_part t.name) _ _ (ap is_part e ∙ part_by_parents name ∙ ap not_empty (sym p) ∙ some)
    ∙ ap (λ k. begun_in next k t s) (count_same t s name parents count e p c ∙ none)

-- a part in its parent
pub place_part : (next : State → State) (t : Tag) (s after : State) (name : List ℕ) (parents : List (List ℕ)) (count n : ℕ) (found : Bool) → t.name ≡ name
    → parents ≡ parents_of name → not_empty parents ≡ true → count ≡ count_to parents s.level.names → (count ≡ 0 → ⊥) → after ≡ ended (count - 1) s
    → n ≡ length after.level.names → found ≡ nat_lt n 50 → begins next t s ≡ cond found (next (opened t after)) after
place_part next t s after name parents count n found e p some c more is size test =
    let above : count ≡ suc (count - 1) = omega (arith, more) in
    cond-true (is_part t.name) _ _ (ap is_part e ∙ part_by_parents name ∙ ap not_empty (sym p) ∙ some)
    ∙ ap (λ k. begun_in next k t s) (count_same t s name parents count e p c ∙ above)
    ∙ ap (begun next t) (sym is)
    ∙ begun_found next t after n found size test

-- ---- the search for the last one of some names

-- a name in its place
open_take : (items : List (Bor (List ℕ))) (k : ℕ) (others : List (List ℕ)) → k < length items
    → onto (take (suc k) items) others ≡ get_or (names_of items) k [] ∷ onto (take k items) others
open_take [] k others h = absurd (omega arith)
open_take (x ∷ xs) zero others h = refl
open_take (x ∷ xs) (suc k) others h = open_take xs k (x.now ∷ others) (omega arith)

-- so many are passed
pub record ArePassed (wanted : List (List ℕ)) (items : List (Bor (List ℕ))) (count : ℕ) : Type 0 where
  pub within : count ≤ length items
  pub passed : prefix_len (is_other wanted) (open_names items) ≡ count + prefix_len (is_other wanted) (open_names (take (length items - count) items))

pub none_passed : (wanted : List (List ℕ)) (items : List (Bor (List ℕ))) → ArePassed wanted items 0
none_passed wanted items =
    let whole : take (length items - 0) items ≡ items = take_all (length items - 0) items (omega arith) in
    let same = ap (λ xs. prefix_len (is_other wanted) (open_names xs)) whole in
    record { within = omega arith; passed = omega (arith, same) }

module _ (wanted : List (List ℕ)) (items : List (Bor (List ℕ))) (count : ℕ) (name : List ℕ) (so : ArePassed wanted items count) (more : count < length items)
    (is : name ≡ get_or (names_of items) (length items - 1 - count) []) where
  next_name : open_names (take (length items - count) items) ≡ name ∷ open_names (take (length items - (count + 1)) items)
  next_name =
      let k : length items - count ≡ suc (length items - 1 - count) = omega arith in
      let before : length items - 1 - count ≡ length items - (count + 1) = omega arith in
      ap (λ n. open_names (take n items)) k ∙ open_take items (length items - 1 - count) [] (omega arith)
      ∙ ap (λ n. n ∷ open_names (take (length items - 1 - count) items)) (sym is)
      ∙ ap (λ n. name ∷ open_names (take n items)) before

  pub one_passed : is_in wanted name ≡ false → ArePassed wanted items (count + 1)
  one_passed other =
      let step : prefix_len (is_other wanted) (open_names (take (length items - count) items))
      ≡ 1 + prefix_len (is_other wanted) (open_names (take (length items - (count + 1)) items)) =
      ap (prefix_len (is_other wanted)) next_name ∙ goes_on wanted name (open_names (take (length items - (count + 1)) items)) other in
      record { within = omega arith; passed = omega (arith, so.passed, step) }

  pub found_here : is_in wanted name ≡ true → count + 1 ≡ count_to wanted (open_names items)
  found_here found =
      let step : prefix_len (is_other wanted) (open_names (take (length items - count) items)) ≡ 0 =
      ap (prefix_len (is_other wanted)) next_name ∙ stops_here wanted name (open_names (take (length items - (count + 1)) items)) found in
      let long = length_open items in
      sym (counted wanted (open_names items) count (omega (arith, so.passed, step)) (omega (arith, long, more)))

pub found_nowhere : (wanted : List (List ℕ)) (items : List (Bor (List ℕ))) (count : ℕ) → ArePassed wanted items count → length items ≤ count
    → 0 ≡ count_to wanted (open_names items)
found_nowhere wanted items count so all =
    let long = length_open items in
    let rest : take (length items - count) items ≡ [] = ap (λ n. take n items) (nothing (length items) count all) in
    let none = ap (λ xs. prefix_len (is_other wanted) (open_names xs)) rest in
    sym (counted_none wanted (open_names items) (omega (arith, so.passed, so.within, none, long, all)))
  where
    nothing : (m n : ℕ) → m ≤ n → m - n ≡ 0
    nothing m n le = omega arith

-- the last one holds nothing but its parts and text
pub frame_last : (items before : List (Bor (List ℕ))) (last : Bor (List ℕ)) → items ≡ before ++ last ∷ [] → is_in frame_names last.now
    ≡ begins_with_frame (open_names items)
frame_last items before last is = sym (ap begins_with_frame (ap open_names is ∙ open_push before last))

pub frame_none : (items : List (Bor (List ℕ))) → length items ≡ 0 → false ≡ begins_with_frame (open_names items)
frame_none [] h = refl
frame_none (x ∷ xs) h = absurd (omega arith)
