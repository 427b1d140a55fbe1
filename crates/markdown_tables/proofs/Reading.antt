-- Rows that are read line by line.
use Rattle.std.proofs.Common.{◌≡◌, ℕ, ◌+◌, ◌≤◌, suc, Bool, true, cond, eqb, List, [], ◌∷◌, ◌++◌, Option, None, Some, length, refl, sym, ap, ◌∙◌, subst, inl}
use Rattle.std.proofs.Common.{inr, arith, append-nil, append_assoc, length-drop}
use Rattle.std.specs.Prelude.{option_to_list, is_some, bytes_eq}
use Rattle.std.specs.List.{cons_option, filter_map, find}
use Rattle.std.specs.Option.{option_map, option_or}
use Rattle.std.proofs.lemmas.Bool.{cases_Bool, cond-false}
use Rattle.std.proofs.lemmas.Slice.Eq.{bytes_eq-Decides}
use Rattle.definition_inline.specs.CharacterReference.{Names}
use Rattle.definition_text.specs.Lines.{TextLine, after_return, in_first_line, lines}
use Rattle.definition_inline.specs.ReferenceRows.{Row, row_of, rows, text_in}
use Rattle.markdown_tables.specs.declared.rows_error.RowsError.{RowsError}
use Rattle.markdown_tables.specs.declared.rows_error.RowsError.TheVariants.{Repeated}
use Rattle.markdown_tables.specs.RowsFaults.{first_fault, line_fault, row_fault, text_fault}

-- no row before has the name of a row that is added: then its text is that of its name, and the others stay
pub text_in-added : (earlier : List Row) (r : Row) (name : List ℕ) → text_in earlier r.name ≡ None
    → text_in (earlier ++ r ∷ []) name ≡ cond (bytes_eq r.name name) (Some r.text) (text_in earlier name)
text_in-added [] r name new =
    elim (cases_Bool (bytes_eq r.name name)) [
      | inl p ↦ rw p refl
      | inr p ↦ rw p refl
    ]
text_in-added (x ∷ xs) r name new =
    let texts : Option Row → Option (List ℕ) = option_map (λ (row : Row). row.text) in
    let is : List ℕ → Row → Bool = λ n row. bytes_eq row.name n in
    elim (cases_Bool (bytes_eq x.name r.name)) [
      | inl p ↦ let found = ap (λ b. texts (cond b (Some x) (find (is r.name) xs))) (sym p) ∙ new in cc
      | inr p ↦
          let later : text_in xs r.name ≡ None = ap (λ b. texts (cond b (Some x) (find (is r.name) xs))) (sym p) ∙ new in
          elim (cases_Bool (bytes_eq x.name name)) [
            | inl q ↦
                let same : x.name ≡ name = (bytes_eq-Decides x.name name).0 q in
                elim (cases_Bool (bytes_eq r.name name)) [
                  | inl t ↦
                      let other : r.name ≡ name = (bytes_eq-Decides r.name name).0 t in
                      let both : bytes_eq x.name r.name ≡ true = (bytes_eq-Decides x.name r.name).1 (same ∙ sym other) in cc
                  | inr t ↦ ap (λ b. texts (cond b (Some x) (find (is name) (xs ++ r ∷ [])))) q ∙ sym (ap (λ b. texts (cond b (Some x) (find (is name) xs))) q)
                      ∙ sym (cond-false (bytes_eq r.name name) (Some r.text) (text_in (x ∷ xs) name) t)
                ]
            | inr q ↦
                ap (λ b. texts (cond b (Some x) (find (is name) (xs ++ r ∷ [])))) q ∙ text_in-added xs r name later
                ∙ ap (λ t. cond (bytes_eq r.name name) (Some r.text) t) (sym (ap (λ b. texts (cond b (Some x) (find (is name) xs))) q))
          ]
    ]

-- a row whose name is new
pub row_added : (number : ℕ) (blank : Bool) (earlier : List Row) (found : Option Row) (r : Row) (old new : Names) → found ≡ Some r
    → ((name : List ℕ) → old name ≡ text_in earlier name) → old r.name ≡ None
    → ((name : List ℕ) → new name ≡ cond (bytes_eq r.name name) (Some r.text) (old name))
    → (row_fault number earlier blank found ≡ None) × ((name : List ℕ) → new name ≡ text_in (earlier ++ option_to_list found) name)
row_added number blank earlier None r old new is has fresh put = cc
row_added number blank earlier (Some x) r old new is has fresh put =
    let same : x ≡ r = cc in
    let absent : text_in earlier r.name ≡ None = sym (has r.name) ∙ fresh in
    subst (λ (y : Row). (row_fault number earlier blank (Some y) ≡ None) × ((name : List ℕ) → new name ≡ text_in (earlier ++ y ∷ []) name)) (sym same) (
      ap (λ t. cond (is_some t) (Some (Repeated number)) None) absent,
      λ name. put name ∙ ap (cond (bytes_eq r.name name) (Some r.text)) (has name) ∙ sym (text_in-added earlier r name absent),
    )

-- ---- lines

in_first_line-count : (b : ℕ) (ls : List TextLine) (n : ℕ) → length ls ≤ n → length (in_first_line b ls) ≤ suc n
in_first_line-count b [] n h = omega arith
in_first_line-count b (line ∷ ls) n h = omega (arith, h)

after_return-count : (bs : List ℕ) (ls : List TextLine) (n : ℕ) → length ls ≤ n → length (after_return bs ls) ≤ suc n
after_return-count [] ls n h = omega (arith, h)
after_return-count (b ∷ bs) ls n h =
    elim (cases_Bool (eqb b 10)) [
      | inl p ↦ rw p (omega (arith, h, length-drop 1 ls))
      | inr p ↦ rw p (omega (arith, h))
    ]

-- a text has no more lines than bytes
pub lines-count : (text : List ℕ) → length (lines text) ≤ length text
lines-count [] = omega arith
lines-count (b ∷ bs) =
    let fewer = lines-count bs in
    elim (cases_Bool (eqb b 10)) [
      | inl p ↦ rw p (omega (arith, fewer))
      | inr p ↦
          elim (cases_Bool (eqb b 13)) [
            | inl q ↦ rw (p, q) (after_return-count bs (lines bs) (length bs) fewer)
            | inr q ↦ rw (p, q) (in_first_line-count b (lines bs) (length bs) fewer)
          ]
    ]

abbrev rows_on : List TextLine → List Row
rows_on ls = filter_map (λ (line : TextLine). row_of line.content) ls

-- after so many lines, which hold these rows and no fault, this is left of a text
pub record IsAfter (text : List ℕ) (number : ℕ) (earlier : List Row) (rest : List ℕ) : Type 0 where
  pub faultless : text_fault text ≡ first_fault (number + 1) earlier (lines rest)
  pub together : rows text ≡ earlier ++ rows rest
  pub counted : number + length (lines rest) ≡ length (lines text)

pub after-none : (text : List ℕ) → IsAfter text 0 [] text
after-none text = record { faultless = refl; together = refl; counted = omega arith }

cons_option-joined : (earlier : List Row) (found : Option Row) (others : List Row)
    → earlier ++ cons_option found others ≡ (earlier ++ option_to_list found) ++ others
cons_option-joined earlier None others = ap (λ l. l ++ others) (sym (append-nil earlier))
cons_option-joined earlier (Some r) others = sym (append_assoc earlier (r ∷ []) others)

-- a line more, without a fault
pub after-line : (text : List ℕ) (number : ℕ) (earlier : List Row) (rest : List ℕ) (line : TextLine) (others : List ℕ) → IsAfter text number earlier rest
    → lines rest ≡ line ∷ lines others → line_fault (number + 1) earlier line.content ≡ None
    → IsAfter text (number + 1) (earlier ++ option_to_list (row_of line.content)) others
after-line text number earlier rest line others so_far first fine =
    let later = first_fault (number + 1 + 1) (earlier ++ option_to_list (row_of line.content)) (lines others) in
    let size : length (lines rest) ≡ suc (length (lines others)) = ap length first in
    record {
      faultless = so_far.faultless ∙ ap (first_fault (number + 1) earlier) first ∙ ap (λ f. option_or f later) fine;
      together = so_far.together ∙ ap (λ ls. earlier ++ rows_on ls) first ∙ cons_option-joined earlier (row_of line.content) (rows others);
      counted = omega (arith, so_far.counted, size);
    }

-- or with one
pub fault-line : (text : List ℕ) (number : ℕ) (earlier : List Row) (rest : List ℕ) (line : TextLine) (others : List ℕ) (fault : RowsError)
    → IsAfter text number earlier rest
    → lines rest ≡ line ∷ lines others → line_fault (number + 1) earlier line.content ≡ Some fault → text_fault text ≡ Some fault
fault-line text number earlier rest line others fault so_far first found =
    let later = first_fault (number + 1 + 1) (earlier ++ option_to_list (row_of line.content)) (lines others) in
    so_far.faultless ∙ ap (first_fault (number + 1) earlier) first ∙ ap (λ f. option_or f later) found

-- at the end nothing is at fault, and all rows are there
pub after-all : (text : List ℕ) (number : ℕ) (earlier : List Row) → IsAfter text number earlier [] → (text_fault text ≡ None) × (rows text ≡ earlier)
after-all text number earlier so_far = (so_far.faultless, so_far.together ∙ append-nil earlier)
