-- A label matches by its bytes as by its codes, and without the columns of a tab before it.
use Rattle.std.proofs.Common.{◌≡◌, ℕ, zero, suc, List, [], ◌∷◌, ◌++◌, Bool, true, false, if◌then◌else◌, refl, sym, ap, ap₂, subst, ◌∙◌, drop, length, ◌≤◌, ◌<◌, arith}
use Rattle.std.specs.Prelude.{◌==◌, replicate, slice_index_or}
use Rattle.std.specs.List.{filter, join_by, onto_first, slice_split}
use Rattle.parse_events.proofs.Prelude.{Code, eqb-true, first_codes, is_space, normal_label, Piece, piece_lines}
use Rattle.std.proofs.lemmas.List.Splits.{slice_split-cons_yes, slice_split-cons_no}
use Rattle.definition_text.specs.Ascii.{carriage_return, line_feed, space}
use Rattle.definition_text.specs.Columns.{tab_column}
use Rattle.definition_text.specs.Content.{after_return_code, content_codes, return_and_feed}
use Rattle.definition_inline.specs.LabelMatch.{fold_word, is_word, words}

-- what stands before the first space, and the words after it
abbrev parts : List Code → List (List Code)
parts cs = slice_split is_space cs

abbrev first_part : List (List Code) → List Code
first_part [] = []
first_part (p ∷ ps) = p

abbrev other_words : List (List Code) → List (List Code)
other_words [] = []
other_words (p ∷ ps) = filter is_word ps

abbrev Alike : List Code → List Code → Type 0
Alike cs ds = (first_part (parts cs) ≡ first_part (parts ds)) × (other_words (parts cs) ≡ other_words (parts ds))

abbrev with_first : List Code → List (List Code) → List (List Code)
with_first p ws = if is_word p then p ∷ ws else ws

words_are : (xs : List (List Code)) → filter is_word xs ≡ with_first (first_part xs) (other_words xs)
words_are [] = refl
words_are (p ∷ ps) = refl

same_words : (cs ds : List Code) → Alike cs ds → words cs ≡ words ds
same_words cs ds alike = words_are (parts cs) ∙ ap₂ with_first alike.0 alike.1 ∙ sym (words_are (parts ds))

-- ---- one code more

after_space : (c d : Code) (cs ds : List Code) → is_space c ≡ true → is_space d ≡ true → words cs ≡ words ds → Alike (c ∷ cs) (d ∷ ds)
after_space c d cs ds c_is d_is same = (
  ap first_part (slice_split-cons_yes is_space c cs c_is) ∙ sym (ap first_part (slice_split-cons_yes is_space d ds d_is)),
  ap other_words (slice_split-cons_yes is_space c cs c_is) ∙ same ∙ sym (ap other_words (slice_split-cons_yes is_space d ds d_is)),
)

first_onto : (c : Code) (xs : List (List Code)) → first_part (onto_first c xs) ≡ c ∷ first_part xs
first_onto c [] = refl
first_onto c (p ∷ ps) = refl

others_onto : (c : Code) (xs : List (List Code)) → other_words (onto_first c xs) ≡ other_words xs
others_onto c [] = refl
others_onto c (p ∷ ps) = refl

after_letter : (c : Code) (cs ds : List Code) → is_space c ≡ false → Alike cs ds → Alike (c ∷ cs) (c ∷ ds)
after_letter c cs ds isnt alike = (
  ap first_part (slice_split-cons_no is_space c cs isnt) ∙ first_onto c (parts cs) ∙ ap (λ p. c ∷ p) alike.0
      ∙ sym (first_onto c (parts ds)) ∙ sym (ap first_part (slice_split-cons_no is_space c ds isnt)),
  ap other_words (slice_split-cons_no is_space c cs isnt) ∙ others_onto c (parts cs) ∙ alike.1
      ∙ sym (others_onto c (parts ds)) ∙ sym (ap other_words (slice_split-cons_no is_space c ds isnt)),
)

after_same : (t : Bool) (c : Code) (cs ds : List Code) → is_space c ≡ t → Alike cs ds → Alike (c ∷ cs) (c ∷ ds)
after_same true c cs ds is alike = after_space c c cs ds is is (same_words cs ds alike)
after_same false c cs ds is alike = after_letter c cs ds is alike

-- ---- bytes and their codes

return_if : (t : Bool) (b : ℕ) (bs : List ℕ) → (b == line_feed) ≡ t → Alike (content_codes (b ∷ bs)) (b ∷ bs) → Alike (content_codes bs) bs
    → Alike (if t then return_and_feed ∷ drop 1 (content_codes (b ∷ bs)) else carriage_return ∷ content_codes (b ∷ bs)) (carriage_return ∷ b ∷ bs)
return_if true b bs is here more =
    subst (λ x. Alike (return_and_feed ∷ drop 1 (content_codes (x ∷ bs))) (carriage_return ∷ x ∷ bs)) (sym (eqb-true b line_feed is))
    (after_space return_and_feed carriage_return (content_codes bs) (line_feed ∷ bs) refl refl (same_words (content_codes bs) bs more))
return_if false b bs is here more =
    after_space carriage_return carriage_return (content_codes (b ∷ bs)) (b ∷ bs) refl refl (same_words (content_codes (b ∷ bs)) (b ∷ bs) here)

after_return : (bs : List ℕ) → Alike (content_codes bs) bs → Alike (content_codes (drop 1 bs)) (drop 1 bs)
    → Alike (after_return_code bs (content_codes bs)) (carriage_return ∷ bs)
after_return [] here more = (refl, refl)
after_return (b ∷ bs) here more = return_if (b == line_feed) b bs refl here more

code_if : (t : Bool) (b : ℕ) (bs : List ℕ) → (b == carriage_return) ≡ t → Alike (content_codes bs) bs → Alike (content_codes (drop 1 bs)) (drop 1 bs)
    → Alike (if t then after_return_code bs (content_codes bs) else b ∷ content_codes bs) (b ∷ bs)
code_if true b bs is here more =
    subst (λ x. Alike (after_return_code bs (content_codes bs)) (x ∷ bs)) (sym (eqb-true b carriage_return is)) (after_return bs here more)
code_if false b bs is here more = after_same (is_space b) b (content_codes bs) bs refl here

alike_from : (bs : List ℕ) → Alike (content_codes bs) bs × Alike (content_codes (drop 1 bs)) (drop 1 bs)
alike_from [] = ((refl, refl), (refl, refl))
alike_from (b ∷ bs) = let others = alike_from bs in (code_if (b == carriage_return) b bs refl others.0 others.1, others.0)

without_columns : (n : ℕ) (cs : List Code) → normal_label (replicate n tab_column ++ cs) ≡ normal_label cs
without_columns zero cs = refl
without_columns (suc n) cs = without_columns n cs

label_codes : (n : ℕ) (bs : List ℕ) → normal_label (content_codes bs) ≡ normal_label (replicate n tab_column ++ bs)
label_codes n bs = ap (join_by fold_word (space ∷ [])) (same_words (content_codes bs) bs (alike_from bs).0) ∙ sym (without_columns n bs)

-- the label on the first line
pub label_first : (lines : List Piece) (other : Piece) → 1 ≤ length lines
    → normal_label (content_codes (slice_index_or lines 0 other).text.now) ≡ normal_label (first_codes (piece_lines lines))
label_first [] other enough = absurd (omega (arith, enough))
label_first (line ∷ lines) other enough = label_codes line.owed line.text.now

pub label_none : (lines : List Piece) → length lines < 1 → [] ≡ normal_label (first_codes (piece_lines lines))
label_none [] none = refl
label_none (line ∷ lines) none = absurd (omega (arith, none))
