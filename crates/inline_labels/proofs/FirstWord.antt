-- The first word of a label, and the words after it.
use Rattle.std.proofs.Common.{◌≡◌, ℕ, ◌<◌, ◌+◌, suc, true, false, cond, not, List, [], ◌∷◌, take, drop, length, refl, sym, ap, ap₂, ◌∙◌, inl, inr, arith}
use Rattle.std.specs.List.{filter, onto_first, prefix_len, position_or_len, slice_split}
use Rattle.std.proofs.lemmas.Bool.{cases_Bool, cond-true, cond-false}
use Rattle.std.proofs.lemmas.List.{nil_from_length}
use Rattle.definition_text.specs.Content.{is_space}
use Rattle.definition_inline.specs.LabelMatch.{is_word, words}

words-cons_white : (b : ℕ) (bs : List ℕ) → is_space b ≡ true → words (b ∷ bs) ≡ words bs
words-cons_white b bs white = ap (filter is_word) (cond-true (is_space b) _ _ white)

drop-one_more : (n : ℕ) (b : ℕ) (bs : List ℕ) → drop (1 + n) (b ∷ bs) ≡ drop n bs
drop-one_more n b bs = let e : 1 + n ≡ suc n = omega arith in ap (λ k. drop k (b ∷ bs)) e

take-one_more : (n : ℕ) (b : ℕ) (bs : List ℕ) → take (1 + n) (b ∷ bs) ≡ b ∷ take n bs
take-one_more n b bs = let e : 1 + n ≡ suc n = omega arith in ap (λ k. take k (b ∷ bs)) e

-- white space before the words
pub words-bare : (bs : List ℕ) → words (drop (prefix_len is_space bs) bs) ≡ words bs
words-bare [] = refl
words-bare (b ∷ bs) = elim (cases_Bool (is_space b)) [
  | inl white ↦
      ap (λ n. words (drop n (b ∷ bs))) (cond-true (is_space b) _ _ white)
      ∙ ap words (drop-one_more (prefix_len is_space bs) b bs)
      ∙ words-bare bs
      ∙ sym (words-cons_white b bs white)
  | inr black ↦ ap (λ n. words (drop n (b ∷ bs))) (cond-false (is_space b) _ _ black)
]

bare_first : (bs : List ℕ) → prefix_len is_space (drop (prefix_len is_space bs) bs) ≡ 0
bare_first [] = refl
bare_first (b ∷ bs) = elim (cases_Bool (is_space b)) [
  | inl white ↦
      ap (λ n. prefix_len is_space (drop n (b ∷ bs))) (cond-true (is_space b) _ _ white)
      ∙ ap (prefix_len is_space) (drop-one_more (prefix_len is_space bs) b bs)
      ∙ bare_first bs
  | inr black ↦ ap (λ n. prefix_len is_space (drop n (b ∷ bs))) (cond-false (is_space b) _ _ black) ∙ cond-false (is_space b) _ _ black
]

abbrev word_end : List ℕ → ℕ
word_end bs = position_or_len is_space bs

-- the first part ends at the first white byte, and the other parts have the words from there on
record SplitsFirst (bs : List ℕ) : Type 0 where
  others : List (List ℕ)
  parts : slice_split is_space bs ≡ take (word_end bs) bs ∷ others
  left : filter is_word others ≡ words (drop (word_end bs) bs)

splits_first : (bs : List ℕ) → SplitsFirst bs
splits_first [] = record { others = []; parts = refl; left = refl }
splits_first (b ∷ bs) = elim (cases_Bool (is_space b)) [
  | inl white ↦
      let here : word_end (b ∷ bs) ≡ 0 = cond-false (not (is_space b)) _ _ (ap not white) in
      record {
        others = slice_split is_space bs;
        parts = cond-true (is_space b) _ _ white ∙ sym (ap (λ n. take n (b ∷ bs) ∷ slice_split is_space bs) here);
        left = sym (words-cons_white b bs white) ∙ sym (ap (λ n. words (drop n (b ∷ bs))) here);
      }
  | inr black ↦
      let more = splits_first bs in
      let there : word_end (b ∷ bs) ≡ 1 + word_end bs = cond-true (not (is_space b)) _ _ (ap not black) in
      record {
        others = more.others;
        parts =
            cond-false (is_space b) _ _ black
            ∙ ap (onto_first b) more.parts
            ∙ sym (ap (λ part. part ∷ more.others) (ap (λ n. take n (b ∷ bs)) there ∙ take-one_more (word_end bs) b bs));
        left = more.left ∙ sym (ap (λ n. words (drop n (b ∷ bs))) there ∙ ap words (drop-one_more (word_end bs) b bs));
      }
]

words-cons_black : (b : ℕ) (bs : List ℕ) → is_space b ≡ false → words (b ∷ bs) ≡ take (word_end (b ∷ bs)) (b ∷ bs) ∷ words (drop (word_end (b ∷ bs)) (b ∷ bs))
words-cons_black b bs black =
    let first = splits_first (b ∷ bs) in
    let there : word_end (b ∷ bs) ≡ 1 + word_end bs = cond-true (not (is_space b)) _ _ (ap not black) in
    let word : take (word_end (b ∷ bs)) (b ∷ bs) ≡ b ∷ take (word_end bs) bs = ap (λ n. take n (b ∷ bs)) there ∙ take-one_more (word_end bs) b bs in
    ap (filter is_word) first.parts
    ∙ ap₂ (λ part left. cond (is_word part) (take (word_end (b ∷ bs)) (b ∷ bs) ∷ left) left) word first.left

-- nothing but white space
pub no_words : (bs : List ℕ) → length (drop (prefix_len is_space bs) bs) ≡ 0 → words bs ≡ []
no_words bs none = sym (words-bare bs) ∙ ap words (nil_from_length (drop (prefix_len is_space bs) bs) none)

some_word : (rest : List ℕ) → prefix_len is_space rest ≡ 0 → 0 < length rest → words rest ≡ take (word_end rest) rest ∷ words (drop (word_end rest) rest)
some_word [] bare some = absurd (omega arith)
some_word (b ∷ bs) bare some = elim (cases_Bool (is_space b)) [
  | inl white ↦ absurd (let e : 1 + prefix_len is_space bs ≡ 0 = sym (cond-true (is_space b) _ _ white) ∙ bare in omega arith)
  | inr black ↦ words-cons_black b bs black
]

-- the first word, and what follows it
pub first_word : (bs rest : List ℕ) → rest ≡ drop (prefix_len is_space bs) bs → 0 < length rest
    → words bs ≡ take (word_end rest) rest ∷ words (drop (word_end rest) rest)
first_word bs rest is some = sym (words-bare bs) ∙ ap words (sym is) ∙ some_word rest (ap (prefix_len is_space) is ∙ bare_first bs) some
