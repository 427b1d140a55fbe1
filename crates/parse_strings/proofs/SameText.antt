-- The words of a text don't change with the spaces and tabs at the starts of its lines (CommonMark 4.7 and 6.3).
use Rattle.std.proofs.Common.{◌≡◌, Bool, true, false, ◌||◌, ℕ, List, [], ◌∷◌, ◌++◌, inl, inr, refl, sym, ap, ◌∙◌, append_assoc}
use Rattle.parse_strings.proofs.Prelude.{cases_Bool, content_codes, if◌then◌else◌, is_eol, is_space, is_white}
use Rattle.definition_inline.specs.LabelMatch.{words}
use Rattle.inline_labels.proofs.LabelWords.{words-content_codes}
use Rattle.parse_alike.specs.LabelMatch.{HaveSameWords}
use Rattle.parse_alike.proofs.LabelMatch.{words-space}
use Rattle.parse_lines.specs.InContent.{IsSameText, unindented}

space_eol : (b : ℕ) → is_eol b ≡ true → is_space b ≡ true
space_eol b h = elim (cases_Bool (is_white b)) [ inl w ↦ ap (λ t. t || is_eol b) w | inr w ↦ ap (λ t. t || is_eol b) w ∙ h ]

space_white : (b : ℕ) → is_white b ≡ true → is_space b ≡ true
space_white b h = ap (λ t. t || is_eol b) h

-- one byte more, in a line of which these bytes are before it
one_in_line : (line : List ℕ) (b : ℕ) (bs : List ℕ) → words bs ≡ words (unindented true bs)
    → ((before : List ℕ) → words (before ++ bs) ≡ words (before ++ unindented false bs))
    → words (line ++ b ∷ bs) ≡ words (line ++ b ∷ unindented (is_eol b || false) bs)
one_in_line line b bs start within = elim (cases_Bool (is_eol b)) [
  | inl h ↦
      words-space line bs b (space_eol b h)
      ∙ ap (λ others. words line ++ others) start
      ∙ sym (words-space line (unindented true bs) b (space_eol b h))
      ∙ ap (λ t. words (line ++ b ∷ unindented (t || false) bs)) (sym h)
  | inr h ↦
      ap words (sym (append_assoc line (b ∷ []) bs))
      ∙ within (line ++ b ∷ [])
      ∙ ap words (append_assoc line (b ∷ []) (unindented false bs))
      ∙ ap (λ t. words (line ++ b ∷ unindented (t || false) bs)) (sym h)
]

mutual
  in_line : (line bs : List ℕ) → words (line ++ bs) ≡ words (line ++ unindented false bs)
  in_line line [] = refl
  in_line line (b ∷ bs) = one_in_line line b bs (at_start bs) (λ before. in_line before bs)

  at_start : (bs : List ℕ) → words bs ≡ words (unindented true bs)
  at_start [] = refl
  at_start (b ∷ bs) = elim (cases_Bool (is_white b)) [
    | inl w ↦
        words-space [] bs b (space_white b w)
        ∙ at_start bs
        ∙ ap (λ t. words (if t then unindented true bs else b ∷ unindented (is_eol b || t) bs)) (sym w)
    | inr w ↦
        one_in_line [] b bs (at_start bs) (λ before. in_line before bs)
        ∙ ap (λ t. words (if t then unindented true bs else b ∷ unindented (is_eol b || t) bs)) (sym w)
  ]

-- they don't count
unindented_words : (start : Bool) (bs : List ℕ) → words bs ≡ words (unindented start bs)
unindented_words true bs = at_start bs
unindented_words false bs = in_line [] bs

pub same_text_words : (start : Bool) (front region : List ℕ) → IsSameText start front region → HaveSameWords (content_codes front) (content_codes region)
same_text_words start front region h =
    words-content_codes front
    ∙ unindented_words start front
    ∙ ap words h.same
    ∙ sym (unindented_words start region)
    ∙ sym (words-content_codes region)
