-- Character references in codes and in bytes.
use Rattle.std.proofs.Common.{◌≡◌, ℕ, suc, ◌+◌, ◌-◌, List, [], ◌∷◌, ◌++◌, Bool, true, false, cond, ◌&&◌, ◌||◌, eqb, leb, Option, None, Some, refl, sym, ap, ◌∙◌}
use Rattle.std.proofs.Common.{append_assoc, get_or, length, length-append, drop, take, arith, inl, inr}
use Rattle.std.proofs.lemmas.Bool.{cases_Bool, cond-true, cond-false, eqb-true, eqb-false, ne_eqb}
use Rattle.std.proofs.lemmas.List.Sums.{prefix_len-le-length}
use Rattle.std.proofs.lemmas.List.{drop-drop, take-append-drop}
use Rattle.std.proofs.Math.Seq.{drop-append_seam, get_or-append_seam}
use Rattle.std.specs.Char.{is_ascii_digit, is_ascii_hexdigit, is_ascii_alphanumeric}
use Rattle.std.specs.List.{prefix_len}
use Rattle.std.specs.Option.{option_map}
use Rattle.markdown_options.specs.declared.configuration.Constructs.{Constructs}
use Rattle.definition_text.specs.Content.{Part, part, content_codes}
use Rattle.definition_inline.specs.CharacterReference.{CharacterReference, character_reference, Names, before_semicolon, part_to_semicolon, reference_by_number}
use Rattle.definition_inline.specs.CharacterReference.{reference_by_name, number_reference, reference_after, reference_form, reference_text, reference_leaf}
use Rattle.definition_inline.specs.CharacterReference.{reference_of, reference_at}
use Rattle.inline_references.specs.Markers.{marker_size}
use Rattle.inline_references.specs.Places.{IsCutFrom}
use Rattle.inline_references.specs.declared.reference.CharacterReference.{CharacterReference as TextReference}
use Rattle.std.proofs.lemmas.Option.{none-some, same_Some}
use Rattle.definition_inline.specs.Inline.{InlineLeaf, leaf}
use Rattle.inline_leaves.specs.Leaves.{IsAfter, character_parts, size_before}
use Rattle.inline_leaves.proofs.Codes.{at_return, plain_code, prefix_codes, prefix_plain, plain_take, plain_drop, is_after, cut_after_byte}

-- a part and a reference, with what follows in codes
abbrev coded : Part → Part
coded p = part p.text (content_codes p.rest)

abbrev coded_reference : CharacterReference → CharacterReference
coded_reference r = character_reference r.name (content_codes r.rest)

semicolon_codes : (text xs : List ℕ) → before_semicolon text (content_codes xs) ≡ option_map coded (before_semicolon text xs)
semicolon_codes text [] = refl
semicolon_codes text (c ∷ cs) = elim (cases_Bool (eqb c 13)) [
  | inl h ↦
      let e = eqb-true c 13 h in
      ap (λ x. before_semicolon text (content_codes (x ∷ cs))) e ∙ at_return (before_semicolon text) None cs (λ y. refl) (λ y. refl)
      ∙ sym (ap (λ x. option_map coded (before_semicolon text (x ∷ cs))) e)
  | inr h ↦ ap (before_semicolon text) (plain_code c cs (eqb-false c 13 h)) ∙ by_case (eqb c 59)
]
  where
    by_case : (t : Bool) → cond t (Some (part text (content_codes cs))) None ≡ option_map coded (cond t (Some (part text cs)) None)
    by_case true = refl
    by_case false = refl

terminated_codes : (test : ℕ → Bool) (most : ℕ) (xs : List ℕ) → test 13 ≡ false → test 257 ≡ false
    → part_to_semicolon test most (content_codes xs) ≡ option_map coded (part_to_semicolon test most xs)
terminated_codes test most xs return both =
    let n = prefix_len test xs in
    let codes = content_codes xs in
    let le = prefix_len-le-length test xs in
    let plain = prefix_plain test return xs n (omega arith) in
    ap (λ k. cond (leb 1 k && leb k most) (before_semicolon (take k codes) (drop k codes)) None) (prefix_codes test return both xs)
    ∙ ap (λ text. cond (leb 1 n && leb n most) (before_semicolon text (drop n codes)) None) (plain_take n xs le plain)
    ∙ ap (λ rest. cond (leb 1 n && leb n most) (before_semicolon (take n xs) rest) None) (plain_drop n xs le plain)
    ∙ by_case (leb 1 n && leb n most) (semicolon_codes (take n xs) (drop n xs))
  where
    by_case : (t : Bool) → before_semicolon (take (prefix_len test xs) xs) (content_codes (drop (prefix_len test xs) xs))
        ≡ option_map coded (before_semicolon (take (prefix_len test xs) xs) (drop (prefix_len test xs) xs))
        → cond t (before_semicolon (take (prefix_len test xs) xs) (content_codes (drop (prefix_len test xs) xs))) None
        ≡ option_map coded (cond t (before_semicolon (take (prefix_len test xs) xs) (drop (prefix_len test xs) xs)) None)
    by_case true e = e
    by_case false e = refl

numbered_coded : (base : ℕ) (o : Option Part) → reference_by_number base (option_map coded o) ≡ option_map coded_reference (reference_by_number base o)
numbered_coded base None = refl
numbered_coded base (Some p) = refl

named_coded : (o : Option Part) → reference_by_name (option_map coded o) ≡ option_map coded_reference (reference_by_name o)
named_coded None = refl
named_coded (Some p) = refl

one_of_both : (a b x y : Option CharacterReference) (t : Bool) → a ≡ option_map coded_reference x → b ≡ option_map coded_reference y
    → cond t a b ≡ option_map coded_reference (cond t x y)
one_of_both a b x y true e f = e
one_of_both a b x y false e f = f

number_codes : (xs : List ℕ) → number_reference (content_codes xs) ≡ option_map coded_reference (number_reference xs)
number_codes [] = refl
number_codes (c ∷ cs) = elim (cases_Bool (eqb c 13)) [
  | inl h ↦
      let e = eqb-true c 13 h in
      ap (λ x. number_reference (content_codes (x ∷ cs))) e ∙ at_return number_reference None cs (λ y. refl) (λ y. refl)
      ∙ sym (ap (λ x. option_map coded_reference (number_reference (x ∷ cs))) e)
  | inr h ↦
      let codes = plain_code c cs (eqb-false c 13 h) in
      ap number_reference codes
      ∙ one_of_both _ _ (reference_by_number 16 (part_to_semicolon is_ascii_hexdigit 6 cs))
      (reference_by_number 10 (part_to_semicolon is_ascii_digit 7 (c ∷ cs)))
      (eqb c 120 || eqb c 88)
      (ap (reference_by_number 16) (terminated_codes is_ascii_hexdigit 6 cs refl refl) ∙ numbered_coded 16 (part_to_semicolon is_ascii_hexdigit 6 cs))
      (ap (λ x. reference_by_number 10 (part_to_semicolon is_ascii_digit 7 x)) (sym codes)
      ∙ ap (reference_by_number 10) (terminated_codes is_ascii_digit 7 (c ∷ cs) refl refl)
      ∙ numbered_coded 10 (part_to_semicolon is_ascii_digit 7 (c ∷ cs)))
]

after_codes : (xs : List ℕ) → reference_after (content_codes xs) ≡ option_map coded_reference (reference_after xs)
after_codes [] = refl
after_codes (c ∷ cs) = elim (cases_Bool (eqb c 13)) [
  | inl h ↦
      let e = eqb-true c 13 h in
      ap (λ x. reference_after (content_codes (x ∷ cs))) e ∙ at_return reference_after None cs (λ y. refl) (λ y. refl)
      ∙ sym (ap (λ x. option_map coded_reference (reference_after (x ∷ cs))) e)
  | inr h ↦
      let codes = plain_code c cs (eqb-false c 13 h) in
      ap reference_after codes
      ∙ one_of_both _ _ (number_reference cs) (reference_by_name (part_to_semicolon is_ascii_alphanumeric 31 (c ∷ cs))) (eqb c 35)
      (number_codes cs)
      (ap (λ x. reference_by_name (part_to_semicolon is_ascii_alphanumeric 31 x)) (sym codes)
      ∙ ap reference_by_name (terminated_codes is_ascii_alphanumeric 31 (c ∷ cs) refl refl)
      ∙ named_coded (part_to_semicolon is_ascii_alphanumeric 31 (c ∷ cs)))
]

form_codes : (xs : List ℕ) → reference_form (content_codes xs) ≡ option_map coded_reference (reference_form xs)
form_codes [] = refl
form_codes (c ∷ cs) = elim (cases_Bool (eqb c 13)) [
  | inl h ↦
      let e = eqb-true c 13 h in
      ap (λ x. reference_form (content_codes (x ∷ cs))) e ∙ at_return reference_form None cs (λ y. refl) (λ y. refl)
      ∙ sym (ap (λ x. option_map coded_reference (reference_form (x ∷ cs))) e)
  | inr h ↦ ap reference_form (plain_code c cs (eqb-false c 13 h)) ∙ by_case (eqb c 38) (after_codes cs)
]
  where
    by_case : (t : Bool) → reference_after (content_codes cs) ≡ option_map coded_reference (reference_after cs)
        → cond t (reference_after (content_codes cs)) None ≡ option_map coded_reference (cond t (reference_after cs) None)
    by_case true e = e
    by_case false e = refl

by_form : (on : Constructs) (names : Names) (xs : List ℕ) → on.character_reference ≡ true
    → reference_at on names (content_codes xs) ≡ reference_of names (content_codes xs) (option_map coded_reference (reference_form xs))
by_form on names xs is_on = cond-true _ _ _ is_on ∙ ap (reference_of names (content_codes xs)) (form_codes xs)

-- ---- after an `&`

pub reference_other : (on : Constructs) (names : Names) (xs : List ℕ) → on.character_reference ≡ true → ((rest : List ℕ) → xs ≡ 38 ∷ rest → ⊥)
    → reference_at on names (content_codes xs) ≡ None
reference_other on names xs is_on other =
    by_form on names xs is_on ∙ ap (λ o. reference_of names (content_codes xs) (option_map coded_reference o)) (no_form xs other)
  where
    no_form : (xs : List ℕ) → ((rest : List ℕ) → xs ≡ 38 ∷ rest → ⊥) → reference_form xs ≡ None
    no_form [] other = refl
    no_form (c ∷ cs) other = cond-false (eqb c 38) (reference_after cs) None (ne_eqb c 38 (λ e. other cs (ap (λ x. x ∷ cs) e)))

pub reference_none : (on : Constructs) (names : Names) (xs after : List ℕ) → on.character_reference ≡ true → xs ≡ 38 ∷ after → None ≡ reference_after after
    → reference_at on names (content_codes xs) ≡ None
reference_none on names xs after is_on is none =
    by_form on names xs is_on ∙ ap (λ o. reference_of names (content_codes xs) (option_map coded_reference o)) (ap reference_form is ∙ sym none)

pub reference_some : (on : Constructs) (names : Names) (xs after : List ℕ) (r : CharacterReference) → on.character_reference ≡ true → xs ≡ 38 ∷ after
    → Some r ≡ reference_after after → reference_at on names (content_codes xs) ≡ reference_leaf (size_before xs r.rest) (reference_text names r.name)
reference_some on names xs after r is_on is found =
    by_form on names xs is_on ∙ ap (λ o. reference_of names (content_codes xs) (option_map coded_reference o)) (ap reference_form is ∙ sym found)

-- what follows a byte that isn't CR
after_byte : (xs front rest : List ℕ) (b : ℕ) → xs ≡ front ++ b ∷ rest → (b ≡ 13 → ⊥) → IsAfter xs rest
after_byte xs front rest b is apart =
    let size : length xs ≡ length front + suc (length rest) = ap length is ∙ length-append front (b ∷ rest) in
    let last : get_or xs (length front) 0 ≡ b = ap (λ x. get_or x (length front) 0) is ∙ get_or-append_seam front b rest 0 in
    let first : suc (length front) - 1 ≡ length front = omega arith in
    let place : rest ≡ drop (suc (length front)) xs =
    sym (ap (drop 1) (ap (drop (length front)) is ∙ drop-append_seam front (b ∷ rest))) ∙ drop-drop 1 (length front) xs
    ∙ ap (λ n. drop n xs) (add_one (length front)) in
    is_after xs rest (suc (length front)) place (omega arith) (omega arith)
    (cut_after_byte xs (suc (length front)) (omega arith) (λ e. apart (sym last ∙ ap (λ k. get_or xs k 0) (sym first) ∙ e)))
  where
    add_one : (n : ℕ) → n + 1 ≡ suc n
    add_one n = omega arith

-- what follows a reference
pub after_reference : (xs after : List ℕ) (r : TextReference) → xs ≡ 38 ∷ after → IsCutFrom after r → IsAfter xs r.rest.now
after_reference xs after r is cut =
    let front = 38 ∷ take (marker_size r.marker) after in
    let parts : xs ≡ (front ++ r.value.now) ++ 59 ∷ r.rest.now =
    is ∙ ap (λ x. 38 ∷ x) (sym (take-append-drop (marker_size r.marker) after)) ∙ ap (λ x. front ++ x) cut.parts
    ∙ sym (append_assoc front r.value.now (59 ∷ r.rest.now)) in
    after_byte xs (front ++ r.value.now) r.rest.now 59 parts (λ e. omega arith)

-- a reference whose text is known or not
pub unknown_leaf : (size : ℕ) (text : Option (List ℕ)) → None ≡ option_map character_parts text → reference_leaf size text ≡ None
unknown_leaf size None h = refl
unknown_leaf size (Some text) h = absurd (none-some _ h)

pub known_leaf : (size : ℕ) (text : Option (List ℕ)) (parts : List InlineLeaf) → Some parts ≡ option_map character_parts text
    → reference_leaf size text ≡ Some (leaf parts size)
known_leaf size None parts h = absurd (none-some _ (sym h))
known_leaf size (Some text) parts h = ap (λ p. Some (leaf p size)) (sym (same_Some _ _ h))
