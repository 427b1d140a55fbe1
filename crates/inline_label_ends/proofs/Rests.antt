-- What follows a label end.
use Rattle.std.proofs.Common.{◌≡◌, ℕ, ◌-◌, List, [], ◌∷◌, ◌++◌, false, eqb, sym, ap, ◌∙◌, get_or, length, drop, take, arith, inl, inr}
use Rattle.std.proofs.lemmas.Bool.{cases_Bool, cond-false, cond-true}
use Rattle.std.proofs.lemmas.List.{drop_at, length-append}
use Rattle.definition_text.specs.Content.{content_codes}
use Rattle.definition_text.specs.Bytes.{begins_with}
use Rattle.inline_links.specs.Codes.{IsCut, IsRest}
use Rattle.inline_links.specs.Texts.{IsLater}
use Rattle.inline_leaves.specs.Leaves.{size_before}
use Rattle.inline_leaves.proofs.Fronts.{begun}
use Rattle.inline_label_ends.specs.Ends.{IsAfterEnd}

-- what follows a place that isn't inside a line ending
pub after_cut : (content rest : List ℕ) → IsRest content rest → IsCut content (length content - length rest) → IsAfterEnd content rest
after_cut content rest h cut =
    let front = content_codes (take (length content - length rest) content) in
    let after = content_codes rest in
    let whole : content_codes content ≡ front ++ after = cut ∙ ap (λ r. front ++ content_codes r) (sym h.place) in
    let size : length front ≡ size_before content rest = omega (arith, ap length whole, length-append front after) in
    record {
      place = h;
      cut = cut;
      codes = sym (drop_at front after (size_before content rest) size) ∙ ap (drop (size_before content rest)) (sym whole);
    }

pub after_later : (content rest : List ℕ) → IsLater content rest → IsAfterEnd content rest
after_later content rest h = after_cut content rest (record { within = omega (arith, h.shorter); place = h.place }) h.cut

pub after_same : (content : List ℕ) → IsAfterEnd content content
after_same content =
    let none : length content - length content ≡ 0 = omega arith in
    record {
      place = record { within = omega arith; place = ap (λ n. drop n content) (sym none) };
      cut = ap (λ n. content_codes (take n content) ++ content_codes (drop n content)) (sym none);
      codes = let none_there : size_before content content ≡ 0 = omega arith in ap (λ n. drop n (content_codes content)) (sym none_there);
    }

-- a content whose codes begin with one that is no line ending begins with that byte
pub first_byte : (c : ℕ) (cs xs : List ℕ) → (c ≡ 13 → ⊥) → (c ≡ 257 → ⊥) → content_codes xs ≡ c ∷ cs → (ys : List ℕ) × (xs ≡ c ∷ ys) × (content_codes ys ≡ cs)
first_byte c cs [] return both e = absurd (omega (arith, ap length e))
first_byte c cs (b ∷ []) return both e = elim (cases_Bool (eqb b 13)) [
  | inl h ↦ absurd (return (sym (ap (λ x. get_or x 0 0) (sym (cond-true (eqb b 13) _ _ h) ∙ e))))
  | inr h ↦
      let f = sym (cond-false (eqb b 13) _ _ h) ∙ e in
      ([], ap (λ x. x ∷ []) (ap (λ x. get_or x 0 0) f), ap (drop 1) f)
]
first_byte c cs (b ∷ d ∷ ds) return both e = elim (cases_Bool (eqb b 13)) [
  | inl h ↦ elim (cases_Bool (eqb d 10)) [
    | inl k ↦ absurd (both (sym (ap (λ x. get_or x 0 0) (sym (cond-true (eqb b 13) _ _ h ∙ cond-true (eqb d 10) _ _ k) ∙ e))))
    | inr k ↦ absurd (return (sym (ap (λ x. get_or x 0 0) (sym (cond-true (eqb b 13) _ _ h ∙ cond-false (eqb d 10) _ _ k) ∙ e))))
  ]
  | inr h ↦
      let f = sym (cond-false (eqb b 13) _ _ h) ∙ e in
      (d ∷ ds, ap (λ x. x ∷ d ∷ ds) (ap (λ x. get_or x 0 0) f), ap (drop 1) f)
]

-- no brackets
pub no_brackets : (xs : List ℕ) → ((ys : List ℕ) → xs ≡ 91 ∷ 93 ∷ ys → ⊥) → begins_with (91 ∷ 93 ∷ []) (content_codes xs) ≡ false
no_brackets xs none = elim (cases_Bool (begins_with (91 ∷ 93 ∷ []) (content_codes xs))) [
  | inl h ↦
      let cs = drop 2 (content_codes xs) in
      let first = first_byte 91 (93 ∷ cs) xs (λ e. omega (arith, e)) (λ e. omega (arith, e)) (begun (91 ∷ 93 ∷ []) (content_codes xs) h) in
      let second = first_byte 93 cs first.0 (λ e. omega (arith, e)) (λ e. omega (arith, e)) first.2 in
      absurd (none second.0 (first.1 ∙ ap (λ x. 91 ∷ x) second.1))
  | inr h ↦ h
]
