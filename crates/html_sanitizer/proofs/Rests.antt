-- What follows in HTML, and loops over it.
use Rattle.std.proofs.Common.{◌≡◌, ℕ, suc, ◌+◌, ◌-◌, ◌<◌, ◌≤◌, true, false, not, ◌&&◌, ◌||◌, cond, eqb, List, [], ◌∷◌, ◌++◌, Option, None, Some, codes}
use Rattle.std.proofs.Common.{length, drop}
use Rattle.std.proofs.Common.{refl, sym, ap, ◌∙◌, subst, arith, inl, inr, get_or}
use Rattle.std.specs.List.{position_or_len}
use Rattle.std.specs.Str.{IsCharBoundary, IsUtf8}
use Rattle.std.proofs.lemmas.Bool.{cases_Bool, cond-false, eqb-true, ne_eqb, and_parts, false≢true}
use Rattle.std.proofs.lemmas.Bool.Decides.{nat_tests}
use Rattle.std.proofs.lemmas.List.{drop_at, length-drop, length-append}
use Rattle.std.proofs.lemmas.List.Sums.{prefix_len-le-length}
use Rattle.definition_text.specs.Bytes.{begins_with, without_slash}
use Rattle.definition_text.specs.Content.{Part}
use Rattle.definition_inline.specs.CharacterReference.{Names}
use Rattle.definition_inline.specs.Decoded.{known_at}
use Rattle.inline_leaves.specs.Leaves.{IsAfter}
use Rattle.inline_links.specs.Codes.{IsRest, IsShorterRest}
use Rattle.inline_leaves.proofs.Codes.{rest_of_rest}
use Rattle.inline_references.proofs.Decoding.{known_has}
use Rattle.html_sanitizer.specs.Sanitized.{is_mark, after_marks, begins_with_mark, reference_part}
use Rattle.html_sanitizer.proofs.Reading.{stop_boundary}
use Rattle.html_sanitizer.proofs.Tokens.{written_some}

-- ---- text up to a mark

mark_small : (b : ℕ) → not (is_mark b) ≡ false → b < 256 → b < 128
mark_small b h lt = grind (arith, nat_tests)

pub mark_boundary : (text : List ℕ) → ((k : ℕ) → get_or text k 0 < 256) → IsUtf8 text → IsCharBoundary text (position_or_len is_mark text)
mark_boundary text bytes utf8 = stop_boundary (λ b. not (is_mark b)) text mark_small bytes utf8

-- what follows the text is nothing, or begins with a mark
pub marked_after : (text : List ℕ) → (length (after_marks text) ≡ 0 → ⊥) → begins_with_mark (after_marks text) ≡ true
marked_after [] some = absurd (some refl)
marked_after (b ∷ bs) some = elim (cases_Bool (is_mark b)) [
  | inl h ↦
      let here : after_marks (b ∷ bs) ≡ b ∷ bs = ap (λ t. drop (cond (not t) (1 + position_or_len is_mark bs) 0) (b ∷ bs)) h in
      ap begins_with_mark here ∙ h
  | inr h ↦
      let later : after_marks (b ∷ bs) ≡ after_marks bs =
      ap (λ t. drop (cond (not t) (1 + position_or_len is_mark bs) 0) (b ∷ bs)) h ∙ ap (λ k. drop k (b ∷ bs)) (one_more (position_or_len is_mark bs)) in
      ap begins_with_mark later ∙ marked_after bs (λ none. some (ap length later ∙ none))
]
  where
    one_more : (n : ℕ) → 1 + n ≡ suc n
    one_more n = omega arith

-- a mark that isn't `&` is `<`
pub sign_first : (rest : List ℕ) → begins_with_mark rest ≡ true → ((after : List ℕ) → rest ≡ 38 ∷ after → ⊥) → begins_with (codes "<") rest ≡ true
sign_first [] h other = absurd (false≢true h)
sign_first (b ∷ bs) h other = elim (cases_Bool (eqb b 60)) [
  | inl t ↦ ap (λ x. eqb 60 x && true) (eqb-true b 60 t)
  | inr t ↦
      let amp : eqb b 38 ≡ true = sym (ap (λ t. t || eqb b 38) t) ∙ h in
      absurd (other bs (ap (λ x. x ∷ bs) (eqb-true b 38 amp)))
]

-- ---- rests

pub whole_rest : (html : List ℕ) → IsRest html html
whole_rest html = record { within = omega arith; place = sym (ap (λ n. drop n html) (none (length html))) }
  where
    none : (n : ℕ) → n - n ≡ 0
    none n = omega arith

-- text is passed
pub rest_after_text : (html rest : List ℕ) → IsRest html rest → IsRest html (after_marks rest)
rest_after_text html rest place =
    rest_of_rest html rest (after_marks rest) (position_or_len is_mark rest) place (prefix_len-le-length (λ b. not (is_mark b)) rest) refl

-- a part is passed, and text after it
pub rest_after_part : (html rest after : List ℕ) → IsRest html rest → IsShorterRest rest after → IsRest html (after_marks after)
rest_after_part html rest after place shorter =
    let size : length rest - length after ≤ length rest = omega arith in
    rest_after_text html after (rest_of_rest html rest after (length rest - length after) place size shorter.place)

pub text_less : (text : List ℕ) → length (after_marks text) ≤ length text
text_less text = omega (arith, length-drop (position_or_len is_mark text) text)

-- one byte is passed
pub byte_passed : (b : ℕ) (after : List ℕ) → IsShorterRest (b ∷ after) after
byte_passed b after = record { shorter = omega arith; place = sym (ap (λ n. drop n (b ∷ after)) (one (length after))) }
  where
    one : (n : ℕ) → suc n - n ≡ 1
    one n = omega arith

-- some bytes are passed
passed_rest : (html front rest : List ℕ) → html ≡ front ++ rest → 0 < length front → IsShorterRest html rest
passed_rest html front rest is some =
    let size : length html ≡ length front + length rest = ap length is ∙ length-append front rest in
    let n : length html - length rest ≡ length front = omega arith in
    record {
      shorter = omega arith;
      place = sym (ap (λ k. drop k html) n ∙ ap (drop (length front)) is ∙ drop_at front rest (length front) refl);
    }

pub after_passed : (html after : List ℕ) → IsAfter html after → IsShorterRest html after
after_passed html after later = record { shorter = later.shorter; place = later.place }

-- a reference, or `&`, is passed
pub reference_passed : (names : Names) (after rest : List ℕ) → (let found = reference_part after (known_at names (38 ∷ after)) in found.rest) ≡ rest
    → IsShorterRest (38 ∷ after) rest
reference_passed names after rest is = by_case (known_at names (38 ∷ after)) refl is
  where
    by_case : (o : Option Part) → known_at names (38 ∷ after) ≡ o → (let found = reference_part after o in found.rest) ≡ rest → IsShorterRest (38 ∷ after) rest
    by_case None e is = subst (λ x. IsShorterRest (38 ∷ after) x) is (byte_passed 38 after)
    by_case (Some p) e is =
        let has = known_has names (38 ∷ after) p e in
        subst (λ x. IsShorterRest (38 ∷ after) x) is (passed_rest (38 ∷ after) has.front p.rest has.is (written_some names has.front has.name has.written))

-- ---- signs

pub sign_there : (text : List ℕ) → begins_with (codes "<") text ≡ true → ((rest : List ℕ) → text ≡ 60 ∷ rest → ⊥) → ⊥
sign_there [] h none = false≢true h
sign_there (b ∷ bs) h none = none bs (ap (λ x. x ∷ bs) (sym (eqb-true 60 b (and_parts (eqb 60 b) true h).0)))

pub no_slash : (text : List ℕ) → ((rest : List ℕ) → text ≡ 47 ∷ rest → ⊥) → text ≡ without_slash text
no_slash [] none = refl
no_slash (b ∷ bs) none = sym (cond-false (eqb b 47) bs (b ∷ bs) (ne_eqb b 47 (λ e. none bs (ap (λ x. x ∷ bs) e))))
