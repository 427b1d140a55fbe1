-- White space after a check, by bytes and by codes; and where a check ends.
use Rattle.std.proofs.Common.{◌≡◌, ℕ, ◌+◌, ◌-◌, ◌<◌, List, [], ◌∷◌, Bool, true, eqb, refl, sym, ap, ◌∙◌, length, drop, get_or, arith}
use Rattle.std.proofs.Common.{inl, inr}
use Rattle.std.specs.Prelude.{not, ◌&&◌}
use Rattle.std.specs.List.{list_all}
use Rattle.std.proofs.lemmas.Bool.{cases_Bool, cases_lt, cond-false, cond-true, eqb-true}
use Rattle.std.proofs.lemmas.List.{get_or-drop, get_or_past}
use Rattle.definition_text.specs.Content.{content_codes, is_space}
use Rattle.definition_inline.specs.GfmTaskListItem.{is_apart}
use Rattle.inline_links.proofs.Cuts.{one_code}
use Rattle.inline_leaves.specs.GfmTaskListItem.{IsCheckEnd}
use Rattle.inline_leaves.proofs.Codes.{end_after}

abbrev all_space : List ℕ → Bool
all_space codes = list_all is_space codes

-- an LF after a CR, whose code stands for both
pair_space : (b : ℕ) (bs codes : List ℕ) → eqb b 10 ≡ true → all_space codes ≡ all_space (b ∷ bs) → codes ≡ b ∷ drop 1 codes
    → all_space (drop 1 codes) ≡ all_space (b ∷ bs)
pair_space b bs codes feed same is =
    sym (ap (λ x. is_space x && all_space (drop 1 codes)) (eqb-true b 10 feed)) ∙ sym (ap all_space is) ∙ same

first_plain : (b : ℕ) (bs : List ℕ) → eqb b 10 ≡ true → content_codes (b ∷ bs) ≡ b ∷ content_codes bs
first_plain b bs feed = ap (λ x. content_codes (x ∷ bs)) (eqb-true b 10 feed) ∙ ap (λ x. x ∷ content_codes bs) (sym (eqb-true b 10 feed))

-- all after a CR
return_space : (bs : List ℕ) → all_space (content_codes bs) ≡ all_space bs → all_space (content_codes (13 ∷ bs)) ≡ all_space bs
return_space [] same = refl
return_space (b ∷ bs) same = elim (cases_Bool (eqb b 10)) [
  | inl h ↦
      ap all_space (cond-true (eqb b 10) _ _ h)
      ∙ pair_space b bs (content_codes (b ∷ bs)) h same (first_plain b bs h ∙ ap (λ x. b ∷ x) (sym (ap (drop 1) (first_plain b bs h))))
  | inr h ↦ ap all_space (cond-false (eqb b 10) _ _ h) ∙ same
]

all_codes : (bs : List ℕ) → all_space (content_codes bs) ≡ all_space bs
all_codes [] = refl
all_codes (b ∷ bs) = elim (cases_Bool (eqb b 13)) [
  | inl h ↦
      ap (λ x. all_space (content_codes (x ∷ bs))) (eqb-true b 13 h) ∙ return_space bs (all_codes bs)
      ∙ sym (ap (λ x. is_space x && all_space bs) (eqb-true b 13 h))
  | inr h ↦ ap all_space (cond-false (eqb b 13) _ _ h) ∙ ap (λ t. is_space b && t) (all_codes bs)
]

-- the codes after a CR that aren't all white space
return_apart : (bs : List ℕ) → is_apart (content_codes (13 ∷ bs)) ≡ not (all_space (content_codes (13 ∷ bs)))
return_apart [] = refl
return_apart (b ∷ bs) = elim (cases_Bool (eqb b 10)) [
  | inl h ↦ ap is_apart (cond-true (eqb b 10) _ _ h) ∙ sym (ap (λ x. not (all_space x)) (cond-true (eqb b 10) _ _ h))
  | inr h ↦ ap is_apart (cond-false (eqb b 10) _ _ h) ∙ sym (ap (λ x. not (all_space x)) (cond-false (eqb b 10) _ _ h))
]

-- white space and something else, by codes and by bytes
pub apart_codes : (bs : List ℕ) → is_apart (content_codes bs) ≡ is_apart bs
apart_codes [] = refl
apart_codes (b ∷ bs) = elim (cases_Bool (eqb b 13)) [
  | inl h ↦
      ap (λ x. is_apart (content_codes (x ∷ bs))) (eqb-true b 13 h)
      ∙ return_apart bs ∙ ap not (return_space bs (all_codes bs)) ∙ sym (ap (λ x. is_apart (x ∷ bs)) (eqb-true b 13 h))
  | inr h ↦ ap is_apart (cond-false (eqb b 13) _ _ h) ∙ ap (λ t. is_space b && not t) (all_codes bs)
]

-- ---- the place after a check

-- a code of one byte is that byte
byte_is : (b : ℕ) (bs cs : List ℕ) → content_codes (b ∷ bs) ≡ 93 ∷ cs → b ≡ 93
byte_is b bs cs e = elim (cases_Bool (eqb b 13)) [
  | inl h ↦ absurd (return_is bs (sym (ap (λ x. content_codes (x ∷ bs)) (eqb-true b 13 h)) ∙ e))
  | inr h ↦ ap (λ codes. get_or codes 0 0) (sym (cond-false (eqb b 13) _ _ h) ∙ e)
]
  where
    return_is : (bs : List ℕ) → content_codes (13 ∷ bs) ≡ 93 ∷ cs → ⊥
    return_is [] e = omega (arith, ap (λ codes. get_or codes 0 0) e)
    return_is (b ∷ bs) e = elim (cases_Bool (eqb b 10)) [
      | inl h ↦ omega (arith, ap (λ codes. get_or codes 0 0) (sym (cond-true (eqb b 10) _ _ h) ∙ e))
      | inr h ↦ omega (arith, ap (λ codes. get_or codes 0 0) (sym (cond-false (eqb b 10) _ _ h) ∙ e))
    ]

bytes_are : (bytes cs : List ℕ) → content_codes bytes ≡ 93 ∷ cs → get_or bytes 0 0 ≡ 93
bytes_are [] cs e = absurd (omega (arith, ap length e))
bytes_are (b ∷ bs) cs e = byte_is b bs cs e

-- the codes of a check: three, of which the last is one byte
pub check_end : (bytes : List ℕ) (opening mark at second third : ℕ) → content_codes bytes ≡ opening ∷ content_codes (drop second bytes)
    → content_codes (drop second bytes) ≡ mark ∷ content_codes (drop at bytes) → content_codes (drop at bytes) ≡ 93 ∷ content_codes (drop third bytes)
    → IsCheckEnd bytes (at + 1)
check_end bytes opening mark at second third first next last =
    let byte : get_or bytes at 0 ≡ 93 =
    sym (get_or-drop at bytes 0 0 ∙ ap (λ k. get_or bytes k 0) (omega arith)) ∙ bytes_are (drop at bytes) (content_codes (drop third bytes)) last in
    let within : at < length bytes = elim (cases_lt at (length bytes)) [
      | inl lt ↦ lt
      | inr ge ↦ absurd (omega (arith, byte, get_or_past bytes at 0 ge))
    ] in
    let here : content_codes (drop at bytes) ≡ 93 ∷ content_codes (drop (at + 1) bytes) =
    one_code bytes at within (λ return. absurd (omega (arith, byte, return))) ∙ ap (λ b. b ∷ content_codes (drop (at + 1) bytes)) byte in
    let back : at + 1 - 1 ≡ at = omega arith in
    let there : get_or bytes (at + 1 - 1) 0 ≡ 93 = ap (λ k. get_or bytes k 0) back ∙ byte in
    record {
      place = end_after bytes (at + 1) (omega arith) (omega arith) (omega (arith, there)) (λ return. omega (arith, there, return));
      size = omega (arith, ap length first, ap length next, ap length here);
    }
