-- What reads the codes of a label's text, past bytes that mark nothing.
use Rattle.std.proofs.Common.{◌≡◌, ℕ, suc, ◌+◌, ◌-◌, ◌≤◌, List, [], ◌∷◌, Bool, true, false, not, ◌||◌, ◌&&◌, refl, sym, ap, ◌∙◌, length, drop, arith, eqb, inl}
use Rattle.std.proofs.Common.{inr}
use Rattle.inline_links.proofs.Prelude.{at_line_start, cases_Bool, cond-false, cond-true, content_codes, drop-drop, ends_label, eq-eqb, eqb-true}
use Rattle.inline_links.proofs.Prelude.{has_no_bracket, is_unmarked, label_end, label_size, may_escape, ne_eqb, or_parts, prefix_len, true≢false}
use Rattle.inline_links.proofs.Runs.{one_more, after_none, after_some}
use Rattle.inline_links.proofs.Cuts.{first_code}

-- what is known of such a byte
record IsPassed (b : ℕ) : Type 0 where
  opening : eqb b 91 ≡ false
  backslash : eqb b 92 ≡ false
  closing : eqb b 93 ≡ false
  return : eqb b 13 ≡ false

passed : (b : ℕ) → is_unmarked b ≡ true → IsPassed b
passed b h =
    let all : (eqb b 91 || eqb b 92 || eqb b 93 || eqb b 13) ≡ false = not_true _ h in
    let first = or_parts (eqb b 91 || eqb b 92 || eqb b 93) (eqb b 13) all in
    let second = or_parts (eqb b 91 || eqb b 92) (eqb b 93) first.0 in
    let third = or_parts (eqb b 91) (eqb b 92) second.0 in
    record { opening = third.0; backslash = third.1; closing = second.1; return = first.1 }
  where
    not_true : (t : Bool) → not t ≡ true → t ≡ false
    not_true true e = sym e
    not_true false e = refl

-- it ends nothing
no_end : (escaped : Bool) (b : ℕ) → IsPassed b → ends_label escaped b ≡ false
no_end escaped b p =
    ap (λ t. (t || eqb b 93) && not escaped) p.opening
    ∙ ap (λ t. t && not escaped) p.closing

-- a reader of codes that goes on after each code that ends no label, and keeps only whether it escapes the next one
module _ (A : Type 0) (f : Bool → List ℕ → A) (goes_on : (escaped : Bool) (c : ℕ) (cs : List ℕ) → ends_label escaped c ≡ false
    → f escaped (c ∷ cs) ≡ f (may_escape escaped c) cs) where
  one_passed : (escaped : Bool) (b : ℕ) (bs : List ℕ) → is_unmarked b ≡ true → f escaped (content_codes (b ∷ bs)) ≡ f false (content_codes bs)
  one_passed escaped b bs h =
      let p = passed b h in
      let cs = content_codes bs in
      let apart : b ≡ 13 → ⊥ = λ e. true≢false (sym (eq-eqb b 13 e) ∙ p.return) in
      let here : content_codes (b ∷ bs) ≡ b ∷ cs = first_code b bs (λ e n. apart e) in
      ap (f escaped) here
      ∙ goes_on escaped b cs (no_end escaped b p)
      ∙ ap (λ t. f (t && not escaped) cs) p.backslash

  -- past so many of them
  pub run_passed : (escaped : Bool) (bytes : List ℕ)
      → f escaped (content_codes bytes) ≡ f (escaped && eqb (prefix_len is_unmarked bytes) 0) (content_codes (drop (prefix_len is_unmarked bytes) bytes))
  run_passed escaped [] = ap (λ t. f t []) (sym (after_none escaped))
  run_passed escaped (b ∷ bs) = elim (cases_Bool (is_unmarked b)) [
    | inl h ↦
        let n = prefix_len is_unmarked bs in
        let size : prefix_len is_unmarked (b ∷ bs) ≡ suc n = cond-true (is_unmarked b) (1 + n) 0 h ∙ one_more n in
        one_passed escaped b bs h
        ∙ run_passed false bs
        ∙ ap (λ t. f t (content_codes (drop n bs))) (sym (after_some escaped n))
        ∙ sym (ap (λ k. f (escaped && eqb k 0) (content_codes (drop k (b ∷ bs)))) size)
    | inr h ↦
        let size : prefix_len is_unmarked (b ∷ bs) ≡ 0 = cond-false (is_unmarked b) _ _ h in
        ap (λ t. f t (content_codes (b ∷ bs))) (sym (after_none escaped))
        ∙ sym (ap (λ k. f (escaped && eqb k 0) (content_codes (drop k (b ∷ bs)))) size)
  ]

  -- past a code that ends nothing, and the run after it
  pub next_passed : (escaped : Bool) (c : ℕ) (content codes : List ℕ) (next end : ℕ) → codes ≡ c ∷ content_codes (drop next content)
      → ends_label escaped c ≡ false → end ≡ next + prefix_len is_unmarked (drop next content)
      → f (may_escape escaped c && eqb (end - next) 0) (content_codes (drop end content)) ≡ f escaped codes
  next_passed escaped c content codes next end e on is =
      let rest = drop next content in
      let n = prefix_len is_unmarked rest in
      let inner = may_escape escaped c in
      let count : end - next ≡ n = omega (arith, is) in
      let there : drop n rest ≡ drop end content = drop-drop n next content ∙ ap (λ k. drop k content) (sym is) in
      sym (ap (f escaped) e
      ∙ goes_on escaped c (content_codes rest) on
      ∙ run_passed inner rest
      ∙ ap (λ k. f (inner && eqb k 0) (content_codes (drop n rest))) (sym count)
      ∙ ap (λ xs. f (inner && eqb (end - next) 0) (content_codes xs)) there)

-- the end of a label, and the test for brackets, are such readers
pub end_goes_on : (escaped : Bool) (c : ℕ) (cs : List ℕ) → ends_label escaped c ≡ false → label_end escaped (c ∷ cs) ≡ label_end (may_escape escaped c) cs
end_goes_on escaped c cs h = cond-false (ends_label escaped c) _ _ h

pub test_goes_on : (escaped : Bool) (c : ℕ) (cs : List ℕ) → ends_label escaped c ≡ false
    → has_no_bracket escaped (c ∷ cs) ≡ has_no_bracket (may_escape escaped c) cs
test_goes_on escaped c cs h = ap (λ t. not t && has_no_bracket (may_escape escaped c) cs) h

-- ---- how many bytes of a label count

size_of_codes : (start : Bool) (cs : List ℕ) → label_size start cs ≤ length cs
size_of_codes start [] = omega arith
size_of_codes start (c ∷ cs) = elim (cases_Bool (at_line_start start c)) [
  | inl h ↦ omega (arith, cond-true {A = ℕ} (at_line_start start c) 0 1 h, size_of_codes (at_line_start start c) cs)
  | inr h ↦ omega (arith, cond-false {A = ℕ} (at_line_start start c) 0 1 h, size_of_codes (at_line_start start c) cs)
]

no_more_codes : (bytes : List ℕ) → length (content_codes bytes) ≤ length bytes
no_more_codes [] = omega arith
no_more_codes (b ∷ []) = elim (cases_Bool (eqb b 13)) [
  | inl h ↦ let e : content_codes (b ∷ []) ≡ 13 ∷ [] = cond-true (eqb b 13) _ _ h in omega (arith, ap length e)
  | inr h ↦ let e : content_codes (b ∷ []) ≡ b ∷ [] = cond-false (eqb b 13) _ _ h in omega (arith, ap length e)
]
no_more_codes (b ∷ d ∷ bs) = elim (cases_Bool (eqb b 13)) [
  | inl h ↦ elim (cases_Bool (eqb d 10)) [
    | inl k ↦
        let next : content_codes (d ∷ bs) ≡ d ∷ content_codes bs = cond-false (eqb d 13) _ _ (ne_eqb d 13 (λ e. omega (arith, e, eqb-true d 10 k))) in
        let e : content_codes (b ∷ d ∷ bs) ≡ 257 ∷ content_codes bs = cond-true (eqb b 13) _ _ h ∙ cond-true (eqb d 10) _ _ k ∙ ap (λ x. 257 ∷ drop 1 x) next in
        omega (arith, ap length e, no_more_codes bs)
    | inr k ↦
        let e : content_codes (b ∷ d ∷ bs) ≡ 13 ∷ content_codes (d ∷ bs) = cond-true (eqb b 13) _ _ h ∙ cond-false (eqb d 10) _ _ k in
        omega (arith, ap length e, no_more_codes (d ∷ bs))
  ]
  | inr h ↦
      let e : content_codes (b ∷ d ∷ bs) ≡ b ∷ content_codes (d ∷ bs) = cond-false (eqb b 13) _ _ h in
      omega (arith, ap length e, no_more_codes (d ∷ bs))
]

-- no more than there are
pub size_of_bytes : (bytes : List ℕ) → label_size false (content_codes bytes) ≤ length bytes
size_of_bytes bytes = omega (arith, size_of_codes false (content_codes bytes), no_more_codes bytes)
