-- How a destination without `<` ends.
use Rattle.std.proofs.Common.{◌≡◌, ℕ, zero, suc, ◌+◌, ◌-◌, ◌<◌, ◌≤◌, List, [], ◌∷◌, Bool, true, false, not, ◌||◌, ◌&&◌, Option, None, Some, refl, sym, ap, ◌∙◌}
use Rattle.std.proofs.Common.{length, take, drop, get_or, arith, eqb, inl, inr, subst}
use Rattle.inline_links.proofs.Prelude.{bare_end, cases_Bool, cond-false, cond-true, content_codes, drop-drop, ends_bare, eq-eqb, get_or-drop, if_any}
use Rattle.inline_links.proofs.Prelude.{is_control, is_plain, is_space, is_too_deep, IsCut, may_escape, open_after, or_parts, Part, prefix_len, true≢false}
use Rattle.inline_links.proofs.Prelude.{unless_empty}
use Rattle.std.proofs.lemmas.Bool.{cond_both, le-ltb}
use Rattle.std.proofs.lemmas.List.Sums.{prefix_len_passes}
use Rattle.inline_links.proofs.Runs.{one_more, after_none, after_some}
use Rattle.inline_links.proofs.Cuts.{codes_some, first_code, cut_at}

-- before a code that ends it
pub ends_before : (depth : Option ℕ) (escaped : Bool) (opened c : ℕ) (cs codes : List ℕ) → codes ≡ c ∷ cs → opened ≡ 0
    → ends_bare escaped opened c ≡ true → bare_end depth escaped opened codes ≡ Some codes
ends_before depth escaped opened c cs codes e none ends =
    ap (bare_end depth escaped opened) e ∙ cond-true (ends_bare escaped opened c) _ _ ends ∙ cond-true (eqb opened 0) _ _ (eq-eqb opened 0 none)
    ∙ ap Some (sym e)

-- at the end of the content
pub ends_with : (depth : Option ℕ) (escaped : Bool) (opened : ℕ) (codes : List ℕ) → codes ≡ [] → opened ≡ 0
    → bare_end depth escaped opened codes ≡ Some codes
ends_with depth escaped opened codes e none =
    ap (bare_end depth escaped opened) e ∙ cond-true (eqb opened 0) _ _ (eq-eqb opened 0 none) ∙ ap Some (sym e)

-- a text of some bytes isn't empty
pub any_there : (read : Part) (end : ℕ) (content : List ℕ) → 0 < end → end ≤ length content → read.text ≡ content_codes (take end content)
    → if_any (Some read) ≡ Some read
any_there read end [] some within e = absurd (omega arith)
any_there read zero (b ∷ bs) some within e = absurd (omega arith)
any_there read (suc n) (b ∷ bs) some within e =
    let front = codes_some b (take n bs) in
    ap (λ text. unless_empty text read) (e ∙ front.2)

-- ---- bytes that are passed together

-- what is known of such a byte
record IsPassed (b : ℕ) : Type 0 where
  space : is_space b ≡ false
  control : is_control b ≡ false
  opening : eqb b 40 ≡ false
  closing : eqb b 41 ≡ false
  backslash : eqb b 92 ≡ false

passed : (b : ℕ) → is_plain b ≡ true → IsPassed b
passed b h =
    let all : (is_space b || is_control b || eqb b 40 || eqb b 41 || eqb b 92) ≡ false = not_true _ h in
    let first = or_parts (is_space b || is_control b || eqb b 40 || eqb b 41) (eqb b 92) all in
    let second = or_parts (is_space b || is_control b || eqb b 40) (eqb b 41) first.0 in
    let third = or_parts (is_space b || is_control b) (eqb b 40) second.0 in
    let fourth = or_parts (is_space b) (is_control b) third.0 in
    record { space = fourth.0; control = fourth.1; opening = third.1; closing = second.1; backslash = first.1 }
  where
    not_true : (t : Bool) → not t ≡ true → t ≡ false
    not_true true e = sym e
    not_true false e = refl

-- it ends nothing
no_end : (escaped : Bool) (opened b : ℕ) → IsPassed b → ends_bare escaped opened b ≡ false
no_end escaped opened b p =
    ap (λ t. t || is_control b || (eqb b 41 && eqb opened 0 && not escaped)) p.space
    ∙ ap (λ t. t || (eqb b 41 && eqb opened 0 && not escaped)) p.control
    ∙ ap (λ t. t && eqb opened 0 && not escaped) p.closing

-- as many parentheses are open after it
same_open : (escaped : Bool) (opened b : ℕ) → IsPassed b → open_after escaped opened b ≡ opened
same_open true opened b p = refl
same_open false opened b p = cond-false (eqb b 40) _ _ p.opening ∙ cond-false (eqb b 41) _ _ p.closing

one_passed : (depth : Option ℕ) (escaped : Bool) (opened b : ℕ) (bs : List ℕ) → is_too_deep depth opened ≡ false → is_plain b ≡ true
    → bare_end depth escaped opened (content_codes (b ∷ bs)) ≡ bare_end depth false opened (content_codes bs)
one_passed depth escaped opened b bs shallow h =
    let p = passed b h in
    let apart : b ≡ 13 → ⊥ = λ e. true≢false (sym (ap is_plain (sym e) ∙ h) ∙ refl) in
    let cs = content_codes bs in
    let here : content_codes (b ∷ bs) ≡ b ∷ cs = first_code b bs (λ e f. apart e) in
    ap (bare_end depth escaped opened) here
    ∙ cond-false (ends_bare escaped opened b) _ _ (no_end escaped opened b p)
    ∙ cond-false (is_too_deep depth (open_after escaped opened b)) _ _ (ap (is_too_deep depth) (same_open escaped opened b p) ∙ shallow)
    ∙ ap (λ t. bare_end depth (t && not escaped) (open_after escaped opened b) cs) p.backslash
    ∙ ap (λ o. bare_end depth false o cs) (same_open escaped opened b p)

-- so many of them
pub run_passed : (depth : Option ℕ) (escaped : Bool) (opened : ℕ) (bytes : List ℕ) → is_too_deep depth opened ≡ false
    → bare_end depth escaped opened (content_codes bytes)
    ≡ bare_end depth (escaped && eqb (prefix_len is_plain bytes) 0) opened (content_codes (drop (prefix_len is_plain bytes) bytes))
run_passed depth escaped opened [] shallow = ap (λ t. bare_end depth t opened []) (sym (after_none escaped))
run_passed depth escaped opened (b ∷ bs) shallow = elim (cases_Bool (is_plain b)) [
  | inl h ↦
      let n = prefix_len is_plain bs in
      let size : prefix_len is_plain (b ∷ bs) ≡ suc n = cond-true (is_plain b) (1 + n) 0 h ∙ one_more n in
      one_passed depth escaped opened b bs shallow h
      ∙ run_passed depth false opened bs shallow
      ∙ ap (λ t. bare_end depth t opened (content_codes (drop n bs))) (sym (after_some escaped n))
      ∙ sym (ap (λ k. bare_end depth (escaped && eqb k 0) opened (content_codes (drop k (b ∷ bs)))) size)
  | inr h ↦
      let size : prefix_len is_plain (b ∷ bs) ≡ 0 = cond-false (is_plain b) _ _ h in
      ap (λ t. bare_end depth t opened (content_codes (b ∷ bs))) (sym (after_none escaped))
      ∙ sym (ap (λ k. bare_end depth (escaped && eqb k 0) opened (content_codes (drop k (b ∷ bs)))) size)
]

-- a cut after a run of bytes of which none is CR is a cut, too
pub cut_after_run : (p : ℕ → Bool) → p 13 ≡ false → (bytes : List ℕ) (at : ℕ) → at ≤ length bytes → IsCut bytes at
    → IsCut bytes (at + prefix_len p (drop at bytes))
cut_after_run p no_return bytes at within cut = by_size (prefix_len p (drop at bytes)) (omega arith)
  where
    by_size : (n : ℕ) → n ≤ prefix_len p (drop at bytes) → IsCut bytes (at + n)
    by_size zero le = subst (IsCut bytes) (omega arith) cut
    by_size (suc n) le =
        let byte = prefix_len_passes p (drop at bytes) n 0 (omega arith) in
        let here : get_or (drop at bytes) n 0 ≡ get_or bytes (at + n) 0 = get_or-drop at bytes n 0 in
        let apart : get_or bytes (at + n) 0 ≡ 13 → ⊥ = λ e. true≢false (sym byte ∙ ap p (here ∙ e) ∙ no_return) in
        cut_at bytes (at + suc n) (at + n) (omega arith) (λ return. absurd (apart return))

-- nothing is too deep where no parenthesis is open
pub flat : (depth : Option ℕ) → is_too_deep depth 0 ≡ false
flat None = refl
flat (Some depth) = le-ltb depth 0 (omega arith)

-- a code that ends nothing
code_passed : (depth : Option ℕ) (escaped : Bool) (opened c : ℕ) (cs codes : List ℕ) → codes ≡ c ∷ cs → ends_bare escaped opened c ≡ false
    → is_too_deep depth (open_after escaped opened c) ≡ false
    → bare_end depth escaped opened codes ≡ bare_end depth (may_escape escaped c) (open_after escaped opened c) cs
code_passed depth escaped opened c cs codes e goes_on shallow =
    ap (bare_end depth escaped opened) e ∙ cond-false (ends_bare escaped opened c) _ _ goes_on
    ∙ cond-false (is_too_deep depth (open_after escaped opened c)) _ _ shallow

-- and the run after it
pub next_passed : (depth : Option ℕ) (escaped : Bool) (opened c : ℕ) (content codes : List ℕ) (next end : ℕ) → codes ≡ c ∷ content_codes (drop next content)
    → ends_bare escaped opened c ≡ false → is_too_deep depth (open_after escaped opened c) ≡ false → end ≡ next + prefix_len is_plain (drop next content)
    → bare_end depth (may_escape escaped c && eqb (end - next) 0) (open_after escaped opened c) (content_codes (drop end content))
    ≡ bare_end depth escaped opened codes
next_passed depth escaped opened c content codes next end e goes_on shallow is =
    let rest = drop next content in
    let n = prefix_len is_plain rest in
    let inner = may_escape escaped c in
    let count : end - next ≡ n = omega (arith, is) in
    let there : drop n rest ≡ drop end content = drop-drop n next content ∙ ap (λ k. drop k content) (sym is) in
    sym (code_passed depth escaped opened c (content_codes rest) codes e goes_on shallow
    ∙ run_passed depth inner (open_after escaped opened c) rest shallow
    ∙ ap (λ k. bare_end depth (inner && eqb k 0) (open_after escaped opened c) (content_codes (drop n rest))) (sym count)
    ∙ ap (λ xs. bare_end depth (inner && eqb (end - next) 0) (open_after escaped opened c) (content_codes xs)) there)

-- at most one more parenthesis is open after a code
pub open_more : (escaped : Bool) (opened c : ℕ) → open_after escaped opened c ≤ opened + 1
open_more true opened c = omega arith
open_more false opened c =
    cond_both (eqb c 40) _ _ (λ n. n ≤ opened + 1) (λ _. omega arith) (λ _. cond_both (eqb c 41) _ _ (λ n. n ≤ opened + 1) (λ _. omega arith)
    (λ _. omega arith))
