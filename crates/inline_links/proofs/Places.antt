-- The place in the bytes of a content of what follows its first codes.
use Rattle.std.proofs.Common.{◌≡◌, ℕ, zero, suc, ◌-◌, ◌≤◌, List, [], ◌∷◌, ◌++◌, eqb, refl, sym, ap, ap₂, ◌∙◌, get_or, length, drop, take, arith, inl, inr}
use Rattle.inline_links.proofs.Prelude.{cases_Bool, cond-false, cond-true, content_codes, eqb-true, IsLater, IsShorterRest, length-append, ne_eqb}
use Rattle.std.proofs.lemmas.Bool.{eqb-false}
use Rattle.inline_links.proofs.Cuts.{first_code}

-- one more byte in front makes no fewer codes
fewer_one : (b : ℕ) (bs : List ℕ) → length (content_codes bs) ≤ length (content_codes (b ∷ bs))
fewer_one b [] = omega arith
fewer_one b (d ∷ bs) = elim (cases_Bool (eqb b 13)) [
  | inl h ↦ elim (cases_Bool (eqb d 10)) [
    | inl k ↦
        let next : content_codes (d ∷ bs) ≡ d ∷ content_codes bs = cond-false (eqb d 13) _ _ (ne_eqb d 13 (λ e. omega (arith, e, eqb-true d 10 k))) in
        let e : content_codes (b ∷ d ∷ bs) ≡ 257 ∷ content_codes bs = cond-true (eqb b 13) _ _ h ∙ cond-true (eqb d 10) _ _ k ∙ ap (λ x. 257 ∷ drop 1 x) next in
        omega (arith, ap length e, ap length next)
    | inr k ↦
        let e : content_codes (b ∷ d ∷ bs) ≡ 13 ∷ content_codes (d ∷ bs) = cond-true (eqb b 13) _ _ h ∙ cond-false (eqb d 10) _ _ k in
        omega (arith, ap length e)
  ]
  | inr h ↦
      let e : content_codes (b ∷ d ∷ bs) ≡ b ∷ content_codes (d ∷ bs) = cond-false (eqb b 13) _ _ h in
      omega (arith, ap length e)
]

pub fewer : (n : ℕ) (xs : List ℕ) → length (content_codes (drop n xs)) ≤ length (content_codes xs)
fewer zero xs = omega arith
fewer (suc n) [] = omega arith
fewer (suc n) (x ∷ xs) = omega (arith, fewer n xs, fewer_one x xs)

-- where a code comes first, codes of which the last are given begin with it, unless there are no others
front_of : (p : List ℕ) (c : ℕ) (cs r : List ℕ) → c ∷ cs ≡ p ++ r → length r ≤ length cs → (q : List ℕ) × (p ≡ c ∷ q) × (cs ≡ q ++ r)
front_of [] c cs r e le = absurd (omega (arith, ap length e))
front_of (d ∷ q) c cs r e le = (q, ap (λ x. x ∷ q) (sym (ap (λ x. get_or x 0 0) e)), ap (drop 1) e)

nothing_before : (p r : List ℕ) → r ≡ p ++ r → p ≡ []
nothing_before [] r e = refl
nothing_before (c ∷ p) r e = absurd (omega (arith, ap length e, length-append p r))

first_taken : (n : ℕ) (xs : List ℕ) → get_or (take n xs) 0 0 ≡ 10 → get_or xs 0 0 ≡ 10
first_taken zero xs e = absurd (omega (arith, e))
first_taken (suc n) [] e = absurd (omega (arith, e))
first_taken (suc n) (x ∷ xs) e = e

return_feed : (x y : ℕ) (ys : List ℕ) → x ≡ 13 → y ≡ 10 → content_codes (x ∷ y ∷ ys) ≡ 257 ∷ content_codes ys
return_feed x y ys e f = ap₂ (λ a b. content_codes (a ∷ b ∷ ys)) e f

-- past a byte that is a code
past_code : (n x : ℕ) (xs p : List ℕ) → (x ≡ 13 → get_or xs 0 0 ≡ 10 → ⊥)
    → ((q : List ℕ) → content_codes xs ≡ q ++ content_codes (drop n xs) → content_codes (take n xs) ≡ q)
    → content_codes (x ∷ xs) ≡ p ++ content_codes (drop n xs) → content_codes (x ∷ take n xs) ≡ p
past_code n x xs p apart later e =
    let front = front_of p x (content_codes xs) (content_codes (drop n xs)) (sym (first_code x xs apart) ∙ e) (fewer n xs) in
    first_code x (take n xs) (λ return feed. apart return (first_taken n xs feed))
    ∙ ap (λ codes. x ∷ codes) (later front.0 front.2) ∙ sym front.1

-- between CR and LF
no_cut_inside : (cs p : List ℕ) → 257 ∷ cs ≡ p ++ 10 ∷ cs → ⊥
no_cut_inside cs [] e = omega (arith, ap (λ x. get_or x 0 0) e)
no_cut_inside cs (c ∷ p) e = omega (arith, ap length e, length-append p (10 ∷ cs))

-- the codes before the last ones, where these are the codes from a place on, are those before that place
pub codes_before : (n : ℕ) (xs p : List ℕ) → n ≤ length xs → content_codes xs ≡ p ++ content_codes (drop n xs) → content_codes (take n xs) ≡ p
codes_before zero xs p le e = sym (nothing_before p (content_codes xs) e)
codes_before (suc n) [] p le e = absurd (omega arith)
codes_before (suc n) (x ∷ []) p le e = past_code n x [] p (λ return feed. omega (arith, feed)) (λ q f. codes_before n [] q (omega arith) f) e
codes_before (suc zero) (x ∷ y ∷ ys) p le e = elim (cases_Bool (eqb x 13)) [
  | inl h ↦ elim (cases_Bool (eqb y 10)) [
    | inl k ↦
        let feed = eqb-true y 10 k in
        absurd (no_cut_inside (content_codes ys) p (sym (return_feed x y ys (eqb-true x 13 h) feed) ∙ e ∙ ap (λ b. p ++ content_codes (b ∷ ys)) feed))
    | inr k ↦ past_code zero x (y ∷ ys) p (λ return feed. eqb-false y 10 k feed) (λ q f. codes_before zero (y ∷ ys) q (omega arith) f) e
  ]
  | inr h ↦ past_code zero x (y ∷ ys) p (λ return feed. eqb-false x 13 h return) (λ q f. codes_before zero (y ∷ ys) q (omega arith) f) e
]
codes_before (suc (suc n)) (x ∷ y ∷ ys) p le e = elim (cases_Bool (eqb x 13)) [
  | inl h ↦ elim (cases_Bool (eqb y 10)) [
    | inl k ↦
        let return = eqb-true x 13 h in
        let feed = eqb-true y 10 k in
        let front = front_of p 257 (content_codes ys) (content_codes (drop n ys)) (sym (return_feed x y ys return feed) ∙ e) (fewer n ys) in
        return_feed x y (take n ys) return feed ∙ ap (λ codes. 257 ∷ codes) (codes_before n ys front.0 (omega arith) front.2) ∙ sym front.1
    | inr k ↦ past_code (suc n) x (y ∷ ys) p (λ return feed. eqb-false y 10 k feed) (λ q f. codes_before (suc n) (y ∷ ys) q (omega arith) f) e
  ]
  | inr h ↦ past_code (suc n) x (y ∷ ys) p (λ return feed. eqb-false x 13 h return) (λ q f. codes_before (suc n) (y ∷ ys) q (omega arith) f) e
]

-- what follows the first codes stands at a place that isn't inside a line ending
pub is_later : (content rest p : List ℕ) → IsShorterRest content rest → content_codes content ≡ p ++ content_codes rest → IsLater content rest
is_later content rest p h e =
    let n = length content - length rest in
    let there : content_codes content ≡ p ++ content_codes (drop n content) = e ∙ ap (λ r. p ++ content_codes r) h.place in
    let front : content_codes (take n content) ≡ p = codes_before n content p (omega arith) there in
    record { shorter = h.shorter; place = h.place; cut = there ∙ ap (λ q. q ++ content_codes (drop n content)) (sym front) }
