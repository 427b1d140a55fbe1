-- The codes of a content, cut between two of them.
use Rattle.std.proofs.Common.{◌≡◌, ℕ, zero, suc, ◌+◌, ◌<◌, List, [], ◌∷◌, ◌++◌, cond, eqb, refl, sym, ap, ◌∙◌, get_or, length, drop, take, arith, inl, inr}
use Rattle.std.proofs.Common.{subst}
use Rattle.inline_links.proofs.Prelude.{cases_Bool, cond-false, cond-true, content_codes, eqb-true, get_or-drop, IsCut, ne_eqb}
use Rattle.std.proofs.lemmas.List.{append-nil, drop_more}

-- what the codes of `a ∷ b ∷ ..` are, given those of `b ∷ ..`
codes_with : (a b : ℕ) (codes : List ℕ) → List ℕ
codes_with a b codes = cond (eqb a 13) (cond (eqb b 10) (257 ∷ drop 1 codes) (13 ∷ codes)) (a ∷ codes)

-- the codes of bytes, of which there is one, are some code and others
pub codes_some : (b : ℕ) (bs : List ℕ) → (c : ℕ) × (cs : List ℕ) × (content_codes (b ∷ bs) ≡ c ∷ cs)
codes_some b [] = elim (cases_Bool (eqb b 13)) [
  | inl h ↦ (13, [], cond-true (eqb b 13) _ _ h)
  | inr h ↦ (b, [], cond-false (eqb b 13) _ _ h)
]
codes_some b (d ∷ bs) = elim (cases_Bool (eqb b 13)) [
  | inl h ↦ elim (cases_Bool (eqb d 10)) [
    | inl k ↦ (257, _, cond-true (eqb b 13) _ _ h ∙ cond-true (eqb d 10) _ _ k)
    | inr k ↦ (13, _, cond-true (eqb b 13) _ _ h ∙ cond-false (eqb d 10) _ _ k)
  ]
  | inr h ↦ (b, _, cond-false (eqb b 13) _ _ h)
]

drop_front : (c : ℕ) (cs codes others : List ℕ) → codes ≡ c ∷ cs → drop 1 (codes ++ others) ≡ drop 1 codes ++ others
drop_front c cs codes others e = ap (λ x. drop 1 (x ++ others)) e ∙ sym (ap (λ x. drop 1 x ++ others) e)

-- one more byte in front keeps a cut
codes_with_front : (a b c : ℕ) (cs codes others : List ℕ) → codes ≡ c ∷ cs → codes_with a b (codes ++ others) ≡ codes_with a b codes ++ others
unfolding codes_with
codes_with_front a b c cs codes others e =
    elim (cases_Bool (eqb a 13)) [
      | inl h ↦ elim (cases_Bool (eqb b 10)) [
        | inl k ↦ cond-true (eqb a 13) _ _ h ∙ cond-true (eqb b 10) _ _ k ∙ ap (λ x. 257 ∷ x) (drop_front c cs codes others e)
            ∙ sym (ap (λ x. x ++ others) (cond-true (eqb a 13) _ _ h ∙ cond-true (eqb b 10) _ _ k))
        | inr k ↦ cond-true (eqb a 13) _ _ h ∙ cond-false (eqb b 10) _ _ k
            ∙ sym (ap (λ x. x ++ others) (cond-true (eqb a 13) _ _ h ∙ cond-false (eqb b 10) _ _ k))
      ]
      | inr h ↦ cond-false (eqb a 13) _ _ h ∙ sym (ap (λ x. x ++ others) (cond-false (eqb a 13) _ _ h))
    ]

-- the first byte of a content, which isn't the CR of a CR LF, is a code
pub first_code : (b : ℕ) (bs : List ℕ) → (b ≡ 13 → get_or bs 0 0 ≡ 10 → ⊥) → content_codes (b ∷ bs) ≡ b ∷ content_codes bs
first_code b [] apart = elim (cases_Bool (eqb b 13)) [
  | inl h ↦ cond-true (eqb b 13) _ _ h ∙ ap (λ x. x ∷ []) (sym (eqb-true b 13 h))
  | inr h ↦ cond-false (eqb b 13) _ _ h
]
first_code b (d ∷ bs) apart = elim (cases_Bool (eqb b 13)) [
  | inl h ↦ cond-true (eqb b 13) _ _ h ∙ cond-false (eqb d 10) _ _ (ne_eqb d 10 (apart (eqb-true b 13 h)))
      ∙ ap (λ x. x ∷ content_codes (d ∷ bs)) (sym (eqb-true b 13 h))
  | inr h ↦ cond-false (eqb b 13) _ _ h
]

-- a cut after a byte that isn't the CR of a CR LF
pub cut_after : (n : ℕ) (xs : List ℕ) → (get_or xs n 0 ≡ 13 → get_or xs (suc n) 0 ≡ 10 → ⊥) → IsCut xs (suc n)
unfolding codes_with
cut_after n [] apart = refl
cut_after zero (x ∷ xs) apart = first_code x xs apart ∙ sym (ap (λ c. c ++ content_codes xs) (first_code x [] (λ e f. omega arith)))
cut_after (suc n) (x ∷ []) apart = sym (append-nil (content_codes (x ∷ [])))
cut_after (suc n) (x ∷ y ∷ ys) apart =
    let front = codes_some y (take n ys) in
    ap (codes_with x y) (cut_after n (y ∷ ys) apart)
    ∙ codes_with_front x y front.0 front.1 (content_codes (y ∷ take n ys)) (content_codes (drop n ys)) front.2

-- the same at a place
pub cut_at : (xs : List ℕ) (next at : ℕ) → next ≡ at + 1 → (get_or xs at 0 ≡ 13 → get_or xs next 0 ≡ 10 → ⊥) → IsCut xs next
cut_at xs next at e apart =
    let f : suc at ≡ next = omega arith in
    subst (IsCut xs) f (cut_after at xs (λ return feed. apart return (ap (λ k. get_or xs k 0) (sym f) ∙ feed)))

-- the code of one byte at a place
pub one_code : (xs : List ℕ) (at : ℕ) → at < length xs → (get_or xs at 0 ≡ 13 → get_or xs (at + 1) 0 ≡ 10 → ⊥)
    → content_codes (drop at xs) ≡ get_or xs at 0 ∷ content_codes (drop (at + 1) xs)
one_code xs at lt apart =
    let first : get_or (drop (at + 1) xs) 0 0 ≡ get_or xs (at + 1) 0 = get_or-drop (at + 1) xs 0 0 ∙ ap (λ k. get_or xs k 0) (omega arith) in
    ap content_codes (drop_more xs at 0 lt) ∙ first_code (get_or xs at 0) (drop (at + 1) xs) (λ return feed. apart return (sym first ∙ feed))

-- the one code of CR LF at a place
pub two_bytes : (xs : List ℕ) (at : ℕ) → at + 1 < length xs → get_or xs at 0 ≡ 13 → get_or xs (at + 1) 0 ≡ 10
    → content_codes (drop at xs) ≡ 257 ∷ content_codes (drop (at + 2) xs)
two_bytes xs at lt return feed =
    let next : at + 1 + 1 ≡ at + 2 = omega arith in
    let here : drop at xs ≡ 13 ∷ drop (at + 1) xs = drop_more xs at 0 (omega arith) ∙ ap (λ b. b ∷ drop (at + 1) xs) return in
    let there : drop (at + 1) xs ≡ 10 ∷ drop (at + 2) xs =
    drop_more xs (at + 1) 0 lt ∙ ap (λ b. b ∷ drop (at + 1 + 1) xs) feed ∙ ap (λ k. 10 ∷ drop k xs) next in
    ap content_codes (here ∙ ap (λ x. 13 ∷ x) there)
