-- Email addresses in a run of text.
use Rattle.std.proofs.Common.{◌≡◌, ℕ, zero, suc, ◌+◌, ◌-◌, ◌<◌, ◌≤◌, List, [], ◌∷◌, ◌++◌, eqb, None, Some, refl, sym, ap, ◌∙◌, get_or, length, drop, take, map}
use Rattle.std.proofs.Common.{arith, append_assoc, subst}
use Rattle.std.proofs.lemmas.Bool.{cond-false, cond-true, eq-eqb, ne_eqb}
use Rattle.std.proofs.lemmas.List.{drop_all, take_all, drop-drop, drop-append-le, take-append-le, take-append-drop, length-take-le, length-drop, get_or-take}
use Rattle.std.proofs.Math.Seq.{drop-cons, take-suc, take-append-add}
use Rattle.definition_inline.specs.Inline.{InlineLeaf, Data, Literal}
use Rattle.definition_inline.specs.GfmAutolinkLiteral.{Address, address_at, address_or_text, parts_from, with_addresses}

-- codes that are taken already
pub parts_skipped : (k : ℕ) (before cs : List ℕ) → parts_from k before cs ≡ parts_from 0 before (drop k cs)
parts_skipped zero before [] = refl
parts_skipped (suc k) before [] = refl
parts_skipped zero before (c ∷ cs) = refl
parts_skipped (suc k) before (c ∷ cs) = parts_skipped k before cs

one_more : (n : ℕ) → suc n ≡ n + 1
one_more n = omega arith

-- a code that is no `@`
pub other_code : (n : ℕ) (xs : List ℕ) → n < length xs → (get_or xs n 0 ≡ 64 → ⊥)
    → parts_from 0 (take n xs) (drop n xs) ≡ parts_from 0 (take (n + 1) xs) (drop (n + 1) xs)
other_code n xs h other =
    ap (parts_from 0 (take n xs)) (drop-cons xs n 0 h)
    ∙ cond-false (eqb (get_or xs n 0) 64) _ _ (ne_eqb (get_or xs n 0) 64 other)
    ∙ ap (λ before. parts_from 0 before (drop (suc n) xs)) (sym (take-suc xs n 0 h))
    ∙ ap (λ m. parts_from 0 (take m xs) (drop m xs)) (one_more n)

at_sign : (n : ℕ) (xs : List ℕ) → n < length xs → get_or xs n 0 ≡ 64
    → parts_from 0 (take n xs) (drop n xs)
    ≡ address_or_text (take n xs) (drop (suc n) xs) (address_at (take n xs) (drop (suc n) xs)) (λ more next. parts_from more next (drop (suc n) xs))
at_sign n xs h is = ap (parts_from 0 (take n xs)) (drop-cons xs n 0 h) ∙ cond-true (eqb (get_or xs n 0) 64) _ _ (eq-eqb (get_or xs n 0) 64 is)

-- bytes around a place between a text and another
around : (front back : List ℕ) (x b a : ℕ) → b ≤ length front
    → take (b + (1 + a)) (drop (length front - b) (front ++ x ∷ back)) ≡ drop (length front - b) front ++ x ∷ take a back
around front back x b a le =
    let from = drop (length front - b) front in
    let size : b ≡ length from = omega (arith, length-drop (length front - b) front) in
    ap (take (b + (1 + a))) (drop-append-le (length front - b) front (x ∷ back) (omega arith))
    ∙ ap (λ n. take (n + (1 + a)) (from ++ x ∷ back)) size
    ∙ take-append-add from (x ∷ back) (1 + a)
    ∙ ap (λ l. from ++ l) (next a)
  where
    next : (a : ℕ) → take (1 + a) (x ∷ back) ≡ x ∷ take a back
    next a = ap (λ n. take n (x ∷ back)) (one a)
      where
        one : (a : ℕ) → 1 + a ≡ suc a
        one a = omega arith

-- an address around an `@`
pub found_address : (n : ℕ) (xs : List ℕ) (found : Address) → n < length xs → get_or xs n 0 ≡ 64 → found.before ≤ n
    → address_at (take n xs) (drop (n + 1) xs) ≡ Some found
    → parts_from 0 (take n xs) (drop n xs)
    ≡ map Data (take (n - found.before) xs)
    ++ Literal found.kind (take (found.before + (1 + found.after)) (drop (n - found.before) xs)) ∷ with_addresses (drop (n + (1 + found.after)) xs)
found_address n xs found h is le at =
    let front = take n xs in
    let back = drop (suc n) xs in
    let rest : ℕ → List ℕ → List InlineLeaf = λ more next. parts_from more next back in
    let size : length front ≡ n = length-take-le n xs (omega (arith, h)) in
    let whole : xs ≡ front ++ 64 ∷ back =
    sym (take-append-drop n xs) ∙ ap (λ l. front ++ l) (drop-cons xs n 0 h) ∙ ap (λ x. front ++ x ∷ back) is in
    let before : take (length front - found.before) front ≡ take (n - found.before) xs =
    sym (take-append-le (length front - found.before) front (64 ∷ back) (omega arith)) ∙ ap (take (length front - found.before)) (sym whole)
    ∙ ap (λ k. take (k - found.before) xs) size in
    let text : drop (length front - found.before) front ++ 64 ∷ take found.after back ≡ take (found.before + (1 + found.after)) (drop (n - found.before) xs) =
    sym (around front back 64 found.before found.after (omega (arith, size)))
    ∙ ap (λ l. take (found.before + (1 + found.after)) (drop (length front - found.before) l)) (sym whole)
    ∙ ap (λ k. take (found.before + (1 + found.after)) (drop (k - found.before) xs)) size in
    let after : drop found.after back ≡ drop (n + (1 + found.after)) xs = drop-drop found.after (suc n) xs ∙ ap (λ k. drop k xs) (omega arith) in
    at_sign n xs h is
    ∙ ap (λ o. address_or_text front back o rest) (ap (λ m. address_at front (drop m xs)) (one_more n) ∙ at)
    ∙ append_assoc (map Data (take (length front - found.before) front)) (Literal found.kind
    (drop (length front - found.before) front ++ 64 ∷ take found.after back) ∷ []) (rest found.after [])
    ∙ ap (λ l. map Data l ++ Literal found.kind (drop (length front - found.before) front ++ 64 ∷ take found.after back) ∷ rest found.after []) before
    ∙ ap (λ l. map Data (take (n - found.before) xs) ++ Literal found.kind l ∷ rest found.after []) text
    ∙ ap (λ l. map Data (take (n - found.before) xs) ++ Literal found.kind (take (found.before + (1 + found.after)) (drop (n - found.before) xs)) ∷ l)
    (parts_skipped found.after [] back ∙ ap with_addresses after)

-- no address
pub no_address : (n : ℕ) (xs : List ℕ) → n < length xs → get_or xs n 0 ≡ 64 → address_at (take n xs) (drop (n + 1) xs) ≡ None
    → parts_from 0 (take n xs) (drop n xs) ≡ parts_from 0 (take (n + 1) xs) (drop (n + 1) xs)
no_address n xs h is at =
    at_sign n xs h is
    ∙ ap (λ o. address_or_text (take n xs) (drop (suc n) xs) o (λ more next. parts_from more next (drop (suc n) xs)))
    (ap (λ m. address_at (take n xs) (drop m xs)) (one_more n) ∙ at)
    ∙ ap (λ x. parts_from 0 (take n xs ++ x ∷ []) (drop (suc n) xs)) (sym is)
    ∙ ap (λ before. parts_from 0 before (drop (suc n) xs)) (sym (take-suc xs n 0 h))
    ∙ ap (λ m. parts_from 0 (take m xs) (drop m xs)) (one_more n)

-- all of it is text
pub no_more : (n : ℕ) (xs : List ℕ) → length xs ≤ n → parts_from 0 (take n xs) (drop n xs) ≡ map Data xs
no_more n xs le = ap (parts_from 0 (take n xs)) (drop_all n xs le) ∙ ap (map Data) (take_all n xs le)

-- the first byte of a protocol and what is before it, or of what is before alone
pub first_byte : (before : List ℕ) (user protocol : ℕ) → user + protocol ≤ length before → 0 < user
    → (0 < user → get_or before (length before - user) 0 < 128)
    → (0 < protocol → get_or (take (length before - user) before) (length (take (length before - user) before) - protocol) 0 < 128)
    → get_or before (length before - (user + protocol)) 0 < 128
first_byte before user zero within some last first =
    let e : length before - (user + 0) ≡ length before - user = omega arith in
    subst (λ k. get_or before k 0 < 128) (sym e) (last some)
first_byte before user (suc n) within some last first =
    let size : length (take (length before - user) before) ≡ length before - user = length-take-le (length before - user) before (omega arith) in
    let e : length (take (length before - user) before) - suc n ≡ length before - (user + suc n) = omega (arith, size) in
    subst (λ b. b < 128)
    (ap (λ k. get_or (take (length before - user) before) k 0) e ∙ get_or-take (length before - user) before (length before - (user + suc n)) 0
    (omega (arith, within)))
    (first (omega arith))
