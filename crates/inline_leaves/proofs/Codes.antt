-- The codes of a content and its bytes.
use Rattle.std.proofs.Common.{◌≡◌, ℕ, zero, suc, ◌+◌, ◌-◌, ◌<◌, ◌≤◌, List, [], ◌∷◌, ◌++◌, Bool, false, cond, eqb, refl, sym, ap, ◌∙◌, get_or, length, drop}
use Rattle.std.proofs.Common.{take, arith, inl, inr, subst}
use Rattle.std.proofs.lemmas.Bool.{cases_Bool, cases_lt, cond-false, cond-true, eqb-true, ne_eqb, false≢true}
use Rattle.std.proofs.lemmas.List.{drop_at, drop-drop, get_or-drop, take_at, length-take-le, length-append, length-drop}
use Rattle.std.proofs.lemmas.List.Sums.{prefix_len_passes, prefix_len-le-length}
use Rattle.std.specs.List.{prefix_len, take_while}
use Rattle.definition_text.specs.Bytes.{after_all}
use Rattle.definition_text.specs.Content.{content_codes}
use Rattle.std.specs.Str.{IsCharBoundary, IsUtf8}
use Rattle.std.proofs.lemmas.Str.{IsCharBoundary-after_ascii}
use Rattle.inline_links.specs.Codes.{IsCut, IsRest}
use Rattle.inline_links.proofs.Cuts.{codes_some, cut_at}
use Rattle.inline_leaves.specs.Leaves.{IsAfter, IsEnd, IsPlain, size_before}

-- ---- the first code

-- a byte that isn't CR is a code
pub plain_code : (b : ℕ) (bs : List ℕ) → (b ≡ 13 → ⊥) → content_codes (b ∷ bs) ≡ b ∷ content_codes bs
plain_code b bs apart = cond-false (eqb b 13) _ _ (ne_eqb b 13 apart)

-- what is the same whichever code a CR begins
pub at_return : {A : Type 0} → (f : List ℕ → A) (y : A) (bs : List ℕ)
    → ((cs : List ℕ) → f (13 ∷ cs) ≡ y) → ((cs : List ℕ) → f (257 ∷ cs) ≡ y) → f (content_codes (13 ∷ bs)) ≡ y
at_return f y [] alone both = alone []
at_return f y (b ∷ bs) alone both = elim (cases_Bool (eqb b 10)) [
  | inl h ↦ ap f (cond-true (eqb b 10) _ _ h) ∙ both _
  | inr h ↦ ap f (cond-false (eqb b 10) _ _ h) ∙ alone _
]

-- ---- the front of a content without CR

-- bytes without CR are codes
pub plain_codes : (n : ℕ) (xs : List ℕ) → n ≤ length xs → ((k : ℕ) → k < n → get_or xs k 0 ≡ 13 → ⊥)
    → content_codes xs ≡ take n xs ++ content_codes (drop n xs)
plain_codes zero xs le apart = refl
plain_codes (suc n) [] le apart = absurd (omega arith)
plain_codes (suc n) (x ∷ xs) le apart =
    plain_code x xs (apart zero (omega arith)) ∙ ap (λ c. x ∷ c) (plain_codes n xs (omega arith) (λ k lt. apart (suc k) (omega arith)))

pub plain_drop : (n : ℕ) (xs : List ℕ) → n ≤ length xs → ((k : ℕ) → k < n → get_or xs k 0 ≡ 13 → ⊥)
    → drop n (content_codes xs) ≡ content_codes (drop n xs)
plain_drop n xs le apart = ap (drop n) (plain_codes n xs le apart) ∙ drop_at (take n xs) (content_codes (drop n xs)) n (length-take-le n xs le)

pub plain_take : (n : ℕ) (xs : List ℕ) → n ≤ length xs → ((k : ℕ) → k < n → get_or xs k 0 ≡ 13 → ⊥)
    → take n (content_codes xs) ≡ take n xs
plain_take n xs le apart = ap (take n) (plain_codes n xs le apart) ∙ take_at (take n xs) (content_codes (drop n xs)) n (length-take-le n xs le)

pub plain_size : (n : ℕ) (xs : List ℕ) → n ≤ length xs → ((k : ℕ) → k < n → get_or xs k 0 ≡ 13 → ⊥)
    → length (content_codes xs) ≡ n + length (content_codes (drop n xs))
plain_size n xs le apart =
    ap length (plain_codes n xs le apart) ∙ length-append (take n xs) (content_codes (drop n xs))
    ∙ ap (λ k. k + length (content_codes (drop n xs))) (length-take-le n xs le)

pub plain_join : (xs : List ℕ) (n m : ℕ) → IsPlain xs n → IsPlain (drop n xs) m → IsPlain xs (n + m)
plain_join xs n m first second = record {
  within = omega (arith, first.within, second.within, length-drop n xs);
  plain = λ k lt. elim (cases_lt k n) [
    | inl here ↦ first.plain k here
    | inr there ↦ let place : n + (k - n) ≡ k = omega arith in
        λ e. second.plain (k - n) (omega arith) (get_or-drop n xs (k - n) 0 ∙ ap (λ j. get_or xs j 0) place ∙ e)
  ];
}

-- ---- codes that pass a test, which line endings fail

pub prefix_codes : (test : ℕ → Bool) → test 13 ≡ false → test 257 ≡ false → (xs : List ℕ) → prefix_len test (content_codes xs) ≡ prefix_len test xs
prefix_codes test return both [] = refl
prefix_codes test return both (b ∷ bs) = elim (cases_Bool (eqb b 13)) [
  | inl h ↦
      let e = eqb-true b 13 h in
      ap (λ x. prefix_len test (content_codes (x ∷ bs))) e
      ∙ at_return (prefix_len test) 0 bs (λ cs. cond-false (test 13) _ _ return) (λ cs. cond-false (test 257) _ _ both)
      ∙ sym (cond-false (test b) (1 + prefix_len test bs) 0 (ap test e ∙ return))
  | inr h ↦
      ap (prefix_len test) (cond-false (eqb b 13) _ _ h)
      ∙ ap (λ k. cond (test b) (1 + k) 0) (prefix_codes test return both bs)
]

-- no CR among them
pub prefix_plain : (test : ℕ → Bool) → test 13 ≡ false → (xs : List ℕ) (n : ℕ) → n ≤ prefix_len test xs → (k : ℕ) → k < n → get_or xs k 0 ≡ 13 → ⊥
prefix_plain test return xs n le k lt e = false≢true (sym return ∙ ap test (sym e) ∙ prefix_len_passes test xs k 0 (omega arith))

pub after_codes : (test : ℕ → Bool) → test 13 ≡ false → test 257 ≡ false → (xs : List ℕ) → after_all test (content_codes xs) ≡ content_codes (after_all test xs)
after_codes test return both xs =
    let n = prefix_len test xs in
    ap (λ k. drop k (content_codes xs)) (prefix_codes test return both xs)
    ∙ plain_drop n xs (prefix_len-le-length test xs) (prefix_plain test return xs n (omega arith))

pub while_codes : (test : ℕ → Bool) → test 13 ≡ false → test 257 ≡ false → (xs : List ℕ) → take_while test (content_codes xs) ≡ take_while test xs
while_codes test return both xs =
    let n = prefix_len test xs in
    ap (λ k. take k (content_codes xs)) (prefix_codes test return both xs)
    ∙ plain_take n xs (prefix_len-le-length test xs) (prefix_plain test return xs n (omega arith))

-- ---- what follows a place

pub rest_place : (xs : List ℕ) (n : ℕ) → n ≤ length xs → length xs - length (drop n xs) ≡ n
rest_place xs n le = omega (arith, length-drop n xs)

pub is_after : (xs rest : List ℕ) (n : ℕ) → rest ≡ drop n xs → 0 < n → n ≤ length xs → IsCut xs n → IsAfter xs rest
is_after [] rest n e some le cut = absurd (omega arith)
is_after xs rest zero e some le cut = absurd (omega arith)
is_after (x ∷ xs) rest (suc n) e some le cut =
    let there : length (x ∷ xs) - length rest ≡ suc n = ap (λ r. length (x ∷ xs) - length r) e ∙ rest_place (x ∷ xs) (suc n) le in
    let first = codes_some x (take n xs) in
    let front = content_codes (take (suc n) (x ∷ xs)) in
    let after = content_codes rest in
    let joined : content_codes (x ∷ xs) ≡ front ++ after = cut ∙ ap (λ r. front ++ content_codes r) (sym e) in
    let sizes : length (content_codes (x ∷ xs)) ≡ length front + length after = ap length joined ∙ length-append front after in
    let more : length front ≡ suc (length (first.1)) = ap length first.2 in
    let size : length front ≡ size_before (x ∷ xs) rest = omega arith in
    record {
      shorter = omega (arith, ap length e, length-drop (suc n) (x ∷ xs));
      place = e ∙ ap (λ k. drop k (x ∷ xs)) (sym there);
      fewer = omega arith;
      codes = sym (drop_at front after (length front) refl) ∙ ap (λ k. drop k (front ++ after)) size ∙ ap (drop (size_before (x ∷ xs) rest)) (sym joined);
    }

pub cut_plain : (xs : List ℕ) (n : ℕ) → n ≤ length xs → ((k : ℕ) → k < n → get_or xs k 0 ≡ 13 → ⊥) → IsCut xs n
cut_plain xs n le apart = plain_codes n xs le apart ∙ ap (λ c. c ++ content_codes (drop n xs)) (sym (plain_text n xs le apart))
  where
    plain_text : (n : ℕ) (xs : List ℕ) → n ≤ length xs → ((k : ℕ) → k < n → get_or xs k 0 ≡ 13 → ⊥) → content_codes (take n xs) ≡ take n xs
    plain_text zero xs le apart = refl
    plain_text (suc n) [] le apart = refl
    plain_text (suc n) (x ∷ xs) le apart =
        plain_code x (take n xs) (apart zero (omega arith)) ∙ ap (λ c. x ∷ c) (plain_text n xs (omega arith) (λ k lt. apart (suc k) (omega arith)))

pub size_plain : (n : ℕ) (xs rest : List ℕ) → rest ≡ drop n xs → n ≤ length xs → ((k : ℕ) → k < n → get_or xs k 0 ≡ 13 → ⊥) → size_before xs rest ≡ n
size_plain n xs rest e le apart =
    let f : length (content_codes rest) ≡ length (content_codes (drop n xs)) = ap (λ r. length (content_codes r)) e in
    omega (arith, plain_size n xs le apart, f)

-- a cut in a text after an ASCII byte that isn't CR
pub cut_after_byte : (xs : List ℕ) (end : ℕ) → 0 < end → (get_or xs (end - 1) 0 ≡ 13 → ⊥) → IsCut xs end
cut_after_byte xs end some apart = cut_at xs end (end - 1) (omega arith) (λ return feed. apart return)

pub boundary_after_byte : (xs : List ℕ) (end : ℕ) → IsUtf8 xs → 0 < end → end ≤ length xs → get_or xs (end - 1) 0 < 128 → IsCharBoundary xs end
boundary_after_byte xs end u some le ascii =
    let e : end - 1 + 1 ≡ end = omega arith in
    subst (IsCharBoundary xs) e (IsCharBoundary-after_ascii xs (end - 1) u (omega arith) ascii)

-- an end that this byte stands before
pub end_after : (xs : List ℕ) (end : ℕ) → 0 < end → end ≤ length xs → get_or xs (end - 1) 0 < 128 → (get_or xs (end - 1) 0 ≡ 13 → ⊥) → IsEnd xs end
end_after xs end some le ascii apart = record { some = some; within = le; ascii = ascii; cut = cut_after_byte xs end some apart }

-- a rest of a rest
pub rest_of_rest : (content bytes rest : List ℕ) (n : ℕ) → IsRest content bytes → n ≤ length bytes → rest ≡ drop n bytes → IsRest content rest
rest_of_rest content bytes rest n place le e =
    let size : length rest ≡ length bytes - n = ap length e ∙ length-drop n bytes in
    let there : length content - length bytes + n ≡ length content - length rest = omega (arith, place.within) in
    record {
      within = omega (arith, place.within);
      place = e ∙ ap (drop n) place.place ∙ drop-drop n (length content - length bytes) content ∙ ap (λ k. drop k content) there;
    }
