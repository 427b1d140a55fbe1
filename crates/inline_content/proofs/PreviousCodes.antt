-- The code before a place in its line.
use Rattle.std.proofs.Common.{◌≡◌, ℕ, zero, suc, ◌-◌, ◌<◌, ◌≤◌, ◌||◌, false, List, [], ◌∷◌, ◌++◌, Option, None, Some, eqb, refl, sym, ap, ◌∙◌, get_or, length}
use Rattle.std.proofs.Common.{take, arith, subst, inl, inr, ◌⊎◌}
use Rattle.inline_content.proofs.Prelude.{cond-false, cond-true, content_codes, is_eol, ne_eqb, or_from, previous_after, previous_from}
use Rattle.std.proofs.Math.Seq.{take-suc}
use Rattle.inline_content.proofs.Places.{EndsLine, codes_append, ends_with_return, ends_with_feed}

previous_append : (q : Option ℕ) (front : List ℕ) (c : ℕ) → previous_from q (front ++ c ∷ []) ≡ previous_after c
previous_append q [] c = refl
previous_append q (x ∷ front) c = previous_append (previous_after x) front c

last_byte : (n : ℕ) (xs : List ℕ) → 0 < n → n ≤ length xs → take n xs ≡ take (n - 1) xs ++ get_or xs (n - 1) 0 ∷ []
last_byte zero xs some le = absurd (omega (arith, some))
last_byte (suc n) xs some le = at n xs (suc n - 1) (omega arith) (omega (arith, le))
  where
    at : (n : ℕ) (xs : List ℕ) (m : ℕ) → m ≡ n → n < length xs → take (suc n) xs ≡ take m xs ++ get_or xs m 0 ∷ []
    at n xs m e h = take-suc xs n 0 h ∙ ap (λ k. take k xs ++ get_or xs k 0 ∷ []) (sym e)

after_line : (cs : List ℕ) → EndsLine cs → None ≡ previous_from None cs
after_line cs e = sym (ap (previous_from None) e.same ∙ previous_append None e.front e.ending ∙ cond-true (is_eol e.ending) None _ e.is)

-- at the start
pub none_first : (n : ℕ) (xs : List ℕ) → n ≡ 0 → None ≡ previous_from None (content_codes (take n xs))
none_first n xs none = sym (ap (λ k. previous_from None (content_codes (take k xs))) none)

-- after an ending
pub none_after : (n : ℕ) (xs : List ℕ) → 0 < n → n ≤ length xs → (get_or xs (n - 1) 0 ≡ 10) ⊎ (get_or xs (n - 1) 0 ≡ 13)
    → None ≡ previous_from None (content_codes (take n xs))
none_after n xs some le (inl feed) =
    after_line (content_codes (take n xs)) (subst (λ l. EndsLine (content_codes l)) (sym (last_byte n xs some le ∙ ap (λ b. take (n - 1) xs ++ b ∷ []) feed))
    (ends_with_feed (take (n - 1) xs)))
none_after n xs some le (inr return) =
    after_line (content_codes (take n xs)) (subst (λ l. EndsLine (content_codes l)) (sym (last_byte n xs some le ∙ ap (λ b. take (n - 1) xs ++ b ∷ []) return))
    (ends_with_return (take (n - 1) xs)))

-- after another byte
pub some_after : (n : ℕ) (xs : List ℕ) → 0 < n → n ≤ length xs → get_or xs (n - 1) 0 < 256 → (get_or xs (n - 1) 0 ≡ 10 → ⊥) → (get_or xs (n - 1) 0 ≡ 13 → ⊥)
    → Some (get_or xs (n - 1) 0) ≡ previous_from None (content_codes (take n xs))
some_after n xs some le small feed return =
    let b = get_or xs (n - 1) 0 in
    let front = take (n - 1) xs in
    let apart : is_eol b ≡ false = or_from (eqb b 10 || eqb b 13) (eqb b 257) (or_from (eqb b 10) (eqb b 13) (ne_eqb b 10 feed) (ne_eqb b 13 return))
    (ne_eqb b 257 (λ e. omega (arith, e, small))) in
    sym
    (ap (λ l. previous_from None (content_codes l)) (last_byte n xs some le)
    ∙ ap (previous_from None) (codes_append front b [] feed ∙ ap (λ cs. content_codes front ++ cs) (cond-false (eqb b 13) _ _ (ne_eqb b 13 return)))
    ∙ previous_append None (content_codes front) b
    ∙ cond-false (is_eol b) None (Some b) apart)
