-- The start and the end of a content.
use Rattle.std.proofs.Common.{◌≡◌, ℕ, zero, suc, ◌+◌, ◌-◌, ◌≤◌, Bool, cond, List, [], ◌∷◌, refl, sym, ap, ◌∙◌, length, arith, drop}
use Rattle.inline_parser.proofs.Prelude.{codes_of, codes_of_view, Content, content_codes, content_view, InlineCode, is_white, length-map, prefix_len}
use Rattle.inline_parser.proofs.Prelude.{size_before, view_at}

white_codes : (view : List InlineCode) → prefix_len (λ (c : InlineCode). is_white c.code) view ≡ prefix_len is_white (codes_of view)
white_codes [] = refl
white_codes (c ∷ cs) = ap (λ n. cond (is_white c.code) (1 + n) 0) (white_codes cs)

drop_past : {A : Type 0} (n : ℕ) (xs : List A) → length xs ≤ n → drop n xs ≡ []
drop_past zero [] le = refl
drop_past zero (x ∷ xs) le = absurd (omega (arith, le))
drop_past (suc n) [] le = refl
drop_past (suc n) (x ∷ xs) le = drop_past n xs (omega (arith, le))

module _ (p : ℕ → Bool) (content : Content) where
  -- after the spaces and tabs at its start
  pub first_view : (rest : List ℕ) → size_before content.text.now rest ≡ prefix_len is_white (content_codes content.text.now)
      → view_at p content rest ≡ drop (prefix_len (λ (c : InlineCode). is_white c.code) (content_view p content)) (content_view p content)
  first_view rest size =
      ap (λ n. drop n (content_view p content))
      (size ∙ ap (prefix_len is_white) (sym (codes_of_view p content)) ∙ sym (white_codes (content_view p content)))

  -- nothing is left
  pub last_view : (rest : List ℕ) → rest ≡ [] → view_at p content rest ≡ []
  last_view rest none =
      let count = ap length (codes_of_view p content) in
      drop_past (length (content_codes content.text.now) - length (content_codes rest)) (content_view p content)
      (omega (arith, count, length-map (content_view p content) (λ (c : InlineCode). c.code), ap (λ r. length (content_codes r)) none))
