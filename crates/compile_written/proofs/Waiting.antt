-- One more byte of a text that is written.
use Rattle.std.proofs.Common.{◌≡◌, ℕ, ◌+◌, ◌-◌, ◌<◌, ◌≤◌, List, [], ◌∷◌, ◌++◌, sym, ap, ◌∙◌, get_or, length, drop, take, arith, append_assoc}
use Rattle.compile_written.proofs.Prelude.{append-nil, length-drop, written, written_byte}
use Rattle.std.proofs.lemmas.List.{take_more, drop_more, get_or-drop}

-- what was appended, the bytes from `start` that wait, and what is left to write, at a place
abbrev pub IsWrittenAt : List ℕ → List ℕ → List ℕ → ℕ → ℕ → Type 0
IsWrittenAt text before out start i = (out ++ take (i - start) (drop start text)) ++ written (drop i text) ≡ before ++ written text

module _ (text before out : List ℕ) (start i : ℕ) where
  abbrev so_far : List ℕ
  so_far = out ++ take (i - start) (drop start text)

  abbrev others : List ℕ
  others = written (drop (i + 1) text)

  written_here : (printed : List ℕ) → i < length text → IsWrittenAt text before out start i → written_byte (get_or text i 0) ≡ printed
      → (so_far ++ printed) ++ others ≡ before ++ written text
  written_here printed lt same is =
      append_assoc so_far printed others
      ∙ ap (λ x. so_far ++ x) (ap (λ x. x ++ others) (sym is) ∙ sym (ap written (drop_more text i 0 lt)))
      ∙ same

  -- a byte that is written by its number
  pub written_else : (now : List ℕ) (j : ℕ) (printed : List ℕ) → i < length text → j ≡ i + 1
      → IsWrittenAt text before out start i → written_byte (get_or text i 0) ≡ printed → now ≡ so_far ++ printed → IsWrittenAt text before now j (i + 1)
  written_else now j printed lt next same is pushed =
      let none : i + 1 - j ≡ 0 = omega arith in
      ap (λ n. (now ++ take n (drop j text)) ++ others) none
      ∙ ap (λ x. x ++ others) (append-nil now ∙ pushed)
      ∙ written_here printed lt same is

  -- a byte that is written as it is waits
  pub written_as_is : i < length text → start ≤ i → IsWrittenAt text before out start i → written_byte (get_or text i 0) ≡ get_or text i 0 ∷ []
      → IsWrittenAt text before out start (i + 1)
  written_as_is lt le same is =
      let b = get_or text i 0 in
      let waiting = drop start text in
      let n = i - start in
      let longer : i + 1 - start ≡ n + 1 = omega arith in
      let room : n < length waiting = omega (arith, length-drop start text) in
      let place : start + n ≡ i = omega arith in
      let last : get_or waiting n 0 ≡ b = get_or-drop start text n 0 ∙ ap (λ k. get_or text k 0) place in
      ap (λ k. (out ++ take k waiting) ++ others) longer
      ∙ ap (λ x. (out ++ x) ++ others) (take_more waiting n 0 room ∙ ap (λ y. take n waiting ++ y ∷ []) last)
      ∙ ap (λ x. x ++ others) (sym (append_assoc out (take n waiting) (b ∷ [])))
      ∙ written_here (b ∷ []) lt same is
