-- One more byte of a text in which some bytes are printed as something else.
use Rattle.std.proofs.Common.{◌≡◌, ℕ, zero, suc, subst, ◌+◌, ◌-◌, ◌<◌, ◌≤◌, Bool, false, not, List, [], ◌∷◌, ◌++◌, sym, ap, ◌∙◌, get_or, length, drop, take}
use Rattle.std.proofs.Common.{arith, append_assoc}
use Rattle.std.proofs.lemmas.List.Sums.{fails_before_first, prefix_len-le-length}
use Rattle.std.specs.List.{position_or_len}
use Rattle.text_search.specs.declared.set.ByteSet.{ByteSet}
use Rattle.text_search.specs.Sets.{holds}
use Rattle.std.proofs.lemmas.List.{take_more, take_rest, drop_more, append-nil, get_or-drop, length-drop}

-- Bytes are printed as `whole`, each of them as `at`, given those after it. The bytes from `start` to the place wait to be printed as they are.
module _ (whole : List ℕ → List ℕ) (at : ℕ → List ℕ → List ℕ) (more : (b : ℕ) (bs : List ℕ)
    → whole (b ∷ bs) ≡ at b bs ++ whole bs) (text before out : List ℕ) (start i : ℕ) where
  -- what was printed, and the bytes that wait
  abbrev so_far : List ℕ
  so_far = out ++ take (i - start) (drop start text)

  -- what the byte at the place is printed as, given those after it as a slice gives them
  abbrev here : List ℕ
  here = at (get_or text i 0) (take (length text - (i + 1)) (drop (i + 1) text))

  abbrev others : List ℕ
  others = whole (drop (i + 1) text)

  split : i < length text → whole (drop i text) ≡ here ++ others
  split lt =
      ap whole (drop_more text i 0 lt)
      ∙ more (get_or text i 0) (drop (i + 1) text)
      ∙ ap (λ after. at (get_or text i 0) after ++ others) (sym (take_rest text (i + 1)))

  -- the byte is printed after those that wait
  printed_here : (printed : List ℕ) → i < length text → so_far ++ whole (drop i text) ≡ before ++ whole text → here ≡ printed
      → (so_far ++ printed) ++ others ≡ before ++ whole text
  printed_here printed lt same is =
      append_assoc so_far printed others
      ∙ ap (λ x. so_far ++ x) (ap (λ x. x ++ others) (sym is) ∙ sym (split lt))
      ∙ same

  -- a byte that is printed as something else
  pub printed_else : (now : List ℕ) (j : ℕ) (printed : List ℕ) → i < length text → j ≡ i + 1
      → so_far ++ whole (drop i text) ≡ before ++ whole text → here ≡ printed → now ≡ so_far ++ printed
      → (now ++ take (i + 1 - j) (drop j text)) ++ others ≡ before ++ whole text
  printed_else now j printed lt next same is pushed =
      let none : i + 1 - j ≡ 0 = omega arith in
      ap (λ n. (now ++ take n (drop j text)) ++ others) none
      ∙ ap (λ x. x ++ others) (append-nil now ∙ pushed)
      ∙ printed_here printed lt same is

  -- a byte that is printed as it is waits
  pub printed_as_is : i < length text → start ≤ i
      → so_far ++ whole (drop i text) ≡ before ++ whole text → here ≡ get_or text i 0 ∷ []
      → (out ++ take (i + 1 - start) (drop start text)) ++ others ≡ before ++ whole text
  printed_as_is lt le same is =
      let b = get_or text i 0 in
      let waiting = drop start text in
      let n = i - start in
      let longer : i + 1 - start ≡ n + 1 = omega arith in
      let room : n < length waiting = omega (arith, length-drop start text) in
      let place : start + n ≡ i = omega arith in
      let last : get_or waiting n 0 ≡ b = get_or-drop start text n 0 ∙ ap (λ k. get_or text k 0) place in
      ap (λ k. (out ++ take k waiting) ++ others) longer
      ∙ ap (λ x. (out ++ x) ++ others) (take_more waiting n 0 room ∙ ap (λ y. take n waiting ++ y ∷ []) last)
      ∙ ap (λ x. x ++ others) (sym (append_assoc out (take n waiting) (b ∷ [])))
      ∙ printed_here (b ∷ []) lt same is

-- the bytes that wait, and what is left to print, at a place
abbrev pub IsPrintedAt : (List ℕ → List ℕ) → List ℕ → List ℕ → List ℕ → ℕ → ℕ → Type 0
IsPrintedAt whole text before out start i = (out ++ take (i - start) (drop start text)) ++ whole (drop i text) ≡ before ++ whole text

-- bytes that are printed as they are wait
pub all_wait : (whole : List ℕ → List ℕ) (at : ℕ → List ℕ → List ℕ) (more : (b : ℕ) (bs : List ℕ)
    → whole (b ∷ bs) ≡ at b bs ++ whole bs) (text before out : List ℕ) (start n i : ℕ)
    → i + n ≤ length text → start ≤ i → IsPrintedAt whole text before out start i
    → ((k : ℕ) (after : List ℕ) → i ≤ k → k < i + n → at (get_or text k 0) after ≡ get_or text k 0 ∷ []) → IsPrintedAt whole text before out start (i + n)
all_wait whole at more text before out start zero i room le same as_is = subst (IsPrintedAt whole text before out start) (omega arith) same
all_wait whole at more text before out start (suc n) i room le same as_is =
    subst (IsPrintedAt whole text before out start) (omega arith)
    (all_wait whole at more text before out start n (i + 1) (omega arith) (omega arith)
    (printed_as_is whole at more text before out start i (omega arith) le same (as_is i _ (omega arith) (omega arith)))
    (λ k after from to. as_is k after (omega arith) (omega arith)))

-- the next byte that passes a test stands in the text, or is its end
pub is_within : (p : ℕ → Bool) (text : List ℕ) (i next : ℕ) → i ≤ length text → next ≡ position_or_len p (drop i text) → i + next ≤ length text
is_within p text i next le is = omega (arith, is, length-drop i text, prefix_len-le-length (λ x. not (p x)) (drop i text))

-- the bytes before the next one of a set wait, where none but those of the set are printed as something else
pub passed_over : (set : ByteSet) (whole : List ℕ → List ℕ) (at : ℕ → List ℕ → List ℕ) (more : (b : ℕ) (bs : List ℕ)
    → whole (b ∷ bs) ≡ at b bs ++ whole bs) (text before out : List ℕ) (start i next : ℕ)
    → ((b : ℕ) (after : List ℕ) → holds set b ≡ false → at b after ≡ b ∷ []) → i ≤ length text → start ≤ i → next ≡ position_or_len (holds set) (drop i text)
    → IsPrintedAt whole text before out start i → IsPrintedAt whole text before out start (i + next)
passed_over set whole at more text before out start i next others le waits is same =
    all_wait whole at more text before out start next i (is_within (holds set) text i next le is) waits same (λ k after from to.
    let place : i + (k - i) ≡ k = omega arith in
    others (get_or text k 0) after
    (ap (holds set) (sym (get_or-drop i text (k - i) 0 ∙ ap (λ j. get_or text j 0) place))
    ∙ fails_before_first (holds set) (drop i text) (k - i) 0 (omega (arith, is))))
