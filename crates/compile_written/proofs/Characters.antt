-- Fronts of a text, and what is between two of them.
use Rattle.std.proofs.Common.{◌≡◌, ◌<◌, ◌≤◌, ℕ, zero, suc, ◌+◌, ◌-◌, Bool, true, false, List, [], ◌∷◌, ◌++◌, take, drop, length, refl, sym, ap, subst, ◌∙◌, arith}
use Rattle.compile_written.proofs.Prelude.{is_utf8, is_utf8-from_IsUtf8, IsUtf8, IsUtf8-from_is_utf8, slice_index}
use Rattle.std.proofs.Math.Seq.{take-add, take-append_seam, drop-append_seam}
use Rattle.std.proofs.lemmas.List.{length-append}
use Rattle.std.proofs.lemmas.Str.{IsUtf8-append, IsUtf8-drop, IsUtf8-from_ascii, IsCharBoundary-from_take}

-- what follows a text in a text is one
after_text : (xs ys : List ℕ) → IsUtf8 xs → IsUtf8 (xs ++ ys) → IsUtf8 ys
after_text xs ys u w =
    let front : IsUtf8 (take (length xs) (xs ++ ys)) = subst IsUtf8 (sym (take-append_seam xs ys)) u in
    let at = IsCharBoundary-from_take (xs ++ ys) (length xs) w (omega (arith, length-append xs ys)) front in
    subst IsUtf8 (drop-append_seam xs ys) (IsUtf8-drop (xs ++ ys) (length xs) w at)

not_both : {A : Type 0} (t : Bool) → t ≡ false → t ≡ true → A
not_both t h k = absurd (let f : true ≡ false = sym k ∙ h in cc)

text_by : (xs ys : List ℕ) (u v : Bool) → is_utf8 xs ≡ true → is_utf8 ys ≡ u → is_utf8 (xs ++ ys) ≡ v → v ≡ u
text_by xs ys true true h k e = refl
text_by xs ys false false h k e = refl
text_by xs ys true false h k e =
    not_both (is_utf8 (xs ++ ys)) e (is_utf8-from_IsUtf8 (xs ++ ys) (IsUtf8-append xs ys (IsUtf8-from_is_utf8 xs h) (IsUtf8-from_is_utf8 ys k)))
text_by xs ys false true h k e =
    not_both (is_utf8 ys) k (is_utf8-from_IsUtf8 ys (after_text xs ys (IsUtf8-from_is_utf8 xs h) (IsUtf8-from_is_utf8 (xs ++ ys) e)))

cut : (i j : ℕ) (bs : List ℕ) → i ≤ j → take j bs ≡ take i bs ++ take (j - i) (drop i bs)
cut i j bs h =
    let e : i + (j - i) ≡ j = omega arith in
    ap (λ (z : ℕ). take z bs) (sym e) ∙ take-add i (j - i) bs

pub text_more : (bs : List ℕ) (i j : ℕ) → is_utf8 (take i bs) ≡ true → i ≤ j → is_utf8 (take j bs) ≡ is_utf8 (take (j - i) (drop i bs))
text_more bs i j h k =
    ap is_utf8 (cut i j bs k)
    ∙ text_by (take i bs) (take (j - i) (drop i bs)) (is_utf8 (take (j - i) (drop i bs))) (is_utf8 (take i bs ++ take (j - i) (drop i bs))) h refl refl

one_below : (b i : ℕ) → b < 128 → slice_index (b ∷ []) i < 128
one_below b zero h = h
one_below b (suc i) h = let e : slice_index (b ∷ []) (suc i) ≡ 0 = refl in omega (arith, e)

pub ascii_byte : (b : ℕ) → b < 128 → is_utf8 (b ∷ []) ≡ true
ascii_byte b h = is_utf8-from_IsUtf8 (b ∷ []) (IsUtf8-from_ascii (b ∷ []) (λ i. one_below b i h))
