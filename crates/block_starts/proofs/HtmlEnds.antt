-- A line without a `>` ends no HTML block but one that ends before a blank line.
use Rattle.std.proofs.Common.{◌≡◌, ℕ, zero, suc, ◌+◌, Bool, true, false, cond, not, ◌||◌, List, [], ◌∷◌, ◌++◌, length, drop, refl, ap, ◌∙◌, arith}
use Rattle.std.proofs.Common.{nat_lt}
use Rattle.std.specs.Prelude.{◌==◌, codes}
use Rattle.std.specs.List.{list_any, position_or_len}
use Rattle.std.proofs.lemmas.Bool.{le-ltb, lt-ltb, ltb-false, ltb-true, ne_eqb, and_left, and_right, or_parts, or_from}
use Rattle.definition_text.specs.Bytes.{begins_with, somewhere}
use Rattle.definition_block.specs.HtmlFlow.{after_element_name, begins_with_raw_end, html_ends, element_name}
use Rattle.definition_block.specs.HtmlNames.{is_raw_name}
use Rattle.block_starts.specs.declared.html_flow.HtmlKind.{HtmlKind}
use Rattle.block_starts.specs.declared.html_flow.HtmlKind.TheVariants.{Raw, Comment, Instruction, Declaration, CharacterData, Basic, Complete}
use Rattle.block_starts.specs.HtmlFlow.{is_greater_than, number_of}

moved : (place size : ℕ) (b : Bool) → nat_lt place size ≡ b → nat_lt (1 + place) (suc size) ≡ b
moved place size true h = lt-ltb (1 + place) (suc size) (omega (arith, ltb-true place size h))
moved place size false h = le-ltb (1 + place) (suc size) (omega (arith, ltb-false place size h))

place_step : (here : Bool) (place size : ℕ) (later : Bool) → nat_lt place size ≡ later → nat_lt (cond (not here) (1 + place) 0) (suc size) ≡ here || later
place_step true place size later h = lt-ltb 0 (suc size) (omega arith)
place_step false place size later h = moved place size later h

-- a byte passes a test where the first that does stands before the end
pub any_place : (p : ℕ → Bool) (xs : List ℕ) → nat_lt (position_or_len p xs) (length xs) ≡ list_any p xs
any_place p [] = refl
any_place p (x ∷ xs) = place_step (p x) (position_or_len p xs) (length xs) (list_any p xs) (any_place p xs)

swapped : (b : ℕ) → (b == 62) ≡ false → (62 == b) ≡ false
swapped b h = ne_eqb 62 b (λ e. let wrong : true ≡ false = ap (λ n. n == 62) e ∙ h in cc)

-- no byte is a `>`
abbrev IsWithout : List ℕ → Type 0
IsWithout xs = list_any is_greater_than xs ≡ false

later : (x : ℕ) (xs : List ℕ) → IsWithout (x ∷ xs) → IsWithout xs
later x xs h = (or_parts (is_greater_than x) (list_any is_greater_than xs) h).1

without_drop : (n : ℕ) (xs : List ℕ) → IsWithout xs → IsWithout (drop n xs)
without_drop zero xs h = h
without_drop (suc n) [] h = refl
without_drop (suc n) (x ∷ xs) h = without_drop n xs (later x xs h)

nowhere : (test : List ℕ → Bool) → ((xs : List ℕ) → IsWithout xs → test xs ≡ false) → (xs : List ℕ) → IsWithout xs → somewhere test xs ≡ false
nowhere test none [] h = refl
nowhere test none (x ∷ xs) h = or_from (test (x ∷ xs)) _ (none (x ∷ xs) h) (nowhere test none xs (later x xs h))

no_ending : (ts xs : List ℕ) → IsWithout xs → begins_with (ts ++ 62 ∷ []) xs ≡ false
no_ending [] [] h = refl
no_ending [] (x ∷ xs) h = and_left (62 == x) _ (swapped x (or_parts (is_greater_than x) _ h).0)
no_ending (t ∷ ts) [] h = refl
no_ending (t ∷ ts) (x ∷ xs) h = and_right (t == x) _ (no_ending ts xs (later x xs h))

raw_end : (xs : List ℕ) → IsWithout xs → begins_with_raw_end xs ≡ false
raw_end xs h =
    and_right (begins_with (codes "</") xs) _
    (and_right (is_raw_name (element_name (drop 2 xs))) _
    (no_ending [] (after_element_name (drop 2 xs)) (without_drop _ (drop 2 xs) (without_drop 2 xs h))))

pub no_end : (kind : HtmlKind) (xs : List ℕ) → IsWithout xs → html_ends (number_of kind) xs ≡ false
no_end Raw xs h = nowhere begins_with_raw_end raw_end xs h
no_end Comment xs h = nowhere (begins_with (codes "-->")) (no_ending (codes "--")) xs h
no_end Instruction xs h = nowhere (begins_with (codes "?>")) (no_ending (codes "?")) xs h
no_end Declaration xs h = nowhere (begins_with (codes ">")) (no_ending []) xs h
no_end CharacterData xs h = nowhere (begins_with (codes "]]>")) (no_ending (codes "]]")) xs h
no_end Basic xs h = refl
no_end Complete xs h = refl
