-- Bytes that are printed as they are.
use Rattle.std.proofs.Common.{◌≡◌, ℕ, zero, suc, ◌<◌, List, [], ◌∷◌, ◌++◌, Bool, true, false, ◌||◌, ◌&&◌, ◌==◌, refl, sym, ap, ap₂, ◌∙◌, take, get_or, arith}
use Rattle.std.specs.List.{list_any}
use Rattle.std.proofs.lemmas.Bool.{cond-false, or_from, or_parts}
use Rattle.definition_text.specs.Content.{is_eol}
use Rattle.definition_text.specs.Encode.{encode, encoded_byte}
use Rattle.inline_text.specs.Plain.{is_replaced, is_special, starts, stops}
use Rattle.inline_text.specs.Verbatim.{AreVerbatim}

-- a byte at which nothing stops
pub verbatim_byte : (b : ℕ) → stops b ≡ false → encoded_byte b ≡ b ∷ []
verbatim_byte b h =
    let parts = or_parts (starts b) (is_replaced b) h in
    let nul = or_parts (b == 0) ((b == 34) || (b == 62)) parts.1 in
    let quote = or_parts (b == 34) (b == 62) nul.1 in
    let special = (or_parts (is_special b) (is_eol b) parts.0).0 in
    let ampersand = or_parts (b == 38) _ (or_parts (b == 92) _ special).1 in
    let less = or_parts (b == 60) _ (or_parts (b == 36) _ (or_parts (b == 96) _ ampersand.1).1).1 in
    cond-false (b == 0) _ _ nul.0 ∙ cond-false (b == 34) _ _ quote.0 ∙ cond-false (b == 38) _ _ ampersand.0
    ∙ cond-false (b == 60) _ _ less.0 ∙ cond-false (b == 62) _ _ quote.1

front_as_is : (bytes : List ℕ) (n : ℕ) → ((k : ℕ) → k < n → encoded_byte (get_or bytes k 0) ≡ get_or bytes k 0 ∷ []) → encode (take n bytes) ≡ take n bytes
front_as_is bytes zero are = refl
front_as_is [] (suc n) are = refl
front_as_is (b ∷ bs) (suc n) are =
    ap₂ (λ (x y : List ℕ). x ++ y) (are 0 (omega arith)) (front_as_is bs n (λ k lt. are (suc k) (omega (arith, lt))))

front_without : (bytes : List ℕ) (n : ℕ) → ((k : ℕ) → k < n → (get_or bytes k 0 == 64) ≡ false) → list_any (λ b. b == 64) (take n bytes) ≡ false
front_without bytes zero are = refl
front_without [] (suc n) are = refl
front_without (b ∷ bs) (suc n) are =
    or_from (b == 64) (list_any (λ c. c == 64) (take n bs)) (are 0 (omega arith)) (front_without bs n (λ k lt. are (suc k) (omega (arith, lt))))

-- bytes at the front are printed as they are
pub front_same : (literals : Bool) (bytes : List ℕ) (n : ℕ) → AreVerbatim literals bytes n → encode (take n bytes) ≡ take n bytes
front_same literals bytes n are = front_as_is bytes n are.same

-- and have no `@` where literals are on
pub front_bare : (literals : Bool) (bytes : List ℕ) (n : ℕ) → AreVerbatim literals bytes n → literals ≡ true
    → list_any (λ b. b == 64) (take n bytes) ≡ false
front_bare literals bytes n are on = front_without bytes n (λ k lt. ap (λ x. x && (get_or bytes k 0 == 64)) (sym on) ∙ are.bare k lt)
