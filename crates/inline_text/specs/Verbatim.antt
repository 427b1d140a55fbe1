-- Text that is printed as it is.
use Rattle.std.specs.Prelude.{◌≡◌, ◌<◌, ◌==◌, ◌&&◌, ℕ, Bool, true, false, List, [], ◌∷◌, slice_index}
use Rattle.definition_text.specs.Ascii.{at_sign}
use Rattle.definition_text.specs.Encode.{encoded_byte}
use Rattle.inline_text.specs.declared.plain.Front.{Front}

-- each of so many bytes at the front is printed as it is and, where literals are on, is no `@`
pub record AreVerbatim (has_literals : Bool) (bytes : List ℕ) (n : ℕ) : Type 0 where
  pub same : (k : ℕ) → k < n → encoded_byte (slice_index bytes k) ≡ slice_index bytes k ∷ []
  pub bare : (k : ℕ) → k < n → (has_literals && (slice_index bytes k == at_sign)) ≡ false

-- the bytes of a front are, if it says so
abbrev pub TellsVerbatim : Bool → List ℕ → Front → Type 0
TellsVerbatim has_literals bytes front = front.is_verbatim ≡ true → AreVerbatim has_literals bytes front.size
