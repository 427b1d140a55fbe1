-- Bytes as a text: all of them, or no text if they aren't UTF-8.
use Rattle.std.proofs.Common.{◌≡◌, ℕ, Bool, true, false, if◌then◌else◌, List, [], refl, ap}
use Rattle.compile_strings.proofs.Prelude.{is_utf8, is_utf8-from_IsUtf8, IsUtf8, IsUtf8-from_is_utf8, valid, valid_is}

pub valid_text : (piece : List ℕ) → IsUtf8 piece → valid piece ≡ piece
valid_text piece u = valid_is piece (is_utf8-from_IsUtf8 piece u)

none_by : (piece : List ℕ) (b : Bool) → is_utf8 piece ≡ b → (IsUtf8 piece → ⊥) → valid piece ≡ []
none_by piece true h absent = absurd (absent (IsUtf8-from_is_utf8 piece h))
none_by piece false h absent = ap (λ (t : Bool). if t then piece else []) h

pub no_text : (piece : List ℕ) → (IsUtf8 piece → ⊥) → valid piece ≡ []
no_text piece absent = none_by piece (is_utf8 piece) refl absent
