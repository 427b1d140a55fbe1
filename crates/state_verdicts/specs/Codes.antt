-- The virtual text beside the codes of a content.
use Rattle.std.specs.Prelude.{◌≡◌, ℕ, ◌+◌, ◌≤◌, Bool, false, if◌then◌else◌, ◌==◌, nat_lt, List, [], ◌∷◌, None, Some}
use Rattle.engine_events.specs.declared.place.Point.{Point}
use Rattle.markdown_engine.specs.VirtualText.{Text, as_byte}
use Rattle.definition_text.specs.Columns.{code_byte}
use Rattle.definition_text.specs.Content.{is_eol}

-- the byte by which a code is seen: any line ending is one line feed, and a column that is left of a tab is a space (CommonMark 2.1 and 2.2)
abbrev pub text_byte : ℕ → ℕ
text_byte code = if is_eol code then 10 else code_byte code

-- a code: a byte, 256 for a column that is left of a tab, or 257 for CR LF
abbrev pub is_code : ℕ → Bool
is_code code = nat_lt code 258

-- so many spaces lead from a place to another: the further columns of a tab (CommonMark 2.2)
pub data Fills (text : Text) : ℕ → Point → Point → Type 0 where
  full : {p : Point} → Fills text 0 p p
  column : {n : ℕ} {p q r : Point} → text.byte (text.start p) ≡ Some (as_byte 32 q) → Fills text n q r → Fills text (n + 1) p r

-- from a place on the text gives the bytes of these codes, and ends: of a code that isn't a tab its byte, of a tab itself and up to three spaces
pub data Sees (text : Text) : Point → List ℕ → Type 0 where
  nothing : {p : Point} → text.byte (text.start p) ≡ None → Sees text p []
  byte : {p q : Point} {c : ℕ} {cs : List ℕ} → (c == 9) ≡ false → text.byte (text.start p) ≡ Some (as_byte (text_byte c) q) → Sees text q cs
      → Sees text p (c ∷ cs)
  tab : {p q r : Point} {n : ℕ} {cs : List ℕ} → n ≤ 3 → text.byte (text.start p) ≡ Some (as_byte 9 q) → Fills text n q r → Sees text r cs → Sees text p (9 ∷ cs)
