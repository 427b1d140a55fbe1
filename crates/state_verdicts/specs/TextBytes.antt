-- Letters and digits of the virtual text beside the bytes that it is read from.
use Rattle.std.specs.Prelude.{◌≡◌, ℕ, ◌+◌, ◌<◌, true, List, Some, slice_index}
use Rattle.std.specs.Char.{is_ascii_alphanumeric}
use Rattle.engine_events.specs.declared.place.Point.{Point}
use Rattle.markdown_engine.specs.VirtualText.{Source, Text, as_byte, text_to}

-- a byte stands at a place, reading goes on at the index after it, and within a line nothing is skipped there
pub record StandsAt (bytes : List ℕ) (text : Text) (p q : Point) (b : ℕ) : Type 0 where
  pub byte : slice_index bytes p.index ≡ b
  pub index : q.index ≡ p.index + 1
  pub column : 0 < q.column
  pub on : 0 < p.column → text.start q ≡ q

-- the letters and digits of a text stand in these bytes
abbrev pub Shows : List ℕ → Text → Type 0
Shows bytes text = (p q : Point) (b : ℕ) → text.byte (text.start p) ≡ Some (as_byte b q) → is_ascii_alphanumeric b ≡ true
    → StandsAt bytes text (text.start p) q b

-- those of a virtual text stand in the bytes that it is read from, wherever it begins its lines and ends
abbrev pub TextBytesLaw : Type 0
TextBytesLaw = (s : Source) (to : ℕ × ℕ) → Shows s.bytes (text_to s to)
