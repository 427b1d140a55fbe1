-- The ends of lines of the virtual text beside the bytes that it is read from.
use Rattle.std.specs.Prelude.{◌≡◌, ℕ, Bool, true, not, ◌==◌, nat_lt, if◌then◌else◌, List, [], drop, length, slice_get, Some}
use Rattle.definition_text.specs.Ascii.{line_feed}
use Rattle.definition_text.specs.Columns.{indent}
use Rattle.engine_events.specs.declared.place.Point.{Point}
use Rattle.engine_programs.specs.Bodies.{has}
use Rattle.markdown_engine.specs.Reading.{byte_of}
use Rattle.markdown_engine.specs.VirtualText.{Text, as_byte}
use Rattle.state_flow_leaves.specs.RawFlow.{ends_here}
use Rattle.state_table.specs.Words.{is_space_or_tab}
use Rattle.state_verdicts.specs.Stretch.{Stretch}
use Rattle.state_verdicts.specs.TextCodes.{AreBytes, whole_text}

-- the bytes from an index on
abbrev pub bytes_from : List ℕ → ℕ → List ℕ
bytes_from bytes index = if nat_lt (length bytes) index then [] else drop index bytes

-- nothing but spaces and tabs is left of the line there
abbrev pub is_blank_from : List ℕ → ℕ → Bool
is_blank_from bytes index = ends_here (slice_get (bytes_from bytes index) (indent (bytes_from bytes index)))

-- after spaces and tabs the line ends in the text exactly if it does so in these bytes
abbrev pub ShowsBlank : List ℕ → Text → Type 0
ShowsBlank bytes text = (n b : ℕ) (p q end : Point) → text.byte (text.start p) ≡ Some (as_byte b q) → is_space_or_tab b ≡ true
    → Stretch text is_space_or_tab n q end
    → is_blank_from bytes (text.start p).index ≡ not (has (λ c. not (c == line_feed)) (byte_of (text.byte (text.start end))))

-- so it does in the whole text of bytes
abbrev pub TextBlankLaw : Type 0
TextBlankLaw = (bytes : List ℕ) → AreBytes bytes → ShowsBlank bytes (whole_text bytes)
