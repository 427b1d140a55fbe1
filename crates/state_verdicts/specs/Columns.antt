-- The virtual text beside the columns of a line (CommonMark 2.2).
use Rattle.std.specs.Prelude.{◌≡◌, ℕ, false, List, [], ◌∷◌, None, Some}
use Rattle.definition_text.specs.Columns.{bytes_of}
use Rattle.engine_events.specs.declared.place.Point.{Point}
use Rattle.markdown_engine.specs.VirtualText.{Text, as_byte}
use Rattle.state_verdicts.specs.Codes.{Sees, text_byte}
use Rattle.state_verdicts.specs.BlockVerdicts.{InLine}

-- from a place on the text gives the bytes of these codes, of which each is a column as in a rest of a line, and ends
pub data SeesColumns (text : Text) : Point → List ℕ → Type 0 where
  ended : {p : Point} → text.byte (text.start p) ≡ None → SeesColumns text p []
  along : {p q : Point} {c : ℕ} {cs : List ℕ} → text.byte (text.start p) ≡ Some (as_byte (text_byte c) q) → SeesColumns text q cs → SeesColumns text p (c ∷ cs)

-- whatever codes are seen, there are columns of the same bytes that are seen
abbrev pub ColumnsLaw : Type 0
ColumnsLaw = (text : Text) (p : Point) (codes : List ℕ) → Sees text p codes
    → (columns : List ℕ) × SeesColumns text p columns × (bytes_of columns ≡ bytes_of codes)

-- this holds at each place from which these columns are seen, where no string is read in parts
abbrev pub AtColumns : (T : Type 0) → (InLine T → Type 0) → Type 0
AtColumns T says = (here : InLine T) → SeesColumns here.text here.place here.codes → here.config.tokenize_state.connect ≡ false → says here
