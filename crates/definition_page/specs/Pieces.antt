-- What is printed, piece by piece.
use Rattle.std.specs.Prelude.{ℕ, Bool, true, if◌then◌else◌, ◌==◌, ◌||◌, List, ◌++◌, Option, None, Some, slice_get, length, ◌-◌}
use Rattle.definition_text.specs.Ascii.{line_feed, carriage_return}
use Rattle.definition_page.specs.Tags.{PrintedPart, said_bytes, Tag, start_tag, end_tag, void_tag}

-- a start tag, an end tag by its name, the tag of an element that holds nothing, a part of a text or of raw HTML, the default ending, or that ending unless
-- nothing, CR or LF stands before; the start tag of a heading that gets an id, with what the heading says; and what footnotes need: a call, and one that isn't printed but counts, each with the place of its footnote, in the order in
-- which these end, and with its label as labels are matched; the start and the end of a footnote definition
pub data Piece : Type 0 where
  Open : Tag → Piece
  Close : List ℕ → Piece
  Void : Tag → Piece
  Says : PrintedPart → Piece
  Eol : Piece
  Fresh : Piece
  Named : Tag → List ℕ → Piece
  CallOf : ℕ → List ℕ → Piece
  CountOf : ℕ → List ℕ → Piece
  NoteStart : Piece
  NoteEnd : Piece

-- whether this last byte is none, CR or LF
abbrev pub ends_a_line : Option ℕ → Bool
ends_a_line None = true
ends_a_line (Some b) = (b == line_feed) || (b == carriage_return)

-- whether nothing, CR or LF stands at the end
abbrev pub is_fresh : List ℕ → Bool
is_fresh out = ends_a_line (slice_get out (length out - 1))

-- one more piece after what was printed, where the default ending is given; what footnotes need is laid out with the page
abbrev pub print : List ℕ → List ℕ → Piece → List ℕ
print default out (Open t) = out ++ start_tag t
print default out (Close name) = out ++ end_tag name
print default out (Void t) = out ++ void_tag t
print default out (Says said) = out ++ said_bytes said
print default out Eol = out ++ default
print default out Fresh = if is_fresh out then out else out ++ default
print default out (Named t text) = out ++ start_tag t
print default out piece = out
