-- What is printed.
use Rattle.std.specs.Prelude.{ℕ, if◌then◌else◌, List, [], ◌++◌, map}
use Rattle.std.specs.List.{flat_map}
use Rattle.definition_page.specs.Tags.{Tag, said_bytes, start_tag, end_tag, void_tag}
use Rattle.definition_page.specs.Pieces as page
use Rattle.definition_page.specs.Pieces.{is_fresh}

-- bytes, the default ending, or that ending unless nothing, CR or LF stands before; the start tag of a heading that gets an id, with what the heading says;
-- and what footnotes need: a call, and one that isn't printed but counts, each with the place of its footnote, in the order in which these end, and with its
-- label as labels are matched; the start and the end of a footnote definition
pub data Piece : Type 0 where
  Bytes : List ℕ → Piece
  Eol : Piece
  Fresh : Piece
  Named : Tag → List ℕ → Piece
  CallOf : ℕ → List ℕ → Piece
  CountOf : ℕ → List ℕ → Piece
  NoteStart : Piece
  NoteEnd : Piece

-- one more piece after what was printed; ids of headings, and what footnotes need, are laid out with the page
abbrev pub print : List ℕ → List ℕ → Piece → List ℕ
print default out (Bytes bs) = out ++ bs
print default out Eol = out ++ default
print default out Fresh = if is_fresh out then out else out ++ default
print default out (Named t text) = out ++ start_tag t
print default out (CallOf place label) = out
print default out (CountOf place label) = out
print default out NoteStart = out
print default out NoteEnd = out

-- ---- pieces of the definition

-- a piece in bytes
abbrev pub piece_bytes : page.Piece → Piece
piece_bytes (page.Open t) = Bytes (start_tag t)
piece_bytes (page.Close name) = Bytes (end_tag name)
piece_bytes (page.Void t) = Bytes (void_tag t)
piece_bytes (page.Says said) = Bytes (said_bytes said)
piece_bytes page.Eol = Eol
piece_bytes page.Fresh = Fresh
piece_bytes (page.Named t text) = Named t text
piece_bytes (page.CallOf place label) = CallOf place label
piece_bytes (page.CountOf place label) = CountOf place label
piece_bytes page.NoteStart = NoteStart
piece_bytes page.NoteEnd = NoteEnd

-- pieces in bytes
abbrev pub in_bytes : List page.Piece → List Piece
in_bytes pieces = map piece_bytes pieces

-- what a piece prints wherever it stands: endings, calls and the start tags of headings that get an id aren't told
abbrev pub piece_html : page.Piece → List ℕ
piece_html (page.Open t) = start_tag t
piece_html (page.Close name) = end_tag name
piece_html (page.Void t) = void_tag t
piece_html (page.Says said) = said_bytes said
piece_html piece = []

abbrev pub pieces_html : List page.Piece → List ℕ
pieces_html pieces = flat_map piece_html pieces
