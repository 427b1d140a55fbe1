-- What headings print.
use Rattle.std.specs.Prelude.{ℕ, List, ◌∷◌}
use Rattle.definition_text.specs.BlockLines.{BlockLine}
use Rattle.definition_page.specs.BlockPieces.{heading_start}
use Rattle.definition_page.specs.InlinePieces.{inline_pieces}
use Rattle.definition_page.specs.Read.{read_text}
use Rattle.html_bytes.specs.Document.{Document, reading_of, document_meaning}
use Rattle.html_bytes.specs.Pieces.{Piece, in_bytes}

-- the start tag of a heading, and its text
abbrev pub heading_bytes : Document → ℕ → List BlockLine → List Piece
heading_bytes d rank ls =
    let is = read_text (reading_of d) ls in in_bytes (heading_start (document_meaning d) rank is ∷ inline_pieces (document_meaning d) is)
