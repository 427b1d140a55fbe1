-- Lines of code and of HTML, as their printers write them to a text.
use Rattle.std.specs.Prelude.{ℕ, Bool, List, ◌++◌, map, false}
use Rattle.std.specs.List.{flat_map}
use Rattle.markdown_compile_options.specs.declared.configuration.CompileOptions.{CompileOptions}
use Rattle.definition_text.specs.BlockLines.{BlockLine}
use Rattle.definition_text.specs.Columns.{code_byte, bytes_of}
use Rattle.definition_text.specs.Encode.{encode}
use Rattle.definition_text.specs.Lines.{ending_text}
use Rattle.definition_page.specs.BlockPieces.{info_attributes, fenced_pieces}
use Rattle.definition_page.specs.Read.{code_lines, info_text}
use Rattle.definition_page.specs.Tags.{attribute_bytes}
use Rattle.html_bytes.specs.Document.{Document, reading_of}
use Rattle.html_bytes.specs.Pieces.{Piece, in_bytes}
use Rattle.html_bytes.specs.RawHtml.{raw_bytes}

-- lines of code with their endings
abbrev pub code_line_bytes : BlockLine → List ℕ
code_line_bytes line = encode (map code_byte line.codes) ++ ending_text line.ending

abbrev pub code_of : List BlockLine → List ℕ
code_of ls = flat_map code_line_bytes ls

-- lines of HTML with their endings; the columns that are left of a tab aren't printed
abbrev pub html_line_bytes : CompileOptions → BlockLine → List ℕ
html_line_bytes options line = raw_bytes false options (bytes_of line.codes) ++ ending_text line.ending

abbrev pub html_of : CompileOptions → List BlockLine → List ℕ
html_of options ls = flat_map (html_line_bytes options) ls

-- the class of fenced code with an info (CommonMark 4.5)
abbrev pub class_of : Document → List ℕ → List ℕ
class_of d info = flat_map attribute_bytes (info_attributes (info_text (reading_of d) info))

-- the definition's pieces of the lines of fenced code, at the top or in a container, closed or not (CommonMark 4.5)
abbrev pub fenced_bytes : Bool → Bool → List BlockLine → List Piece
fenced_bytes top closed ls = in_bytes (fenced_pieces (record { top = top; tight = false }) closed (code_lines top closed ls))
