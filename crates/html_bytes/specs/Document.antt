-- What a document gives to its texts, and what they print.
use Rattle.std.specs.Prelude.{ℕ, Bool, List}
use Rattle.markdown_compile_options.specs.declared.configuration.Options.{Options}
use Rattle.definition_text.specs.BlockLines.{BlockLine}
use Rattle.definition_inline.specs.Inline.{Inlines}
use Rattle.definition_inline.specs.Strings.{string_text}
use Rattle.definition_inline.specs.Targets.{Targets, linked_by}
use Rattle.definition_block.specs.GfmTable.{Cell}
use Rattle.definition_page.specs.TextTables.{TextTables}
use Rattle.definition_page.specs.InlinePieces.{Meaning, inline_counts, inline_pieces}
use Rattle.definition_page.specs.Read.{Reading, reading, read_text, read_paragraph, read_cell}
use Rattle.html_bytes.specs.Pieces.{Piece, in_bytes}

-- the options, the tables, and what labels lead to
pub record Document : Type 0 where
  pub options : Options
  pub tables : TextTables
  pub targets : Targets

abbrev pub document : Options → TextTables → Targets → Document
document options tables targets = record { options = options; tables = tables; targets = targets }

-- what its texts are read by
abbrev pub reading_of : Document → Reading
reading_of d = reading d.tables d.options.parse d.targets

-- and what they are printed by
abbrev pub document_meaning : Document → Meaning
document_meaning d =
    record {
      on = d.options.parse.constructs;
      compile = d.options.compile;
      names = d.tables.names;
      definition = linked_by d.targets.definitions;
      footnotes = d.targets.footnotes;
    }

-- what inline structure prints
abbrev pub structure_pieces : Document → Inlines → List Piece
structure_pieces d is = in_bytes (inline_pieces (document_meaning d) is)

-- the text of a heading, which ends where a line does (CommonMark 4.2 and 4.3)
abbrev pub text_of : Document → List BlockLine → List Piece
text_of d ls = structure_pieces d (read_text (reading_of d) ls)

-- the text of a paragraph, which may be the first block of an item (CommonMark 4.8 and GFM 5.3)
abbrev pub paragraph_of : Document → Bool → List BlockLine → List Piece
paragraph_of d first ls = structure_pieces d (read_paragraph (reading_of d) first ls)

-- the text of a cell of a table (GFM 4.10)
abbrev pub cell_of : Document → Cell → List Piece
cell_of d c = structure_pieces d (read_cell (reading_of d) c)

-- the calls in a cell that isn't printed: they count
abbrev pub cell_counts : Document → Cell → List Piece
cell_counts d c = in_bytes (inline_counts (document_meaning d) (read_cell (reading_of d) c))

-- the text of an info string (CommonMark 4.5)
abbrev pub info_of : Document → List ℕ → List ℕ
info_of d info = string_text d.options.parse.constructs d.tables.names info
