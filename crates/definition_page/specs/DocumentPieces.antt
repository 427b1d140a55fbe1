-- What a page prints, and by which ending lines end that it adds.
use Rattle.std.specs.Prelude.{ℕ, List, unwrap_or}
use Rattle.markdown_compile_options.specs.declared.configuration.Options.{Options}
use Rattle.markdown_options.specs.LineEndings.{ending_bytes}
use Rattle.definition_text.specs.Lines.{first_line}
use Rattle.definition_inline.specs.Targets.{linked_by}
use Rattle.definition_page.specs.TextTables.{TextTables}
use Rattle.definition_page.specs.Page.{Page}
use Rattle.definition_page.specs.Pieces.{Piece}
use Rattle.definition_page.specs.InlinePieces.{Meaning}
use Rattle.definition_page.specs.BlockPieces.{document_pieces}

-- links lead where the first definition of their label does (CommonMark 4.7), and so do calls of footnotes
abbrev pub meaning_of : TextTables → Options → Page → Meaning
meaning_of tables options page =
    record {
      on = options.parse.constructs;
      compile = options.compile;
      names = tables.names;
      definition = linked_by page.definitions;
      footnotes = page.footnotes;
    }

abbrev pub pieces : TextTables → Options → Page → List Piece
pieces tables options page = document_pieces (meaning_of tables options page) page

-- the text's first line ending, or the one of the options
abbrev pub default_ending : Options → List ℕ → List ℕ
default_ending options text = ending_bytes (unwrap_or (first_line text).ending options.compile.default_line_ending)
