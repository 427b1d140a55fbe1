-- The page of a text as it is printed: it is read to a page, the page is printed to pieces, and these are laid out, with its footnotes at the end. Raw HTML that
-- is kept by the list stands in it as text in elements without a name.
use Rattle.std.specs.Prelude.{ℕ, List}
use Rattle.markdown_compile_options.specs.declared.configuration.Options.{Options}
use Rattle.definition_text.specs.Lines.{without_mark}
use Rattle.definition_page.specs.TextTables.{TextTables}
use Rattle.definition_page.specs.Read.{read}
use Rattle.definition_page.specs.DocumentPieces.{pieces, default_ending}
use Rattle.definition_page.specs.Layout.{page_layout}

abbrev pub printed_page : TextTables → List ℕ → Options → List ℕ
printed_page tables text options =
    let page = read tables options.parse text in
    page_layout options.compile (default_ending options (without_mark text)) (pieces tables options page)
