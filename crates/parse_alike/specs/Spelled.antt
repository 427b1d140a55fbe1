-- A page that events spell, and the page that is read from their text.
use Rattle.std.specs.Prelude.{◌≡◌, ◌⊎◌, ℕ, List}
use Rattle.markdown_compile_options.specs.Defaults.{default_compile_options}
use Rattle.markdown_compile_options.specs.declared.configuration.Options.{Options}
use Rattle.markdown_options.specs.declared.configuration.ParseOptions.{ParseOptions}
use Rattle.definition_page.specs.DocumentPieces as document
use Rattle.markdown_definition.specs.Html.{html}
use Rattle.definition_page.specs.InlinePieces.{Meaning}
use Rattle.definition_page.specs.Page.{Page}
use Rattle.definition_page.specs.PrintedPage.{printed_page}
use Rattle.definition_page.specs.Read.{read}
use Rattle.definition_page.specs.TextTables.{TextTables}
use Rattle.event_meaning.specs.Spelled as events
use Rattle.parse_alike.specs.Page.{AreBlocksAlike, AreAlikeAfterFront}
use Rattle.parse_alike.specs.Targets.{AreDefinitionsAlike}

module _ (tables : TextTables) (options : ParseOptions) (text : List ℕ) where
  abbrev pub page_read : Page
  page_read = read tables options text

  -- What the strings of the two pages are read by. The options of printing are any: a text isn't read by them, and pages are alike by all or by none.
  abbrev pub meaning_read : Meaning
  meaning_read = document.meaning_of tables (record { parse = options; compile = default_compile_options }) page_read

  abbrev pub meaning_spelled : Page → Meaning
  meaning_spelled spelled = events.meaning_of tables.names default_compile_options spelled

  -- A page that events spell is alike to the page of the text: in blocks and definitions, and in whether it ends with a blank line. Its footnotes are those of
  -- its blocks, as they are of each page that events spell.
  pub record IsPageOfText (spelled : Page) : Type 0 where
    pub blocks : AreBlocksAlike meaning_read (meaning_spelled spelled) page_read.blocks spelled.blocks
        ⊎ AreAlikeAfterFront meaning_read (meaning_spelled spelled) page_read.blocks spelled.blocks
    pub definitions : AreDefinitionsAlike meaning_read (meaning_spelled spelled) page_read.definitions spelled.definitions
    pub footnotes : spelled.footnotes ≡ events.footnotes spelled.blocks
    pub ends_blank : page_read.ends_blank ≡ spelled.ends_blank

-- A page that is alike to that of a text is printed as the text is, and has the HTML of the text, by all options of printing.
pub record PagesOfTextsPrintTheirHtml : Type 0 where
  pub printed : (tables : TextTables) (options : Options) (text : List ℕ) (spelled : Page) → IsPageOfText tables options.parse text spelled
      → events.printed_page tables.names options.compile text spelled ≡ printed_page tables text options
  pub same : (tables : TextTables) (options : Options) (text : List ℕ) (spelled : Page) → IsPageOfText tables options.parse text spelled
      → events.page_html tables.names options.compile text spelled ≡ html tables text options
