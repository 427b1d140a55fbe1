-- A page that is alike to that of a text prints the HTML of the text.
use Rattle.std.proofs.Common.{◌≡◌, ℕ, List, map, refl, sym, ap, ◌∙◌}
use Rattle.markdown_compile_options.specs.declared.configuration.Options.{Options}
use Rattle.parse_alike.proofs.Prelude.{AreFootnotesAlike, ArePagesAlike, Meaning, normal_label, Page, read, TextTables, without_mark}
use Rattle.definition_html.specs.Listed.{with_listed}
use Rattle.definition_page.specs.DocumentPieces as document
use Rattle.definition_page.specs.PrintedPage.{printed_page}
use Rattle.markdown_definition.specs.Html.{html}
use Rattle.event_meaning.specs.Spelled as events
use Rattle.parse_alike.specs.Spelled.{IsPageOfText, PagesOfTextsPrintTheirHtml}
use Rattle.parse_alike.proofs.Definition.{alike_definitions_mean_the_same}
use Rattle.parse_alike.proofs.GfmFootnoteDefinition.{footnotes_read, front_footnotes}
use Rattle.parse_alike.proofs.Page.{alike_pages_print_the_same}

module _ (tables : TextTables) (options : Options) (text : List ℕ) (spelled : Page) (of_text : IsPageOfText tables options.parse text spelled) where
  abbrev page : Page
  page = read tables options.parse text

  abbrev m : Meaning
  m = document.meaning_of tables options page

  abbrev m' : Meaning
  m' = events.meaning_of tables.names options.compile spelled

  footnotes_alike : AreFootnotesAlike page.footnotes spelled.footnotes
  footnotes_alike =
      ap (map normal_label) (sym (footnotes_read tables options.parse text))
      ∙ front_footnotes m m' page.blocks spelled.blocks of_text.blocks
      ∙ ap (map normal_label) (sym of_text.footnotes)

  pages_alike : ArePagesAlike m m' page spelled
  pages_alike =
      record {
        meanings =
            alike_definitions_mean_the_same.same m m' page.definitions spelled.definitions refl refl of_text.definitions footnotes_alike refl;
        blocks = of_text.blocks;
        ends_blank = of_text.ends_blank;
      }

  printed_same : events.printed_page tables.names options.compile text spelled ≡ printed_page tables text options
  printed_same =
      sym (alike_pages_print_the_same.same m m' page spelled pages_alike options.compile (document.default_ending options (without_mark text)))

  html_same : events.page_html tables.names options.compile text spelled ≡ html tables text options
  html_same = ap (with_listed tables.names options.compile) printed_same

pub pages_of_texts_print_their_html : PagesOfTextsPrintTheirHtml
pages_of_texts_print_their_html =
    record {
      printed = λ tables options text spelled of_text. printed_same tables options text spelled of_text;
      same = λ tables options text spelled of_text. html_same tables options text spelled of_text;
    }
