-- The HTML of events that spell the page of a text is the HTML of the text.
use Rattle.std.proofs.Common.{◌≡◌, ℕ, List}
use Rattle.markdown_compile_options.specs.declared.configuration.Options.{Options}
use Rattle.markdown_definition.specs.Html.{html}
use Rattle.definition_page.specs.TextTables.{TextTables}
use Rattle.engine_events.specs.declared.event.Event.{Event}
use Rattle.event_meaning.specs.Spelled.{html_of_events, spelled}
use Rattle.parse_alike.specs.Spelled.{IsPageOfText}
use Rattle.parse_alike.proofs.Spelled.{pages_of_texts_print_their_html}

module _ (tables : TextTables) (options : Options) (text : List ℕ) (events : List Event) where
  pub same_page : IsPageOfText tables options.parse text (spelled tables.names events text)
      → html_of_events tables.names options.compile text events ≡ html tables text options
  same_page of_text = pages_of_texts_print_their_html.same tables options text (spelled tables.names events text) of_text
