-- The HTML of a list of events is a safe page.
use Rattle.std.specs.Prelude.{◌≡◌, ℕ, false, List}
use Rattle.markdown_compile_options.specs.RawHtml.{keeps_listed_html}
use Rattle.markdown_compile_options.specs.declared.configuration.CompileOptions.{CompileOptions}
use Rattle.definition_inline.specs.CharacterReference.{Names}
use Rattle.engine_events.specs.declared.event.Event.{Event}
use Rattle.event_check.specs.Matches.{MatchesGrammar}
use Rattle.event_meaning.specs.Spelled.{html_of_events}
use Rattle.html_safe_page.specs.declared.table.TagTable.TheVariants.{Extended}
use Rattle.html_listed.specs.Laws.{HasOneListedReading}
use Rattle.laws_safe_page.specs.SafeHtml.{AreSafe, table_of, HasOneReadingBy}

-- under safe options that keep no raw HTML the HTML of every list of events in the grammar, whoever made it, is a safe page by the table of the options, with
-- one reading as one
abbrev pub SafeEventsLaw : Type 0
SafeEventsLaw =
    (names : Names) (options : CompileOptions) (bytes : List ℕ) (events : List Event) → AreSafe options → keeps_listed_html options ≡ false
    → MatchesGrammar names bytes events → HasOneReadingBy (table_of options) (html_of_events names options bytes events)

-- and by the extended table whatever the other options are
abbrev pub ExtendedEventsLaw : Type 0
ExtendedEventsLaw =
    (names : Names) (options : CompileOptions) (bytes : List ℕ) (events : List Event) → AreSafe options → keeps_listed_html options ≡ false
    → MatchesGrammar names bytes events → HasOneReadingBy Extended (html_of_events names options bytes events)

-- whether raw HTML is kept by the list or not, it is a safe page that may have tags of the list, with one reading as one
abbrev pub ListedEventsLaw : Type 0
ListedEventsLaw =
    (names : Names) (options : CompileOptions) (bytes : List ℕ) (events : List Event) → AreSafe options → MatchesGrammar names bytes events
    → HasOneListedReading (table_of options) (html_of_events names options bytes events)
