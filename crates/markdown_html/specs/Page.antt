-- The page of a text by way of its events.
use Rattle.std.specs.Prelude.{◌≡◌, ℕ, List, Option}
use Rattle.engine_events.specs.declared.event.Event.{Event}
use Rattle.markdown_compile_options.specs.declared.configuration.CompileOptions.{CompileOptions}
use Rattle.event_check.specs.Matches.{MatchesGrammar}
use Rattle.event_meaning.specs.Spelled.{html_of_events}
use Rattle.parse_output.specs.Placed.{ArePlaced}

-- the HTML of events that are placed in the text from its start to its end, and are in the grammar
pub record IsPageOfEvents (names : List ℕ → Option (List ℕ)) (options : CompileOptions) (text html : List ℕ) : Type 0 where
  pub events : List Event
  pub placed : ArePlaced text events
  pub matches : MatchesGrammar names text events
  pub same : html ≡ html_of_events names options text events
