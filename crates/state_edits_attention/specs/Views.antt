-- What the code of runs holds, as its definition has it.
use Rattle.engine_edits.specs.Edits.{edits_of}
use Rattle.inline_runs.specs.View.{runs_view}
use Rattle.state_edits_attention.specs.declared.attention.Search.{Search}
use Rattle.state_edits_attention.specs.declared.attention.Writing.{Writing}
use Rattle.state_edits_attention.specs.Attention.{SearchState, RunEvents}

module _ {A : Type 0} where
  abbrev pub run_events_view : Writing A → RunEvents
  run_events_view w = record { events = w.events.items; point = w.point }

  abbrev pub search_view : Search A → SearchState
  search_view s = record { entries = s.entries.items; runs = runs_view s.runs.items; starts = s.starts.items; edits = edits_of s.edits }
