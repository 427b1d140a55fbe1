-- What a call for events leaves in an array, status by status.
use Rattle.std.proofs.Common.{◌≡◌, ◌≤◌, ◌<◌, ◌++◌, ℕ, List, length, map, drop, refl, sym, subst, arith}
use Rattle.markdown_options.specs.declared.configuration.ParseOptions.{ParseOptions}
use Rattle.engine_events.specs.declared.event.Event.{Event}
use Rattle.event_check.specs.Matches.{MatchesGrammar}
use Rattle.event_meaning.specs.Spelled.{spelled}
use Rattle.event_tokens.specs.Bytes.{HaveTheirBytes}
use Rattle.event_tokens.specs.Shape.{HaveShape}
use Rattle.markdown_tables.specs.Builtin.{builtin_tables}
use Rattle.parse_alike.specs.Spelled.{IsPageOfText}
use Rattle.parse_grammar.specs.Constructs.{NothingIsOff}
use Rattle.parse_events.specs.Nested.{IsNested}
use Rattle.parse_events.specs.Parsed.{AreEventsOf}
use Rattle.parse_output.specs.Children.{HaveChildren}
use Rattle.parse_output.specs.Placed.{ArePlaced}
use Rattle.markdown_buffers.specs.declared.flat_event.FlatEvent.{FlatEvent}
use Rattle.markdown_buffers.specs.FlatEvents.{flat_event}
use Rattle.markdown_buffers.specs.Events.{HoldsEvents, OfEvents, StoresEvents}

-- what `parse` promises
pub are_events : (options : ParseOptions) (text : List ℕ) (events : List Event) → ArePlaced text events → IsNested events → HaveChildren events
    → HaveTheirBytes text events → HaveShape text events → MatchesGrammar builtin_tables.names text events
    → IsPageOfText builtin_tables options text (spelled builtin_tables.names events text) → NothingIsOff options.constructs events
    → AreEventsOf builtin_tables options text events
are_events options text events placed nested children tokens shape grammar page on =
    record { placed = placed; nested = nested; children = children; tokens = tokens; shape = shape; grammar = grammar; spelled = page; on = on }

-- nothing is stored
pub no_events : (Meant : ParseOptions → Type 0) (text : List ℕ) (old new : List FlatEvent) (count status : ℕ) → 1 < status → new ≡ old → count ≡ 0
    → StoresEvents Meant text old new count status
no_events Meant text old new count status more is none = record {
  ok = λ e. absurd (omega (arith, more, e));
  unchanged = λ _. is;
  stored = λ e. absurd (omega (arith, more, e));
  room = λ e. absurd (omega (arith, more, e));
  none = λ _. none;
}

of_events : (options : ParseOptions) (text : List ℕ) (events : List Event) (P : List Event → Type 0) → AreEventsOf builtin_tables options text events
    → P events → OfEvents (λ it. it ≡ options) text P
of_events options text events P are p = record { options = options; meant = refl; events = events; are = are; holds = p }

-- the events have no room
pub events_without_room : (options : ParseOptions) (text : List ℕ) (events : List Event) (old new : List FlatEvent) (count status : ℕ)
    → AreEventsOf builtin_tables options text events → status ≡ 1 → new ≡ old → count ≡ length events → length old < count
    → StoresEvents (λ it. it ≡ options) text old new count status
events_without_room options text events old new count status are one same has more = record {
  ok = λ e. absurd (omega (arith, one, e));
  unchanged = λ _. same;
  stored = λ _. of_events options text events (λ it. count ≡ length it) are has;
  room = λ _. ((λ e. absurd (omega (arith, one, e))), (λ le. absurd (omega (arith, more, le))));
  none = λ e. absurd (omega (arith, one, e));
}

-- the events are in the array
pub events_in_array : (options : ParseOptions) (text : List ℕ) (events : List Event) (old new : List FlatEvent) (count status : ℕ)
    → AreEventsOf builtin_tables options text events → status ≡ 0 → new ≡ map flat_event events ++ drop (length events) old
    → count ≡ length events → count ≤ length old → StoresEvents (λ it. it ≡ options) text old new count status
events_in_array options text events old new count status are ok holds has le = record {
  ok = λ _. of_events options text events (λ it. (count ≡ length it) × HoldsEvents it old new) are (has, holds);
  unchanged = λ h. absurd (h ok);
  stored = λ _. of_events options text events (λ it. count ≡ length it) are has;
  room = λ _. ((λ _. le), (λ _. ok));
  none = λ e. absurd (omega (arith, ok, e));
}

-- the options are what was meant
pub of_meant : (Meant : ParseOptions → Type 0) (options : ParseOptions) (text : List ℕ) (P : List Event → Type 0) → Meant options
    → OfEvents (λ it. it ≡ options) text P → OfEvents Meant text P
of_meant Meant options text P meant p =
    record { options = p.options; meant = subst Meant (sym p.meant) meant; events = p.events; are = p.are; holds = p.holds }

pub events_meant : (Meant : ParseOptions → Type 0) (options : ParseOptions) (text : List ℕ) (old new : List FlatEvent) (count status : ℕ)
    → Meant options → StoresEvents (λ it. it ≡ options) text old new count status → StoresEvents Meant text old new count status
events_meant Meant options text old new count status meant h = record {
  ok = λ e. of_meant Meant options text _ meant (h.ok e);
  unchanged = h.unchanged;
  stored = λ e. of_meant Meant options text _ meant (h.stored e);
  room = h.room;
  none = h.none;
}

-- the array, for each status that a text leads to
pub ruleset stored_events = (no_events, events_without_room, events_in_array)
