-- Runs within code and math that are of another size than the first: they are text (CommonMark 6.1).
--
--     code ::= sequence *(data | line_ending) sequence
--     math ::= sequence *(data | line_ending) sequence
--
-- States enter each run of the marker as a sequence. Of these the first follows the start of the span at once, and the end of the span follows the last at
-- once; all others are data.
use Rattle.std.specs.Prelude.{ℕ, zero, suc, ◌+◌, ◌-◌, Bool, false, not, ◌&&◌, if◌then◌else◌, List, [], slice_get}
use Rattle.engine_events.specs.declared.event.Event.{Event}
use Rattle.engine_events.specs.declared.event.Kind.TheVariants.{Enter, Exit}
use Rattle.engine_events.specs.declared.event.Name.{Name}
use Rattle.engine_events.specs.declared.event.Name.TheVariants as names
use Rattle.engine_edits.specs.Edits.{EditAt, with_edit}
use Rattle.state_edits_data.specs.Each.{around, is_bound, place_at}

module _ (events : List Event) where
  -- at an index stands a sequence that is neither the first nor the last of the span
  abbrev pub is_inner : Name → Name → ℕ → Bool
  is_inner span sequence i =
      (is_bound Enter sequence (slice_get events i) && is_bound Exit sequence (slice_get events (i + 1)))
      && (not (is_bound Enter span (slice_get events (i - 1))) && not (is_bound Exit span (slice_get events (i + 2))))

  abbrev pub inner_edit : Name → Name → Name → ℕ → List EditAt → List EditAt
  inner_edit span sequence content i edits =
      if is_inner span sequence i then with_edit false i 2 (around content (place_at events i) (place_at events (i + 1))) edits else edits

  -- what an index adds to the edits
  abbrev pub span_edit : ℕ → List EditAt → List EditAt
  span_edit i edits =
      inner_edit names.MathText names.MathTextSequence names.MathTextData i
      (inner_edit names.CodeText names.CodeTextSequence names.CodeTextData i edits)

  -- the edits that name runs within spans, up to an index
  unfoldable pub span_edits : ℕ → List EditAt
  span_edits zero = []
  span_edits (suc i) = span_edit i (span_edits i)
