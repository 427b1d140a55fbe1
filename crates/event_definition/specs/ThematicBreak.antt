-- Thematic breaks (CommonMark 4.1).
use Rattle.std.specs.Prelude.{if◌then◌else◌}
use Rattle.definition_text.specs.Columns.{Code, bytes_of, is_white}
use Rattle.engine_events.specs.declared.event.Name.{Name}
use Rattle.engine_events.specs.declared.event.Name.TheVariants as n
use Rattle.event_definition.specs.Pieces.{around, grouped}
use Rattle.event_definition.specs.Written.{Left, Written, and_then, line_written, rest_of, white}

-- markers and the white space among them
abbrev pub break_name : Code → Name
break_name c = if is_white c then n.SpaceOrTab else n.ThematicBreakSequence

abbrev pub break_written : Left → Written
break_written left = and_then (white left) (λ l. line_written (around n.ThematicBreak (grouped break_name (bytes_of (rest_of l)))) l)
