use Rattle.std.proofs.Common.{◌≡◌, drop}
use Rattle.std.specs.List.{fold}
use Rattle.state_parser.specs.LastLines.{content_lines, with_event}
use Rattle.state_parser.proofs.containers.content_lines.Given as goal

-- the lines of the events that are left follow
abbrev pub invariant-loop-event : goal.invariant-loop-event
invariant-loop-event g l = fold with_event l.lines.items (drop l.event-index l.flow) ≡ content_lines l.flow
