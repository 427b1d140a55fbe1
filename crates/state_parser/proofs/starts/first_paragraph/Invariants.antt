use Rattle.std.proofs.Common.{◌≡◌, drop}
use Rattle.state_parser.specs.Starts.{first_paragraph}
use Rattle.state_parser.proofs.starts.first_paragraph.Given as goal

-- it is among the events that are left
abbrev pub invariant-loop-event : goal.invariant-loop-event
invariant-loop-event l = first_paragraph (drop l.event-index l.events) ≡ first_paragraph l.events
