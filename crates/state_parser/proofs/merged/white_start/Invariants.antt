use Rattle.std.proofs.Common.{◌≡◌, length}
use Rattle.state_parser.specs.Merged.{white_from}
use Rattle.state_parser.proofs.merged.white_start.Given as goal

-- white space before what was passed goes on
abbrev pub invariant-loop-start : goal.invariant-loop-start
invariant-loop-start l = white_from l.events l.start ≡ white_from l.events (length l.events)

abbrev pub decreases-loop-start : goal.decreases-loop-start
decreases-loop-start l = l.start
