use Rattle.std.proofs.Common.{◌≡◌, ◌+◌, drop}
use Rattle.std.specs.List.{prefix_len}
use Rattle.state_parser.specs.Merged.{stays_after}
use Rattle.state_parser.proofs.merged.kept_after.Given as goal

-- what was passed stays open
abbrev pub invariant-loop-index : goal.invariant-loop-index
invariant-loop-index l = l.index + prefix_len (stays_after l.line) (drop l.index l.opened) ≡ prefix_len (stays_after l.line) l.opened
