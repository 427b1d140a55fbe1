use Rattle.std.proofs.Common.{◌≡◌, ◌++◌, drop}
use Rattle.state_parser.specs.Labels.{label_bytes}
use Rattle.state_parser.proofs.labels.label_bytes.Given as goal

-- the bytes of the events that are left follow
abbrev pub invariant-loop-index : goal.invariant-loop-index
invariant-loop-index g l = l.text.items ++ label_bytes l.bytes l.name (drop l.index l.events) ≡ label_bytes l.bytes l.name l.events
