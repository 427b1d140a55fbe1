use Rattle.std.proofs.Common.{◌≡◌, ◌++◌, drop, map, string_bytes}
use Rattle.state_parser.specs.Labels.{defined_labels}
use Rattle.state_parser.proofs.labels.defined_labels.Given as goal

-- the labels of the events that are left follow
abbrev pub invariant-loop-index : goal.invariant-loop-index
invariant-loop-index g l =
    map string_bytes l.labels.items ++ defined_labels l.bytes l.name (drop l.index l.events) ≡ defined_labels l.bytes l.name l.events
