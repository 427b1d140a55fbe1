use Rattle.std.proofs.Common.{◌≡◌, ◌-◌}
use Rattle.std.specs.List.{fold}
use Rattle.state_parser.specs.Merge.{flow_part}
use Rattle.state_parser.specs.Merged.{merged_seen, pushed}
use Rattle.state_parser.proofs.merge.push_part.Given as goal

-- the events that are left lead on from here as all do from the start
abbrev pub invariant-loop-index : goal.invariant-loop-index
invariant-loop-index g l =
    fold pushed (merged_seen l.merged) (flow_part l.flow (l.to - l.index) l.index)
    ≡ fold pushed (merged_seen l.fn.merged) (flow_part l.flow (l.to - l.from) l.from)
