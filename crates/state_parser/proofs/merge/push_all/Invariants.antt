use Rattle.std.proofs.Common.{◌≡◌, ◌-◌, length}
use Rattle.std.specs.List.{fold}
use Rattle.state_parser.specs.Merge.{steps}
use Rattle.state_parser.specs.Merged.{merged_seen, pushed}
use Rattle.state_parser.proofs.merge.push_all.Given as goal

-- the events that are left lead on from here as all do from the start
abbrev pub invariant-loop-at : goal.invariant-loop-at
invariant-loop-at g l =
    let all = steps l.sources.document.now l.sources.flow.now l.sources.spans.now l.last in
    let size = length l.sources.document.now in
    fold pushed (merged_seen l.merged) (all (size - l.at) l.at l.span l.flow) ≡ fold pushed (merged_seen l.fn.merged) (all size 0 0 0)
