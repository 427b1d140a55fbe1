use Rattle.std.proofs.Common.{◌≡◌, [], drop}
use Rattle.std.specs.List.{fold}
use Rattle.state_parser.specs.Starts.{marked, start_indices}
use Rattle.state_parser.proofs.starts.starts.Given as goal

-- the indices that are left lead on from here as all do from the start
abbrev pub invariant-loop-index : goal.invariant-loop-index
invariant-loop-index g l = fold marked l.marks.items (start_indices (drop l.index l.events)) ≡ fold marked [] (start_indices l.events)
