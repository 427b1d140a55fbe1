use Rattle.std.proofs.Common.{◌≡◌, drop}
use Rattle.std.specs.List.{fold}
use Rattle.state_edits_data.specs.Each.{column_over}
use Rattle.state_edits_data.proofs.each.column_past.Given as goal

-- the bytes that are left lead on from here as all do from the first column
abbrev pub invariant-loop-index : goal.invariant-loop-index
invariant-loop-index l = fold column_over l.column (drop l.index l.part) ≡ fold column_over l.fn.column l.part
