use Rattle.std.proofs.Common.{◌≡◌, drop}
use Rattle.std.specs.List.{fold}
use Rattle.engine_edits.specs.Edits.{edits_of}
use Rattle.state_edits_links.specs.LabelEnd.{with_loose}
use Rattle.state_edits_links.proofs.label_end.add_all_loose.Given as goal

-- those that are left do to the edits what all do to the first
abbrev pub invariant-loop-index : goal.invariant-loop-index
invariant-loop-index g l = fold (with_loose l.events) (edits_of l.edits) (drop l.index l.starts) ≡ fold (with_loose l.events) (edits_of l.fn.edits) l.starts
