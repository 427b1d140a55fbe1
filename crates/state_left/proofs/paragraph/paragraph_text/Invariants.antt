use Rattle.std.proofs.Common.{◌≡◌, [], drop}
use Rattle.std.specs.List.{fold}
use Rattle.state_left.specs.Left.{lines, with_event}
use Rattle.state_left.proofs.paragraph.paragraph_text.Given as goal

-- the events that are left lead on from here as all do from the start
abbrev pub invariant-loop-index : goal.invariant-loop-index
invariant-loop-index g l = fold (with_event l.bytes) (lines l.text.items l.start) (drop l.index l.lines) ≡ fold (with_event l.bytes) (lines [] 0) l.lines
