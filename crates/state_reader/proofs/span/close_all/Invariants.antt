use Rattle.std.proofs.Common.{◌≡◌, drop}
use Rattle.std.specs.List.{fold}
use Rattle.state_reader.specs.Span.{closed_at}
use Rattle.state_reader.proofs.span.close_all.Given as goal

-- those that are left lead on from here as all do from the start
abbrev pub invariant-loop-index : goal.invariant-loop-index
invariant-loop-index g l = fold (closed_at l.line) l.spans.items (drop l.index-index l.indices) ≡ fold (closed_at l.line) l.fn.spans.items l.indices
