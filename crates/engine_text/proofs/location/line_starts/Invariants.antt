use Rattle.std.proofs.Common.{◌≡◌, ◌++◌, drop}
use Rattle.engine_text.specs.Lines.{line_starts}
use Rattle.engine_text.proofs.location.line_starts.Given as goal

-- what was found and what the rest holds are all
abbrev pub invariant-loop-index : goal.invariant-loop-index
invariant-loop-index g l = l.starts.items ++ line_starts l.index (drop l.index l.bytes) ≡ line_starts 0 l.bytes
