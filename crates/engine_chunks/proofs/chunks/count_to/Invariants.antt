use Rattle.std.proofs.Common.{◌≡◌, ◌+◌, drop}
use Rattle.std.specs.List.{position_or_len}
use Rattle.engine_chunks.specs.Chunks.{is_beyond}
use Rattle.engine_chunks.proofs.chunks.count_to.Given as goal

-- the first is that of the rest
abbrev pub invariant-loop-at : goal.invariant-loop-at
invariant-loop-at l = l.at + position_or_len (is_beyond l.end) (drop l.at l.events) ≡ l.from + position_or_len (is_beyond l.end) (drop l.from l.events)
