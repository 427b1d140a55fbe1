use Rattle.std.proofs.Common.{◌≡◌, ◌+◌, drop}
use Rattle.std.specs.List.{position_or_len}
use Rattle.engine_text.specs.Skips.{has_name}
use Rattle.engine_text.proofs.skip.to.Given as goal

-- the first is that of the rest
abbrev pub invariant-loop-at : goal.invariant-loop-at
invariant-loop-at l = l.at + position_or_len (has_name l.names) (drop l.at l.events) ≡ l.index + position_or_len (has_name l.names) (drop l.index l.events)
