use Rattle.std.proofs.Common.{◌≡◌, ◌≤◌, ◌+◌, ◌-◌, take, reverse, true}
use Rattle.std.specs.List.{position_or_len, list_any}
use Rattle.engine_text.specs.Skips.{has_name}
use Rattle.engine_text.proofs.skip.to_back.Given as goal

-- the last is that of the events that are left
abbrev pub invariant-loop-left : goal.invariant-loop-left
invariant-loop-left l =
    (l.left ≤ l.index + 1)
    × (position_or_len (has_name l.names) (reverse (take (l.index + 1) l.events))
    ≡ (l.index + 1 - l.left) + position_or_len (has_name l.names) (reverse (take l.left l.events)))
    × (list_any (has_name l.names) (take l.left l.events) ≡ true)

abbrev pub decreases-loop-left : goal.decreases-loop-left
decreases-loop-left l = l.left
