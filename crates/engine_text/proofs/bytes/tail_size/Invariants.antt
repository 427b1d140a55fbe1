use Rattle.std.proofs.Common.{◌≡◌, ◌≤◌, ◌+◌, length, take}
use Rattle.std.specs.List.{suffix_len}
use Rattle.engine_text.specs.Bytes.{goes_on}
use Rattle.engine_text.proofs.bytes.tail_size.Given as goal

-- what was passed is of the suffix of such bytes
abbrev pub invariant-loop-end : goal.invariant-loop-end
invariant-loop-end l = record {
  in_range : l.end ≤ length l.front;
  cut : l.end + suffix_len goes_on l.front ≡ length l.front + suffix_len goes_on (take l.end l.front);
}

abbrev pub decreases-loop-end : goal.decreases-loop-end
decreases-loop-end l = l.end
