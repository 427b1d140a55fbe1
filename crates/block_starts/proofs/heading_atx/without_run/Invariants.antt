use Rattle.std.proofs.Common.{◌≡◌, ◌≤◌, ◌<◌, ◌+◌, length, take, get_or, eqb}
use Rattle.std.specs.List.{suffix_len}
use Rattle.block_starts.proofs.heading_atx.without_run.Given as goal

-- what was cut off so far is of the run at the end
abbrev pub invariant-loop-end : goal.invariant-loop-end
invariant-loop-end l = record {
  in_range : l.end ≤ length l.text;
  cut : l.end + suffix_len (λ b. eqb b 35) l.text ≡ length l.text + suffix_len (λ b. eqb b 35) (take l.end l.text);
  at_end : l.end < length l.text → get_or l.text l.end 0 ≡ 35;
}

abbrev pub decreases-loop-end : goal.decreases-loop-end
decreases-loop-end l = l.end
