use Rattle.std.proofs.Common.{◌≡◌, ◌≤◌, ◌+◌, length, take}
use Rattle.std.specs.List.{suffix_len}
use Rattle.state_left.specs.Left.{is_of_line}
use Rattle.state_left.proofs.paragraph.last_lines.Given as goal

-- what was passed is of the suffix of such events
abbrev pub invariant-loop-first : goal.invariant-loop-first
invariant-loop-first l = record {
  in_range : l.first ≤ length l.events;
  cut : l.first + suffix_len is_of_line l.events ≡ length l.events + suffix_len is_of_line (take l.first l.events);
}

abbrev pub decreases-loop-first : goal.decreases-loop-first
decreases-loop-first l = l.first
