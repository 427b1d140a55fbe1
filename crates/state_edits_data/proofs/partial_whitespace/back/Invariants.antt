use Rattle.std.proofs.Common.{◌≡◌, ◌≤◌, ◌+◌, length, take}
use Rattle.std.specs.List.{suffix_len}
use Rattle.definition_text.specs.Columns.{is_white}
use Rattle.state_edits_data.proofs.partial_whitespace.back.Given as goal

-- what was passed is of the suffix of spaces and tabs
abbrev pub invariant-loop-end : goal.invariant-loop-end
invariant-loop-end l = record {
  in_range : l.end ≤ length l.part;
  cut : l.end + suffix_len is_white l.part ≡ length l.part + suffix_len is_white (take l.end l.part);
}

abbrev pub decreases-loop-end : goal.decreases-loop-end
decreases-loop-end l = l.end
