use Rattle.std.proofs.Common.{◌≡◌, ◌≤◌, ◌<◌, ◌+◌, length, take, get_or, true}
use Rattle.std.specs.List.{suffix_len}
use Rattle.definition_text.specs.Columns.{is_white}
use Rattle.text_lines.proofs.blank.trim_end.Given as goal

-- what was cut off so far is of the suffix of spaces and tabs
abbrev pub invariant-loop-end : goal.invariant-loop-end
invariant-loop-end l = record {
  in_range : l.end ≤ length l.text;
  cut : l.end + suffix_len is_white l.text ≡ length l.text + suffix_len is_white (take l.end l.text);
  at_end : l.end < length l.text → is_white (get_or l.text l.end 0) ≡ true;
}

abbrev pub decreases-loop-end : goal.decreases-loop-end
decreases-loop-end l = l.end
