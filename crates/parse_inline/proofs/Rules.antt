-- Lemmas that goals of functions need together: what may be entered in what is open.
use Rattle.parse_output.proofs.Classes.{enters_in, lines_in, string_in, text_lines, text_may}
use Rattle.parse_output.proofs.Marks.{closed_same, same_self}
use Rattle.parse_output.proofs.Rows.{held_row}
use Rattle.parse_inline.proofs.Checks.{check_holds}
use Rattle.parse_inline.proofs.Held.{held_last, held_less, none_held, span_holds_sequence, span_holds_text, span_row, span_text_row, text_child}
use Rattle.parse_inline.proofs.LeavingAll.{leave_last}

-- in what holds lines, a string or a text
pub ruleset in_lines = (enters_in, lines_in)

pub ruleset in_string = (enters_in, string_in)

pub ruleset in_text = (text_may, text_lines, text_child)

-- in raw text, in a check, in a span
pub ruleset in_raw = (same_self, enters_in, lines_in, held_row)

pub ruleset in_check = (enters_in, lines_in, check_holds)

pub ruleset in_span = (span_holds_sequence, span_holds_text, span_row, span_text_row, enters_in)

-- at the end of what is open, and of all that are
pub ruleset at_end = (enters_in, span_holds_sequence, closed_same)

pub ruleset at_ends = (leave_last, none_held, held_last, held_less, text_may)
