use Rattle.std.proofs.Common.{◌≡◌, ◌+◌, ◌*◌, ◌≤◌, drop}
use Rattle.std.specs.List.{prefix_len}
use Rattle.definition_text.specs.Columns.{codes_from, indent, is_white}
use Rattle.block_starts.proofs.cursor.white_ahead.Given as goal

-- what is ahead of the place is what is left of all that is ahead
abbrev pub invariant-loop-i : goal.invariant-loop-i
invariant-loop-i l = record {
  white : l.i + prefix_len is_white (drop l.i l.bytes) ≡ prefix_len is_white l.bytes;
  columns : l.at + indent (codes_from l.at (drop l.i l.bytes)) ≡ l.column + indent (codes_from l.column l.bytes);
  after : l.column ≤ l.at;
  few : l.at ≤ l.column + 4 * l.i;
}
