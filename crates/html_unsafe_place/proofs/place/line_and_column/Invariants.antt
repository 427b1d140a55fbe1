use Rattle.std.proofs.Common.{◌≡◌, ◌≤◌, ◌+◌, drop}
use Rattle.html_unsafe_place.specs.Place.{line_after, column_after}
use Rattle.html_unsafe_place.proofs.place.line_and_column.Given as goal

-- the bytes that are left lead to the same place
abbrev pub invariant-loop-byte : goal.invariant-loop-byte
invariant-loop-byte l = record {
  line : line_after l.line (drop l.byte-index l.before) ≡ line_after 1 l.before;
  column : column_after l.column (drop l.byte-index l.before) ≡ column_after 1 l.before;
  few_lines : l.line ≤ l.byte-index + 1;
  few_columns : l.column ≤ l.byte-index + 1;
}
