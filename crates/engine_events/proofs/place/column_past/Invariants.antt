use Rattle.std.proofs.Common.{◌≡◌, drop}
use Rattle.engine_events.specs.Columns.{column_past}
use Rattle.engine_events.proofs.place.column_past.Given as goal

-- what is left leads to the same column
abbrev pub invariant-loop-byte : goal.invariant-loop-byte
invariant-loop-byte l = column_past (drop l.byte-index l.bytes) l.column ≡ column_past l.bytes l.fn.column
