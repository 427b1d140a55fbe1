use Rattle.std.proofs.Common.{◌≡◌, ◌≤◌, drop}
use Rattle.event_check.specs.Loose.{lines_in}
use Rattle.event_check.proofs.loose.lines_in.Given as goal

abbrev pub invariant-loop-byte : goal.invariant-loop-byte
invariant-loop-byte l =
    record {
      counted : l.count ≤ l.byte-index;
      rest : lines_in l.returned l.count (drop l.byte-index l.bytes) ≡ lines_in l.fn.after_return 0 l.fn.bytes;
    }
