use Rattle.std.proofs.Common.{◌≡◌, ◌+◌, ◌*◌, ◌≤◌, take}
use Rattle.parse_output.proofs.Prelude.{fold, next_spot}
use Rattle.parse_output.proofs.pass.pass_all.Given as goal

abbrev pub invariant-loop-byte : goal.invariant-loop-byte
invariant-loop-byte l =
    (l.here ≡ fold (next_spot l.mark) l.fn.spot (take l.byte-index l.bytes)) × (l.here.index ≡ l.fn.spot.index + l.byte-index)
    × (l.here.line ≤ l.here.index + 1) × (l.here.column ≤ 4 * l.here.index + 1)
