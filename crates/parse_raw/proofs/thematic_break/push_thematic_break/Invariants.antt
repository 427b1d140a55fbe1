use Rattle.std.proofs.Common.{◌≡◌, ℕ, length}
use Rattle.parse_raw.proofs.Prelude.{still_open}
use Rattle.parse_raw.proofs.Breaks.{PassesParts}
use Rattle.parse_raw.specs.Bytes.{AreBreak}
use Rattle.parse_raw.proofs.thematic_break.push_thematic_break.Given as goal

abbrev pub invariant-loop-rest : goal.invariant-loop-rest
invariant-loop-rest g l = record {
  «open» : still_open l.walk ≡ still_open l.initial.walk;
  on : (marker : ℕ) → AreBreak marker l.initial.rest → AreBreak marker l.rest × PassesParts l.initial.rest l.rest l.initial.walk l.walk;
}

abbrev pub decreases-loop-rest : goal.decreases-loop-rest
decreases-loop-rest g l = length l.rest
