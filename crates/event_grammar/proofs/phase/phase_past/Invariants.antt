use Rattle.std.proofs.Common.{◌≡◌, ◌<◌, drop}
use Rattle.event_grammar.proofs.Prelude.{fold, phase_on}
use Rattle.event_grammar.proofs.phase.phase_past.Given as goal

abbrev pub invariant-loop-byte : goal.invariant-loop-byte
invariant-loop-byte l = record {
  small : l.past < 4;
  rest : fold phase_on l.past (drop l.byte-index l.bytes) ≡ fold phase_on l.fn.phase l.fn.bytes;
}
