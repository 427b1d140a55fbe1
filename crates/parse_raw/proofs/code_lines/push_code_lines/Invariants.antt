use Rattle.std.proofs.Common.{◌≡◌}
use Rattle.parse_raw.proofs.Prelude.{outdent, still_open}
use Rattle.parse_raw.proofs.NextLines.{LinesSoFar}
use Rattle.parse_raw.proofs.code_lines.push_code_lines.Given as goal

abbrev pub invariant-loop : goal.invariant-loop
invariant-loop g l = record {
  «open» : still_open l.walk ≡ still_open l.initial.walk;
  so_far : LinesSoFar l.chunk (outdent l.indent) l.count l.counter l.initial.walk l.walk;
}
