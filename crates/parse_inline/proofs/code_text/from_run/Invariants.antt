use Rattle.std.proofs.Common.{◌≡◌, ◌<◌, [], length, false}
use Rattle.parse_inline.proofs.Prelude.{run, run_of}
use Rattle.parse_inline.proofs.code_text.from_run.Given as goal

-- what is left has the answer, and begins with so many of the byte
abbrev pub invariant-loop-found : goal.invariant-loop-found
invariant-loop-found l = record {
  same : 0 < l.size → run_of l.marker l.size false l.rest ≡ run_of l.marker l.size false l.bytes;
  run : l.found ≡ run l.marker l.rest;
  none : l.found ≡ 0 → l.rest ≡ [];
}

abbrev pub decreases-loop-found : goal.decreases-loop-found
decreases-loop-found l = length l.rest
