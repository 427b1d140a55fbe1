use Rattle.std.proofs.Common.{[], sym, ap, false, ◌∙◌, arith}
use Rattle.parse_inline.proofs.Prelude.{prefix_len-le-length, run_of, unwrap_or, ◌==◌}
use Rattle.parse_inline.proofs.Runs.{run_passed, run_found}
use Rattle.parse_inline.proofs.code_text.from_run.Goals as goal

pub from-requires : goal.from-requires
from-requires c =
    let m = c.args.marker in
    omega (arith, c.loop-found.invariant.run, prefix_len-le-length (λ b. b == m) c.loop-found.rest.now)

pub loop-found-preserved : goal.loop-found-preserved
loop-found-preserved c =
    let m = c.args.marker in
    let n = c.args.size in
    let next = c.from_byte-rest-in-loop-found.ensures in
    record {
      same = λ some.
          next.same n some ∙ ap (run_of m n false) c.from.ensures
          ∙ run_passed m n c.loop-found.found c.loop-found.rest.now some c.loop-found.invariant.run c.loop-found-test.true c.if-found-gt0.true
          ∙ c.loop-found.invariant.same some;
      run = c.run-found-in-loop-found.ensures.size;
      none = λ e. next.first (sym c.run-found-in-loop-found.ensures.size ∙ e);
    }

pub returns-after-loop-found : goal.returns-after-loop-found
returns-after-loop-found c some =
    let m = c.args.marker in
    let n = c.args.size in
    run_found m n c.loop-found.found c.loop-found.rest.now some c.loop-found.invariant.run c.loop-found-test.false
    ∙ ap (λ o. unwrap_or o []) (c.loop-found.invariant.same some)
