use Rattle.std.proofs.Common.{◌≡◌, ◌∙◌, arith}
use Rattle.parse_raw.proofs.Prelude.{outdent}
use Rattle.parse_raw.proofs.NextLines.{so_far_all, so_far_exact, so_far_more, so_far_none}
use Rattle.parse_raw.proofs.code_lines.push_code_lines.Goals as goal
use Rattle.std.proofs.Common.{refl}

pub loop-init : goal.loop-init
loop-init g c = record { «open» = refl; so_far = so_far_none c.args.chunk (outdent c.args.indent) c.args.count c.args.walk.now }

pub loop-preserved : goal.loop-preserved
loop-preserved g c =
    let next = c.in_ok-next_line.ensures in
    let line = c.in_ok-push_code_line.ensures in
    record {
      «open» = line.open ∙ next.open ∙ c.loop.invariant.open;
      so_far = so_far_more c.args.chunk (outdent c.args.indent) c.args.count c.loop.counter c.args.walk.now c.loop.walk c.next_line.new.self
          c.push_code_line.new.walk (omega arith) c.loop.invariant.so_far next.passes next.written next.exact next.around line.written;
    }

pub returns-clause-written : goal.returns-clause-written
returns-clause-written g c =
    let done : c.loop.counter ≡ c.args.count = omega arith in
    so_far_all c.args.chunk (outdent c.args.indent) c.args.count c.loop.counter c.args.walk.now c.loop.walk done c.loop.invariant.so_far

pub returns-clause-exact : goal.returns-clause-exact
returns-clause-exact g c =
    let done : c.loop.counter ≡ c.args.count = omega arith in
    so_far_exact c.args.chunk (outdent c.args.indent) c.args.count c.loop.counter c.args.walk.now c.loop.walk done c.loop.invariant.so_far
