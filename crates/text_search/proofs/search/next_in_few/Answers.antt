use Rattle.std.proofs.Common.{ap, ◌∙◌, not, arith}
use Rattle.std.specs.List.{prefix_len}
use Rattle.text_search.proofs.Ends.{within, ends_early, ends_late}
use Rattle.text_search.proofs.search.next_in_few.Goals as goal

pub overflow_add-result : goal.overflow_add-result
overflow_add-result g c =
    let run = c.lanes_before-run.ensures ∙ ap (prefix_len (λ byte. not (g.T.ByteTest.passes c.args.test byte))) c.ends.ensures in
    let inside =
    within (g.T.ByteTest.passes c.args.test) c.args.bytes.now c.lanes_before-run.result c.if-bytes-lt-END_SIZE.false
    (omega (arith, c.requires)) run in
    omega (arith, inside, c.requires)

pub returns-then-run-lt-END_SIZE : goal.returns-then-run-lt-END_SIZE
returns-then-run-lt-END_SIZE g c =
    ends_early (g.T.ByteTest.passes c.args.test) c.args.bytes.now c.lanes_before-run.result c.if-bytes-lt-END_SIZE.false (omega (arith, c.requires))
    (c.lanes_before-run.ensures ∙ ap (prefix_len (λ byte. not (g.T.ByteTest.passes c.args.test byte))) c.ends.ensures)
    c.if-run-lt-END_SIZE.true

pub returns-else-run-lt-END_SIZE : goal.returns-else-run-lt-END_SIZE
returns-else-run-lt-END_SIZE g c =
    ends_late (g.T.ByteTest.passes c.args.test) c.args.bytes.now c.lanes_before-run.result c.if-bytes-lt-END_SIZE.false (omega (arith, c.requires))
    (c.lanes_before-run.ensures ∙ ap (prefix_len (λ byte. not (g.T.ByteTest.passes c.args.test byte))) c.ends.ensures)
    c.if-run-lt-END_SIZE.false
