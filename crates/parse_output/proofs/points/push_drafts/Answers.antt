use Rattle.std.proofs.Common.{arith, ◌∙◌}
use Rattle.parse_output.proofs.Drafted.{marks_read}
use Rattle.parse_output.proofs.Forests.{all_read, one_read}
use Rattle.parse_output.proofs.points.push_drafts.Goals as goal

pub loop-draft-preserved : goal.loop-draft-preserved
loop-draft-preserved g c = (
  c.push_draft.ensures.place,
  c.push_draft.ensures.told,
  marks_read c.args.drafts.now c.loop-draft.draft-index _ _ _ c.loop-draft-test.true c.loop-draft.invariant.2 c.push_draft.ensures.marks,
  omega (arith, c.push_draft.ensures.len, c.loop-draft.invariant.3),
  c.push_draft.ensures.capacity ∙ c.loop-draft.invariant.4,
  c.push_draft.ensures.plain,
  λ order. one_read c.args.text.now c.args.drafts.now c.loop-draft.draft-index _ _ _ _ _ c.loop-draft-test.true order (c.loop-draft.invariant.6 order)
      c.push_draft.ensures.end c.push_draft.ensures.each,
)

pub returns-clause-end : goal.returns-clause-end
returns-clause-end g c = λ order. (all_read c.args.text.now c.args.drafts.now c.loop-draft.draft-index _ _ (omega (arith, c.loop-draft-test.false)) (c.loop-draft.invariant.6 order)).end

pub returns-clause-each : goal.returns-clause-each
returns-clause-each g c = λ order. (all_read c.args.text.now c.args.drafts.now c.loop-draft.draft-index _ _ (omega (arith, c.loop-draft-test.false)) (c.loop-draft.invariant.6 order)).each
