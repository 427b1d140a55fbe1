use Rattle.std.proofs.Common.{ap, ◌∙◌, set}
use Rattle.inline_rows.specs.declared.row.InlineRow.TheVariants.{EnterSpan}
use Rattle.inline_rows.proofs.Prelude.{start_row}
use Rattle.inline_rows.proofs.Writes.{one_more}
use Rattle.inline_rows.proofs.tell.start_spans.Goals as goal

pub loop-place-preserved : goal.loop-place-preserved
loop-place-preserved c =
    ap (λ span. set c.loop-place.rows c.loop-place.place (EnterSpan span)) c.span.ensures
    ∙ one_more (start_row c.args.marker) c.args.opened.now c.args.rows.now c.loop-place.rows c.loop-place.place _ c.requires c.loop-place-test.true
    c.loop-place.invariant
