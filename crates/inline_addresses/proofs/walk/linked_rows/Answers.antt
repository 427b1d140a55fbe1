use Rattle.std.proofs.Common.{◌≡◌, ◌+◌, ◌++◌, ◌∙◌, [], ap, arith, drop, length, subst, sym}
use Rattle.inline_addresses.proofs.Prelude.{drop_all, InlineRow, IsNext, linked_rows, row_text, row_view, rows_view, text_or_end, walk_rows}
use Rattle.inline_addresses.proofs.Rows.{rows_linked}
use Rattle.inline_addresses.proofs.Walks.{after_row, next_row, rows_left}
use Rattle.inline_addresses.proofs.walk.linked_rows.Goals as goal

pub step-requires-clause-next : goal.step-requires-clause-next
step-requires-clause-next g c =
    let walk = c.loop-row.walk in
    let row = c.row-item.result in
    subst (λ (r : InlineRow). IsNext walk.text.now walk.size (text_or_end (row_text r))) (sym c.row-item.is)
    (next_row walk.text.now walk.size c.args.rows.now c.loop-row.row-index row c.loop-row.invariant.within c.loop-row-test.true c.loop-row.invariant.text)

pub loop-row-preserved : goal.loop-row-preserved
loop-row-preserved g c =
    let walk = c.loop-row.walk in
    let rows = c.args.rows.now in
    let i = c.loop-row.row-index in
    let row = c.row-item.result in
    let next = c.in_ok-step.ensures in
    record {
      depth = omega (arith, next.depth, c.loop-row.invariant.depth);
      within = next.within;
      text =
          next.text ∙ ap (λ (r : InlineRow). drop (length (text_or_end (row_text r))) (drop walk.size walk.text.now)) c.row-item.is
          ∙ after_row walk.text.now walk.size rows i row c.loop-row-test.true c.loop-row.invariant.text;
      rows = λ at.
          next.rows at (rows_view at (drop (i + 1) rows))
          ∙ ap (λ (r : InlineRow). walk_rows at walk (row_view at r ++ rows_view at (drop (i + 1) rows))) c.row-item.is
          ∙ ap (walk_rows at walk) (rows_left at rows i row c.loop-row-test.true)
          ∙ c.loop-row.invariant.rows at;
    }

pub returns : goal.returns
returns g c leads at kids same =
    let rows = c.args.rows.now in
    let i = c.loop-row.row-index in
    let ended : drop i rows ≡ [] = drop_all i rows (omega (arith, c.loop-row-test.false)) in
    c.in_ok-end_run.ensures.rows at
    ∙ ap (λ l. walk_rows at c.loop-row.walk (rows_view at l)) (sym ended)
    ∙ c.loop-row.invariant.rows at
    ∙ ap (linked_rows 0 []) same
    ∙ rows_linked leads kids
