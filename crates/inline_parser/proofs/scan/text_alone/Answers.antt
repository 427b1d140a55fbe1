use Rattle.std.proofs.Common.{◌≡◌, ◌∙◌, [], ap, sym}
use Rattle.inline_parser.proofs.Prelude.{append-nil, cond-false, cond-true, context_by, inline_rows, row_view, rows_view, spans_from, view_at, with_literals}
use Rattle.inline_parser.proofs.scan.text_alone.Goals as goal
use Rattle.inline_parser.proofs.scan.text_alone.Goals.{else-options-via-then-options+else-may_link, else-options-via-else-options}

pub returns-clause-rows : goal.returns-clause-rows
returns-clause-rows c = λ names p ds leads at content place.
    let options = c.args.options.now in
    let kids = spans_from (context_by options names ds) (view_at p content c.args.start.now) in
    let row = c.in_ok-row.row in
    let one = append-nil (row_view at row) in
    let spans : row_view at row ≡ inline_rows leads kids = c.in_ok-row.ensures.rows names p ds leads at content place in
    elim c.else-options.branch [
      | else-options-via-then-options+else-may_link w ↦
          let same = ap (rows_view at) w.from_ref.ensures.value in
          sym one ∙ sym same ∙ w.may_link.ensures.none leads at kids w.if-may_link.false (same ∙ one ∙ spans)
          ∙ ap (inline_rows leads) (sym (cond-true options.constructs.gfm_autolink_literal (with_literals [] kids) kids w.if-options.true))
      | else-options-via-else-options w ↦
          spans ∙ ap (inline_rows leads) (sym (cond-false options.constructs.gfm_autolink_literal (with_literals [] kids) kids w.if-options.false))
    ]
