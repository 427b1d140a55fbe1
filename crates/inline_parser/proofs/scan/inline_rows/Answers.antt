use Rattle.std.proofs.Common.{◌≡◌, ◌∙◌, [], IfOk, IfSome, Option, ap, subst, sym}
use Rattle.inline_parser.proofs.Prelude.{append-nil, cond-true, context_by, inline_rows, leads_to, linked_at, linked_by, row_view, rows_view, spans_from}
use Rattle.inline_parser.proofs.Prelude.{view_at, with_literals}
use Rattle.definition_inline.specs.Scan.{inlines_from}
use Rattle.inline_rows.specs.declared.row.InlineRow.{InlineRow}
use Rattle.inline_parser.specs.Found.{found_rows}
use Rattle.inline_parser.proofs.scan.inline_rows.Goals as goal

pub returns-then-options : goal.returns-then-options
returns-then-options g c ds has =
    let options = c.args.options.now in
    let tables = c.args.tables.now in
    let leads = leads_to (linked_by ds.definitions) in
    let at = linked_at ds.definitions in
    let kids = spans_from (context_by options (g.T.Tables.reference_of tables) ds)
    (view_at (g.T.Tables.punctuation_of tables) c.args.content c.args.start.now) in
    subst (λ k. IfOk c.rows_with_literals.result (λ found. rows_view at (found_rows found) ≡ inline_rows leads k))
    (sym (cond-true options.constructs.gfm_autolink_literal (with_literals [] kids) kids c.if-options.true))
    (c.rows_with_literals.ensures leads at kids (ap (rows_view at) c.deref.ensures.value ∙ c.in_ok-span_rows.ensures ds has))

pub returns-in-Some : goal.returns-in-Some
returns-in-Some g c ds has =
    let options = c.args.options.now in
    let tables = c.args.tables.now in
    let names = g.T.Tables.reference_of tables in
    let p = g.T.Tables.punctuation_of tables in
    let leads = leads_to (linked_by ds.definitions) in
    let at = linked_at ds.definitions in
    let kids = inlines_from (context_by options names ds) (view_at p c.args.content c.args.start.now) in
    append-nil (row_view at c.in-Some.row)
    ∙ subst (λ (o : Option InlineRow). IfSome o (λ row. row_view at row ≡ inline_rows leads kids)) c.in-Some.is
    (c.text_alone.ensures.rows names p ds leads at c.args.content c.requires)
