use Rattle.std.proofs.Common.{◌≡◌, ◌<◌, sym, ap, ◌∙◌, length, arith, subst}
use Rattle.html_blocks.proofs.Prelude.{codes, document_by, ending_bytes, layout_after, LineEnding, OnOk, own_lines, page_view, piece_line, piece_lines}
use Rattle.html_blocks.proofs.Prelude.{rows_bytes, with_bytes, with_tag}
use Rattle.std.proofs.lemmas.Bool.{eqb-false}
use Rattle.std.proofs.lemmas.List.{length-map}
use Rattle.html_rows.proofs.GfmTableLemmas.{body_laid}
use Rattle.html_blocks.proofs.gfm_table.table_body.Goals as goal

pub returns-clause-printed : goal.returns-clause-printed
returns-clause-printed g c = λ ds has clear.
    let d = document_by g.T.Tables c.args.texts.now ds in
    let o = d.options.compile in
    let e = c.args.page.now.default_ending in
    let default = ending_bytes e in
    let aligns = c.args.aligns.now in
    let ending = c.args.ending in
    let ls = piece_lines c.args.rows.now in
    let start = page_view c.args.page.now in
    let ps = rows_bytes d aligns (own_lines ls) in
    let first = c.in_ok-say.ensures.default ∙ c.in_ok-push_ending.ensures.default in
    let opened = c.in_ok-say.ensures.printed ∙ ap (with_bytes (codes "<tbody>")) c.in_ok-push_ending.ensures.printed in
    let rows =
    c.in_ok-table_rows.ensures.printed ds has clear
    ∙ ap (λ (x : LineEnding). layout_after o x (page_view c.say.new.self) ps) first
    ∙ ap (λ x. layout_after o e x ps) opened in
    let some : 0 < length ls = omega (
      arith,
      length-map c.args.rows.now piece_line,
      eqb-false (length c.args.rows.now) 0 (sym c.is_empty.ensures ∙ c.if-is_empty.false),
    ) in
    subst (λ x. OnOk c.fresh_tag.result (page_view c.fresh_tag.new.self ≡ x))
    (ap (λ (x : LineEnding). with_tag (ending_bytes x) (codes "</tbody>") (page_view c.table_rows.new.page)) (c.in_ok-table_rows.ensures.default ∙ first)
    ∙ ap (with_tag default (codes "</tbody>")) rows
    ∙ body_laid default d aligns ending ls start some)
    c.fresh_tag.ensures.printed
