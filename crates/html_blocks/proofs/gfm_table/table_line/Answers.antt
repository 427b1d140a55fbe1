use Rattle.std.proofs.Common.{◌≡◌, ap, ◌∙◌, subst}
use Rattle.html_blocks.proofs.Prelude.{cell_name, cells_bytes, codes, document_by, ending_bytes, layout_after, line_cells, LineEnding, OnOk, page_view}
use Rattle.html_blocks.proofs.Prelude.{piece_line, with_tag}
use Rattle.html_rows.proofs.GfmTableLemmas.{row_laid}
use Rattle.html_blocks.proofs.gfm_table.table_line.Goals as goal

pub returns-clause-printed : goal.returns-clause-printed
returns-clause-printed g c = λ ds has clear.
    let d = document_by g.T.Tables c.args.texts.now ds in
    let o = d.options.compile in
    let e = c.args.page.now.default_ending in
    let default = ending_bytes e in
    let line = piece_line c.args.line.now in
    let aligns = c.args.aligns.now in
    let name = cell_name c.args.kind in
    let start = page_view c.args.page.now in
    let ps = cells_bytes d name aligns (line_cells line) in
    let first = c.in_ok-fresh_tag.ensures.default in
    let cells =
    c.in_ok-table_cells.ensures.printed ds has clear
    ∙ ap (λ (x : LineEnding). layout_after o x (page_view c.fresh_tag.new.self) ps) first
    ∙ ap (λ x. layout_after o e x ps) c.in_ok-fresh_tag.ensures.printed in
    subst (λ x. OnOk c.fresh_tag-2.result (page_view c.fresh_tag-2.new.self ≡ x))
    (ap (λ (x : LineEnding). with_tag (ending_bytes x) (codes "</tr>") (page_view c.table_cells.new.page)) (c.in_ok-table_cells.ensures.default ∙ first)
    ∙ ap (with_tag default (codes "</tr>")) cells
    ∙ row_laid default d aligns line name start)
    c.fresh_tag-2.ensures.printed
