use Rattle.std.proofs.Common.{◌≡◌, ◌∙◌, [], ap, subst, codes}
use Rattle.compile_blocks.proofs.Prelude.{cell_name, cells_in, cells_pieces, ending_bytes, in_bytes, layout_after, LineEnding, OnOk, page_view, row_of}
use Rattle.compile_blocks.proofs.Prelude.{with_tag}
use Rattle.compile_blocks.proofs.GfmTableLaid.{row_laid}
use Rattle.compile_blocks.proofs.gfm_table.table_row.Goals as goal

pub returns-clause-printed : goal.returns-clause-printed
returns-clause-printed g c = λ m ds kids meant events sound.
    let names = g.T.Tables.reference_of c.args.source.now.tables.now in
    let bytes = c.args.source.now.checked.bytes.now in
    let e = c.args.page.now.default_ending in
    let default = ending_bytes e in
    let aligns = c.args.aligns.now in
    let name = cell_name c.args.kind in
    let start = page_view c.args.page.now in
    let ps = in_bytes (cells_pieces m name aligns (cells_in names bytes kids)) in
    let first = c.in_ok-fresh_tag.ensures.default in
    let cells =
    c.in_ok-table_cells.ensures.printed m ds kids meant events sound
    ∙ ap (λ (x : LineEnding). layout_after m.compile x (page_view c.fresh_tag.new.self) ps) first
    ∙ ap (λ x. layout_after m.compile e x ps) c.in_ok-fresh_tag.ensures.printed in
    subst (λ x. OnOk c.fresh_tag-2.result (page_view c.fresh_tag-2.new.self ≡ x))
    (ap (λ (x : LineEnding). with_tag (ending_bytes x) (codes "</tr>") (page_view c.table_cells.new.page)) (c.in_ok-table_cells.ensures.default ∙ first)
    ∙ ap (with_tag default (codes "</tr>")) cells
    ∙ row_laid m default name aligns (row_of names bytes kids []) start)
    c.fresh_tag-2.ensures.printed
