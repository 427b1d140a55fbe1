use Rattle.std.proofs.Common.{◌≡◌, Option, sym, subst}
use Rattle.html_blocks.proofs.Prelude.{cell_name, document_by, layout_after, next_cell_bytes, OnOk, page_view}
use Rattle.block_cells.specs.declared.gfm_table.Cell.{Cell}
use Rattle.html_blocks.proofs.gfm_table.next_cell.Goals as goal

pub returns-in-None-clause-printed : goal.returns-in-None-clause-printed
returns-in-None-clause-printed g c = λ ds has clear.
    let d = document_by g.T.Tables c.args.texts.now ds in
    let page = c.args.page.now in
    subst (λ (cell : Option Cell). OnOk c.missing_cell.result (page_view c.missing_cell.new.self
    ≡ layout_after d.options.compile page.default_ending (page_view page) (next_cell_bytes d (cell_name c.args.kind) c.args.align cell)))
    (sym c.in-None.is) (c.missing_cell.ensures.printed d)
