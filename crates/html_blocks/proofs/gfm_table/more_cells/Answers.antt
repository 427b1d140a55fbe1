use Rattle.std.proofs.Common.{◌≡◌, ◌∷◌, sym, ap, ◌∙◌, subst}
use Rattle.html_blocks.proofs.Prelude.{cell_view, cells_left, CellsAreClear, counts_bytes, document_by, ending_bytes, layout_after, page_view}
use Rattle.html_rows.proofs.GfmTableLemmas.{counts_more}
use Rattle.html_blocks.proofs.gfm_table.more_cells.Goals as goal

pub loop-cell-preserved : goal.loop-cell-preserved
loop-cell-preserved g c =
    let k = c.loop-cell.invariant in
    let e = c.args.page.now.default_ending in
    let cs = cells_left c.loop-cell.left in
    let left = cells_left c.next.new.self in
    let found = cell_view c.in-Some.cell in
    let steps : cs ≡ found ∷ left = c.in-Some.ensures.steps in
    record {
      same_default = k.same_default;
      clear = λ clear. (subst CellsAreClear steps (k.clear clear)).1;
      printed = λ ds has clear.
          let d = document_by g.T.Tables c.args.texts.now ds in
          let here = page_view c.loop-cell.page in
          ap (λ x. layout_after d.options.compile e x (counts_bytes d left))
          (c.in_ok-count_cell.ensures ds has (subst CellsAreClear steps (k.clear clear)).0 (ending_bytes e))
          ∙ counts_more (ending_bytes e) d cs left found here steps
          ∙ k.printed ds has clear;
    }

pub returns-clause-printed : goal.returns-clause-printed
returns-clause-printed g c = λ ds has clear.
    let d = document_by g.T.Tables c.args.texts.now ds in
    let e = c.args.page.now.default_ending in
    ap (λ cs. layout_after d.options.compile e (page_view c.loop-cell.page) (counts_bytes d cs)) (sym c.in_default.ensures.steps.0)
    ∙ c.loop-cell.invariant.printed ds has clear
