use Rattle.std.proofs.Common.{◌≡◌, length}
use Rattle.html_blocks.proofs.Prelude.{cells_left, CellsAreClear, counts_bytes, document_by, KnowsTargets, layout_after, page_view, Targets}
use Rattle.html_blocks.proofs.gfm_table.more_cells.Given as goal

-- the calls in the cells that are left are still to be counted
abbrev pub invariant-loop-cell : goal.invariant-loop-cell
invariant-loop-cell g l = record {
  same_default : l.page.default_ending ≡ l.initial.page.default_ending;
  clear : CellsAreClear (cells_left l.cells) → CellsAreClear (cells_left l.left);
  printed : (ds : Targets) → KnowsTargets l.texts ds → CellsAreClear (cells_left l.cells) →
      let d = document_by g.T.Tables l.texts ds in
      layout_after d.options.compile l.initial.page.default_ending (page_view l.page) (counts_bytes d (cells_left l.left))
      ≡ layout_after d.options.compile l.initial.page.default_ending (page_view l.initial.page) (counts_bytes d (cells_left l.cells));
}

abbrev pub decreases-loop-cell : goal.decreases-loop-cell
decreases-loop-cell g l = length (cells_left l.left)
