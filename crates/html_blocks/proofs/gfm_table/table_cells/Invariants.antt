use Rattle.std.proofs.Common.{◌≡◌, drop}
use Rattle.html_blocks.proofs.Prelude.{cell_name, cells_bytes, cells_left, CellsAreClear, document_by, KnowsTargets, layout_after, line_cells, page_view}
use Rattle.html_blocks.proofs.Prelude.{piece_line, Targets}
use Rattle.text_pieces.specs.ParagraphLines.{HaveNoEnding}
use Rattle.html_blocks.proofs.gfm_table.table_cells.Given as goal

-- the cells that are left are still to be printed, in the columns that are left
abbrev pub invariant-loop-align : goal.invariant-loop-align
invariant-loop-align g l = record {
  same_default : l.page.default_ending ≡ l.initial.page.default_ending;
  clear : HaveNoEnding (piece_line l.line).codes → CellsAreClear (cells_left l.cells);
  printed : (ds : Targets) → KnowsTargets l.texts ds → HaveNoEnding (piece_line l.line).codes →
      let d = document_by g.T.Tables l.texts ds in
      layout_after d.options.compile l.initial.page.default_ending (page_view l.page)
      (cells_bytes d (cell_name l.kind) (drop l.align-index l.aligns) (cells_left l.cells))
      ≡ layout_after d.options.compile l.initial.page.default_ending (page_view l.initial.page)
      (cells_bytes d (cell_name l.kind) l.aligns (line_cells (piece_line l.line)));
}
