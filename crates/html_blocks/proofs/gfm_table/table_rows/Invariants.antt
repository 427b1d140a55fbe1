use Rattle.std.proofs.Common.{◌≡◌, take}
use Rattle.html_blocks.proofs.Prelude.{AreClear, document_by, KnowsTargets, last_ending, layout_after, own_lines, page_view, piece_lines, rows_bytes, Targets}
use Rattle.html_blocks.proofs.gfm_table.table_rows.Given as goal

-- the rows so far are printed, and the ending of the last one waits
abbrev pub invariant-loop-row : goal.invariant-loop-row
invariant-loop-row g l = record {
  same_default : l.page.default_ending ≡ l.initial.page.default_ending;
  printed : (ds : Targets) → KnowsTargets l.texts ds → AreClear (piece_lines l.rows) →
      let d = document_by g.T.Tables l.texts ds in
      page_view l.page ≡ layout_after d.options.compile l.initial.page.default_ending (page_view l.initial.page)
      (rows_bytes d l.aligns (own_lines (piece_lines (take l.row-index l.rows))));
  waits : l.waiting ≡ last_ending (piece_lines (take l.row-index l.rows));
}
