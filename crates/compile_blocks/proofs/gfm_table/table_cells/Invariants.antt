use Rattle.std.proofs.Common.{◌≡◌, List, drop}
use Rattle.compile_blocks.proofs.Prelude.{AlignKind, AreCounted, AreSound, cell_name, cells_in, cells_pieces, Definition, ending_bytes, events_of, in_bytes}
use Rattle.compile_blocks.proofs.Prelude.{IsMeant, layout_after, Meaning, Nodes, page_view}
use Rattle.compile_blocks.proofs.GfmTableLeft.{IsLeft}
use Rattle.compile_blocks.proofs.gfm_table.table_cells.Given as goal

-- the cells that are left are still to be printed, in the columns that are left
abbrev pub invariant-loop-align : goal.invariant-loop-align
invariant-loop-align g l = record {
  same_default : l.page.default_ending ≡ l.initial.page.default_ending;
  counted : AreCounted l.source.checked.bytes.now l.columns;
  printed : (m : Meaning) (ds : List Definition) (kids : Nodes) →
      let names = g.T.Tables.reference_of l.source.tables.now in
      let bytes = l.source.checked.bytes.now in
      let e = l.initial.page.default_ending in
      let pieces = λ (columns : List AlignKind) (ns : Nodes). cells_pieces m (cell_name l.kind) columns (cells_in names bytes ns) in
      IsMeant names l.source ds m → l.row ≡ events_of kids → AreSound bytes kids →
      IsLeft m (ending_bytes e) bytes (pieces (drop l.align-index l.aligns)) l.rest (page_view l.page)
      (layout_after m.compile e (page_view l.initial.page) (in_bytes (pieces l.aligns kids)));
}
