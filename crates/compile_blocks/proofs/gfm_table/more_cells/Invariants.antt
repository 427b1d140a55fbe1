use Rattle.std.proofs.Common.{◌≡◌, List, length}
use Rattle.compile_blocks.proofs.Prelude.{AreCounted, AreSound, cells_in, Definition, ending_bytes, events_of, flat_map, in_bytes, inline_counts, IsMeant}
use Rattle.compile_blocks.proofs.Prelude.{layout_after, Meaning, Nodes, page_view}
use Rattle.compile_blocks.proofs.GfmTableLeft.{IsLeft}
use Rattle.compile_blocks.proofs.gfm_table.more_cells.Given as goal

-- the calls in the cells that are left are still to be counted
abbrev pub invariant-loop-cell : goal.invariant-loop-cell
invariant-loop-cell g l = record {
  same_default : l.page.default_ending ≡ l.initial.page.default_ending;
  counted : AreCounted l.source.checked.bytes.now l.columns;
  printed : (m : Meaning) (ds : List Definition) (kids : Nodes) →
      let names = g.T.Tables.reference_of l.source.tables.now in
      let bytes = l.source.checked.bytes.now in
      let e = l.initial.page.default_ending in
      let pieces = λ (ns : Nodes). flat_map (inline_counts m) (cells_in names bytes ns) in
      IsMeant names l.source ds m → l.row ≡ events_of kids → AreSound bytes kids →
      IsLeft m (ending_bytes e) bytes pieces l.rest (page_view l.page)
      (layout_after m.compile e (page_view l.initial.page) (in_bytes (pieces kids)));
}

abbrev pub decreases-loop-cell : goal.decreases-loop-cell
decreases-loop-cell g l = length l.rest
