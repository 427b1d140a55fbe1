use Rattle.std.proofs.Common.{◌≡◌, List, length}
use Rattle.compile_blocks.proofs.Prelude.{AreCounted, AreSound, Definition, ending_bytes, events_of, in_bytes, IsMeant, layout_after, Meaning}
use Rattle.compile_blocks.proofs.Prelude.{more_rows_pieces, Nodes, page_view}
use Rattle.compile_blocks.proofs.GfmTableLeft.{IsLeft}
use Rattle.compile_blocks.proofs.gfm_table.more_rows.Given as goal

-- the rows that are left are still to be printed
abbrev pub invariant-loop-row : goal.invariant-loop-row
invariant-loop-row g l = record {
  same_default : l.page.default_ending ≡ l.initial.page.default_ending;
  counted : AreCounted l.source.checked.bytes.now l.columns;
  printed : (m : Meaning) (ds : List Definition) (kids : Nodes) →
      let names = g.T.Tables.reference_of l.source.tables.now in
      let bytes = l.source.checked.bytes.now in
      let e = l.initial.page.default_ending in
      IsMeant names l.source ds m → l.events ≡ events_of kids → AreSound bytes kids →
      IsLeft m (ending_bytes e) bytes (more_rows_pieces names bytes m l.aligns) l.rest (page_view l.page)
      (layout_after m.compile e (page_view l.initial.page) (in_bytes (more_rows_pieces names bytes m l.aligns kids)));
}

abbrev pub decreases-loop-row : goal.decreases-loop-row
decreases-loop-row g l = length l.rest
