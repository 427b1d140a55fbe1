use Rattle.std.proofs.Common.{◌≡◌, drop, vec_len}
use Rattle.parse_inline.proofs.Prelude.{AreHeld, open_around, still_open}
use Rattle.parse_inline.proofs.AllRows.{GoesOver, IsOver}
use Rattle.parse_inline.proofs.rows.push_rows.Given as goal

abbrev pub invariant-loop-row : goal.invariant-loop-row
invariant-loop-row g l = record {
  around : open_around l.open.items l.walk ≡ still_open l.fn.walk;
  held : AreHeld l.open.items (still_open l.walk);
  goes :
      GoesOver l.reading.on.now (g.T.Tables.reference_of l.reading.tables.now) l.reading.content.now l.rows (drop l.row-index l.rows) l.open.items l.fn.walk
      l.walk;
}

abbrev pub invariant-loop-held : goal.invariant-loop-held
invariant-loop-held g l = record {
  around : open_around l.open.items l.walk ≡ still_open l.fn.walk;
  held : AreHeld l.open.items (still_open l.walk);
  over : IsOver l.reading.on.now (g.T.Tables.reference_of l.reading.tables.now) l.reading.content.now l.rows l.open.items l.fn.walk l.walk;
}

abbrev pub decreases-loop-held : goal.decreases-loop-held
decreases-loop-held g l = vec_len l.open
