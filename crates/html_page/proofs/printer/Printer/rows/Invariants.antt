use Rattle.std.proofs.Common.{◌≡◌, ◌+◌, take, drop}
use Rattle.html_page.proofs.Prelude.{document_by, ending_bytes, KnowsTargets, piece_lines, print_all, printer_view, rows_size, rows_value, Targets}
use Rattle.html_page.proofs.printer.Printer.rows.Given as goal

-- the rows so far are printed, and the others take their lines from those that are left
abbrev pub invariant-loop-row : goal.invariant-loop-row
invariant-loop-row g l = record {
  same_default : l.self.leaves.page.default_ending ≡ l.initial.self.leaves.page.default_ending;
  printed : (ds : Targets) → KnowsTargets l.texts ds →
      printer_view l.self ≡ print_all
      (document_by g.T.Tables l.texts ds)
      (ending_bytes l.initial.self.leaves.page.default_ending) (printer_view l.initial.self)
      (rows_value (take l.row-index l.rows) (piece_lines l.pieces)).rows;
  left : (rows_value (take l.row-index l.rows) (piece_lines l.pieces)).left ≡ piece_lines (drop l.taken l.pieces);
  size : l.taken + rows_size (drop l.row-index l.rows) ≡ rows_size l.rows;
}
