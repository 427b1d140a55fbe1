use Rattle.std.proofs.Common.{◌≡◌, ◌≤◌, vec_len}
use Rattle.html_page.proofs.Prelude.{ArePrintable, document_by, ending_bytes, KnowsTargets, piece_lines, print_all, printer_view, rows_size, rows_value}
use Rattle.html_page.proofs.Prelude.{Targets}
use Rattle.html_page.proofs.printer.Printer.parts.Given as goal

-- what is printed of the rows that are left, after what is printed so far, is what is printed of all
abbrev pub invariant-loop-rows : goal.invariant-loop-rows
invariant-loop-rows g l = record {
  same_default : l.self.leaves.page.default_ending ≡ l.initial.self.leaves.page.default_ending;
  enough : rows_size l.rows.items ≤ vec_len l.pieces;
  printable : ArePrintable (rows_value l.rows.items (piece_lines l.pieces.items)).rows;
  printed : (ds : Targets) → KnowsTargets l.texts ds →
      let d = document_by g.T.Tables l.texts ds in
      let default = ending_bytes l.initial.self.leaves.page.default_ending in
      let all = (rows_value l.initial.rows.items (piece_lines l.initial.pieces.items)).rows in
      print_all d default (printer_view l.self) (rows_value l.rows.items (piece_lines l.pieces.items)).rows
      ≡ print_all d default (printer_view l.initial.self) all;
}

abbrev pub decreases-loop-rows : goal.decreases-loop-rows
decreases-loop-rows g l = vec_len l.rows
