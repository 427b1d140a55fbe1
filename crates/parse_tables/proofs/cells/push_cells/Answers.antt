use Rattle.std.proofs.Common.{refl, ◌∙◌}
use Rattle.parse_tables.proofs.Prelude.{cell_view, cells_left, reading_by}
use Rattle.parse_tables.proofs.CellsWritten.{all_cells, cells_so_far, no_cells_yet}
use Rattle.parse_tables.proofs.cells.push_cells.Goals as goal

pub loop-cell-init : goal.loop-cell-init
loop-cell-init g c = record {
  «open» = refl;
  so_far = λ ds knows. no_cells_yet (reading_by g.T.Tables c.args.texts.now ds) c.args.walk.now (cells_left c.args.cells);
}

pub loop-cell-preserved : goal.loop-cell-preserved
loop-cell-preserved g c =
    let pushed = c.in_ok-push_cell_and_bar.ensures in
    record {
      «open» = pushed.open ∙ c.loop-cell.invariant.open;
      so_far = λ ds knows.
          cells_so_far (reading_by g.T.Tables c.args.texts.now ds) c.args.walk.now c.loop-cell.walk c.push_cell_and_bar.new.walk (cells_left c.args.cells)
          (cells_left c.loop-cell.left) (cell_view c.in-Some.cell) (cells_left c.next.new.self) c.in-Some.ensures.steps (c.loop-cell.invariant.so_far ds knows)
          (pushed.written ds knows (cells_left c.next.new.self));
    }

pub returns-clause-written : goal.returns-clause-written
returns-clause-written g c = λ ds knows.
    all_cells (reading_by g.T.Tables c.args.texts.now ds) c.args.walk.now c.loop-cell.walk (cells_left c.args.cells) (cells_left c.loop-cell.left)
    c.in_default.ensures.steps.0 (c.loop-cell.invariant.so_far ds knows)
