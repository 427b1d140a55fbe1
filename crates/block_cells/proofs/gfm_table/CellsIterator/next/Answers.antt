use Rattle.std.proofs.Common.{sym, ap, ◌∙◌, arith, length}
use Rattle.block_cells.proofs.Prelude.{cell_view, parts_if, without_blank_last}
use Rattle.block_cells.proofs.Parts.{filled_part, followed_part}
use Rattle.block_cells.proofs.gfm_table.CellsIterator.next.Goals as goal
use Rattle.block_cells.proofs.gfm_table.CellsIterator.next.Goals.{else-is_none-via-then-is_none+else-is_blank_part, else-is_none-via-else-is_none}

pub returns-clause-steps : goal.returns-clause-steps
returns-clause-steps c =
    ap (λ l. without_blank_last (parts_if l)) c.in-Some.is ∙ ap without_blank_last c.split_part.ensures
    ∙ elim c.else-is_none.branch [
      | else-is_none-via-then-is_none+else-is_blank_part w ↦ filled_part (cell_view c.split_part.result.0) c.split_part.result.1
          (sym w.is_blank_part.ensures ∙ w.if-is_blank_part.false)
      | else-is_none-via-else-is_none w ↦ followed_part (cell_view c.split_part.result.0) c.split_part.result.1 w.if-is_none.ensures
    ]

pub returns-clause-goes : goal.returns-clause-goes
returns-clause-goes c = let e = ap length (returns-clause-steps c) in record { on = λ _. (tt, tt, omega (arith, e)); keeps = tt; rests = λ _. tt }
