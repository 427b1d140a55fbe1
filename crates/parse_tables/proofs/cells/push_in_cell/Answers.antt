use Rattle.std.proofs.Common.{List, ◌++◌, ℕ, replicate, sym, ap, subst, ◌∙◌}
use Rattle.parse_tables.proofs.Prelude.{cell_view, is_blank, on_ok_weaker, Piece, reading_by, tab_column, WritesInCellHere}
use Rattle.parse_tables.proofs.CellsWritten.{in_blank_cell, in_filled_cell, token_ended}
use Rattle.parse_tables.proofs.cells.push_in_cell.Goals as goal

pub returns-then-is_blank-clause-written : goal.returns-then-is_blank-clause-written
returns-then-is_blank-clause-written g c =
    let line : Piece = c.args.cell.now.line in
    let text = c.bytes_only-text in
    let codes = ap (λ (xs : List ℕ). replicate line.owed tab_column ++ xs) (sym text.ensures.same) in
    token_ended c.token.result c.token.ensures.stays c.token.ensures.end c.token.ensures.written
    (λ token ds knows.
    in_blank_cell (reading_by g.T.Tables c.args.texts.now ds) (cell_view c.args.cell.now) line.owed text.result.now codes text.ensures.bytes c.args.walk.now
    c.token.new.self (ap is_blank (sym c.as_bytes.ensures.value) ∙ sym c.is_blank.ensures ∙ c.if-is_blank.true) token)

pub returns-else-is_blank-clause-written : goal.returns-else-is_blank-clause-written
returns-else-is_blank-clause-written g c =
    let line : Piece = c.args.cell.now.line in
    let text = c.bytes_only-text in
    let cell = cell_view c.args.cell.now in
    let codes = ap (λ (xs : List ℕ). replicate line.owed tab_column ++ xs) (sym text.ensures.same) in
    on_ok_weaker c.push_cell_text.result
    (λ written ds knows.
    let r = reading_by g.T.Tables c.args.texts.now ds in
    in_filled_cell r cell line.owed text.result.now codes text.ensures.bytes c.args.walk.now c.push_cell_text.new.walk
    (subst (λ (xs : List ℕ). WritesInCellHere r cell xs c.args.walk.now c.push_cell_text.new.walk) (sym text.ensures.same) (written ds knows)))
    c.push_cell_text.ensures.written
