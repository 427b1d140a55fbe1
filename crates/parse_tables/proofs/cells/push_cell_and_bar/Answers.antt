use Rattle.parse_tables.proofs.Prelude.{cell_view, reading_by}
use Rattle.parse_tables.proofs.CellsWritten.{first_alone, first_with_bar, token_ended}
use Rattle.parse_tables.proofs.cells.push_cell_and_bar.Goals as goal

pub returns-in-Punctuation-clause-written : goal.returns-in-Punctuation-clause-written
returns-in-Punctuation-clause-written g c =
    token_ended c.token.result c.token.ensures.stays c.token.ensures.end c.token.ensures.written
    (λ token ds knows cs.
    first_with_bar (reading_by g.T.Tables c.args.texts.now ds) (cell_view c.args.cell.now) cs c.args.walk.now c.push_cell.new.walk c.token.new.self
    c.in-Punctuation.is (c.in_ok-push_cell.ensures.written ds knows) token)

pub returns-in_default-clause-written : goal.returns-in_default-clause-written
returns-in_default-clause-written g c =
    λ ds knows cs.
    first_alone (reading_by g.T.Tables c.args.texts.now ds) (cell_view c.args.cell.now) cs c.args.walk.now c.push_cell.new.walk c.in_default.not-Punctuation
    (c.in_ok-push_cell.ensures.written ds knows)
