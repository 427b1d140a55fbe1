use Rattle.event_grammar.proofs.RowLaw.{row_law}
use Rattle.event_grammar.proofs.spelled.spelled_row.Goals as goal

pub returns-clause-law : goal.returns-clause-law
returns-clause-law c = row_law c.args.name c.args.form
