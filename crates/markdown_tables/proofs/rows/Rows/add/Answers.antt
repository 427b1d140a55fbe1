use Rattle.markdown_tables.proofs.Putting.{some_text}
use Rattle.markdown_tables.proofs.rows.Rows.add.Goals as goal

pub put-requires-clause-nonempty : goal.put-requires-clause-nonempty
put-requires-clause-nonempty g c = some_text _ c.args.row.characters c.in_ok-text.ensures
