use Rattle.markdown_tables.proofs.Codes.{code_number}
use Rattle.markdown_tables.proofs.row.code_value.Goals as goal

pub unreachable-requires : goal.unreachable-requires
unreachable-requires c = c.in-Err.ensures.value (code_number c.args.digits.now c.requires)
