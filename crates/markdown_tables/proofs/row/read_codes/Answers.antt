use Rattle.std.proofs.Common.{sym, ◌∙◌}
use Rattle.markdown_tables.proofs.Codes.{one_code, two_codes}
use Rattle.markdown_tables.proofs.row.read_codes.Goals as goal

pub returns-in-None : goal.returns-in-None
returns-in-None c = c.read_one.ensures ∙ sym (one_code c.args.codes.now c.in-None.ensures)

pub returns-in-Some : goal.returns-in-Some
returns-in-Some c = c.read_two.ensures ∙ sym (two_codes c.args.codes.now _ _ c.in-Some.ensures)
