use Rattle.std.proofs.Common.{sym, ◌∙◌, arith}
use Rattle.html_escape.proofs.Escapes.{escaped_byte}
use Rattle.html_escape.proofs.url.replacement.Goals as goal

pub returns-else-is_kept-clause-printed : goal.returns-else-is_kept-clause-printed
returns-else-is_kept-clause-printed c =
    escaped_byte c.args.byte c.args.after.now (omega arith) (sym c.is_kept.ensures ∙ c.if-is_kept.false) ∙ sym c.percent_encode_byte.ensures
