use Rattle.std.proofs.Common.{◌+◌, sym, ap, ◌∙◌, arith}
use Rattle.block_starts.proofs.Views.{indent_view, white_view}
use Rattle.block_starts.proofs.cursor.Cursor.indent.Goals as goal

pub overflow_add-result : goal.overflow_add-result
overflow_add-result c = let s = c.args.self in omega (arith, white_view s, s.fits, s.few)

pub returns-clause-same : goal.returns-clause-same
returns-clause-same c = let s = c.args.self in ap (λ n. s.owed + n) s.wide ∙ sym (indent_view s)

pub returns-clause-fits : goal.returns-clause-fits
returns-clause-fits c = let s = c.args.self in omega (arith, white_view s, s.fits, s.few)
