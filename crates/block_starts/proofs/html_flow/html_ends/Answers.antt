use Rattle.std.proofs.Common.{◌∙◌, sym}
use Rattle.block_starts.proofs.HtmlEnds.{no_end}
use Rattle.block_starts.proofs.html_flow.html_ends.Goals as goal

pub returns-else-holds_greater_than : goal.returns-else-holds_greater_than
returns-else-holds_greater_than c =
    c.if-holds_greater_than.false ∙ sym (no_end c.args.kind c.args.line.now (sym c.holds_greater_than.ensures ∙ c.if-holds_greater_than.false))
