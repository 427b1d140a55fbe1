use Rattle.std.proofs.Common.{sym, ◌∙◌}
use Rattle.block_starts.specs.View.{rest_of}
use Rattle.block_starts.proofs.MarkLemmas.{only_footnote}
use Rattle.block_starts.proofs.container.starts.Goals as goal

pub returns-else-may_start : goal.returns-else-may_start
returns-else-may_start c =
    c.footnote_start.ensures ∙ only_footnote c.args.on.now c.args.interrupts (rest_of c.args.rest) (sym c.may_start.ensures ∙ c.if-may_start.false)
