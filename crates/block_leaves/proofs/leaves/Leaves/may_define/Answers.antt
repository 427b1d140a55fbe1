use Rattle.std.proofs.Common.{List, ap, ◌∙◌, subst}
use Rattle.block_leaves.proofs.Prelude.{AreLines, BlockLine, content_of, definition_at, own_lines, Text}
use Rattle.block_leaves.proofs.DefinitionLemmas.{cut_not}
use Rattle.block_leaves.proofs.Changes as changes
use Rattle.block_leaves.proofs.leaves.Leaves.may_define.Goals as goal

pub returns-then-on-clause-uncut : goal.returns-then-on-clause-uncut
returns-then-on-clause-uncut g c = λ none containers around kids ls clean h.
    let p = c.args.self.now in
    let lines = changes.lines_here p containers around kids (Text ls) h c.deref.result.now c.deref.ensures.value in
    cut_not c.args.on.now ls (ap (λ (x : List BlockLine). definition_at (content_of (own_lines x))) lines
    ∙ c.may_begin.ensures.none none (subst AreLines lines clean))
