use Rattle.std.proofs.Common.{sym, ap, ◌∙◌}
use Rattle.block_leaves.proofs.Prelude.{At, is_nothing, leaf_state}
use Rattle.block_leaves.proofs.Changes.{nothing_is_open, text_left}
use Rattle.block_leaves.proofs.leaves.Leaves.is_nothing.Goals as goal

pub returns-in-Text : goal.returns-in-Text
returns-in-Text g c = λ containers s h.
    let p = c.args.self.now in
    let text = text_left p containers s c.len.result h (sym (ap leaf_state c.in-Text.is)) c.len.ensures in
    nothing_is_open p.lines_in_rows c.len.result text.ls text.left ∙ ap (λ leaf. is_nothing (At leaf)) (sym text.is)
