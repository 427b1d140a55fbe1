use Rattle.std.proofs.Common.{sym, ap, ◌∙◌}
use Rattle.block_leaves.proofs.Prelude.{is_some_line, leaf_state, leaf_text}
use Rattle.block_definitions.proofs.Cuts.{left_if}
use Rattle.block_leaves.proofs.Changes.{text_left}
use Rattle.block_leaves.proofs.leaves.Leaves.has_text.Goals as goal

pub returns-in-Text : goal.returns-in-Text
returns-in-Text g c = λ containers s h.
    let p = c.args.self.now in
    let text = text_left p containers s c.len.result h (sym (ap leaf_state c.in-Text.is)) c.len.ensures in
    left_if p.lines_in_rows c.len.result text.ls text.left ∙ ap (λ leaf. is_some_line (leaf_text leaf)) (sym text.is)
