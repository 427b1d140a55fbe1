use Rattle.std.proofs.Common.{[], List, sym, ap, ◌∙◌, subst}
use Rattle.block_leaves.proofs.Prelude.{AreRead, BlockLine, Blocks, close_leaf, join, join-nil, spine, Text}
use Rattle.block_leaves.proofs.Going.{closed_nothing, no_text}
use Rattle.block_leaves.proofs.leaves.Leaves.close_text.Goals as goal

pub returns-then-not-has_text : goal.returns-then-not-has_text
returns-then-not-has_text g c = λ ls _ _ containers around kids h.
    let p = c.args.self.now in
    let on = c.args.on.now in
    subst (λ (xs : List BlockLine). AreRead p containers (spine around kids (Text xs)) → AreRead p containers (spine around (join kids (close_leaf on (Text xs))) (Text [])))
    (sym (no_text ls (sym (c.has_text.ensures containers (spine around kids (Text ls)) h) ∙ c.if-not-has_text.true)))
    (subst (λ (bs : Blocks). AreRead p containers (spine around bs (Text []))) (sym (ap (join kids) (closed_nothing on.definition) ∙ join-nil kids)))
    h
