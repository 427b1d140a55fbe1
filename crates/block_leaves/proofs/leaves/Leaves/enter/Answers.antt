use Rattle.std.proofs.Common.{sym, subst}
use Rattle.std.specs.Prelude.{OnOk}
use Rattle.markdown_options.specs.declared.container.Container.{Container}
use Rattle.block_leaves.proofs.Prelude.{container_view}
use Rattle.block_leaves.specs.View.{Enters}
use Rattle.block_leaves.proofs.leaves.Leaves.enter.Goals as goal

pub returns-in-Footnote : goal.returns-in-Footnote
returns-in-Footnote g c =
    subst (λ (x : Container). OnOk c.enter_footnote.result (Enters c.args.self.now c.enter_footnote.new.self (container_view x)))
    (sym c.in-Footnote.is) c.enter_footnote.ensures
