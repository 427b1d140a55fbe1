use Rattle.std.proofs.Common.{◌≡◌, [], ap, ◌∙◌, subst, false}
use Rattle.std.specs.Result.{OnOk}
use Rattle.html_bytes.specs.Layout.{LayoutState}
use Rattle.html_looseness.specs.declared.level.Level.{Level}
use Rattle.html_looseness.specs.declared.level.Holder.TheVariants as holder
use Rattle.html_looseness.specs.Levels.{after_footnote}
use Rattle.html_leaves.specs.Prints.{page_view}
use Rattle.html_rows.specs.Printing.{within_at}
use Rattle.html_blocks.specs.ContainersView.{containers_at}
use Rattle.html_blocks.proofs.container.Containers.enter_footnote.Goals as goal

pub returns-clause-printed : goal.returns-clause-printed
returns-clause-printed g c =
    let p = c.args.self.now in
    let out = page_view c.start_footnote.new.self in
    subst (λ x. OnOk c.enter_at.result (containers_at out c.enter_at.new.self ≡ x))
    (ap (λ (l : Level). within_at l holder.Footnote false (containers_at out p)) (c.pass.ensures [])
    ∙ ap (λ (out : LayoutState). within_at (after_footnote p.level) holder.Footnote false (containers_at out p)) c.in_ok-start_footnote.ensures.printed)
    (c.enter_at.ensures out)
