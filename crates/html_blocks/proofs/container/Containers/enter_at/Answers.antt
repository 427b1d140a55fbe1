use Rattle.std.proofs.Common.{[], ◌∷◌, ◌∙◌, ap, List}
use Rattle.std.proofs.lemmas.List.{reverse-append}
use Rattle.std.specs.Prelude.{reverse}
use Rattle.html_looseness.specs.declared.level.Level.{Level}
use Rattle.html_looseness.specs.Levels.{new_level}
use Rattle.html_rows.specs.Printing.{printer_at}
use Rattle.html_blocks.proofs.container.Containers.enter_at.Goals as goal

pub returns : goal.returns
returns g c = λ out.
    let p = c.args.self.now in
    let level = new_level c.args.holder c.args.tight in
    let outer = p.outer.items in
    let at = λ (l : Level) (ls : List Level). printer_at out l ls (reverse p.places.items) in
    ap (λ (l : Level). at l (reverse c.push.new.self.items)) c.new-self.ensures
    ∙ ap (λ (ls : List Level). at level (reverse ls)) c.in_ok-push.ensures.items
    ∙ ap (at level) (reverse-append outer (c.args.around ∷ []))
