use Rattle.std.proofs.Common.{ap, ◌∷◌, ◌++◌, [], string_bytes, ◌∙◌}
use Rattle.html_sanitizer.specs.declared.page.Level.{Level}
use Rattle.html_sanitizer.proofs.Levels.{level_entered}
use Rattle.html_sanitizer.proofs.page.Page.enter.Goals as goal

pub returns : goal.returns
returns g c =
    let items = c.args.self.now.around.items in
    level_entered c.args.name.now (string_bytes c.args.self.now.out) c.args.self.now.level c.replace-level.new.dest items c.push.new.self.items
    (ap (λ (l : Level g.row.A.Denot). l.in_heading) c.replace-level.ensures.after ∙ c.makes_heading.ensures)
    (ap (λ (l : Level g.row.A.Denot). l.names.items) c.replace-level.ensures.after ∙ c.new.ensures.items)
    (c.in_ok-push.ensures.items ∙ ap (λ l. items ++ l ∷ []) c.replace-level.ensures.value)
