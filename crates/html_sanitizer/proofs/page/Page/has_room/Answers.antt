use Rattle.std.proofs.Common.{sym, ap, ◌∙◌}
use Rattle.std.specs.Prelude.{nat_lt}
use Rattle.html_sanitizer.proofs.Ends.{length_open}
use Rattle.html_sanitizer.proofs.page.Page.has_room.Goals as goal

pub returns : goal.returns
returns g c =
    ap (λ n. nat_lt n 50) (c.len.ensures ∙ c.args.self.now.level.names.ok.0 ∙ sym (length_open c.args.self.now.level.names.items))
