use Rattle.std.proofs.Common.{◌≡◌, ℕ, sym, subst, ◌∙◌}
use Rattle.std.specs.Prelude.{OnOk}
use Rattle.definition_html.specs.State.{ended}
use Rattle.html_sanitizer.specs.Page.{page_state}
use Rattle.html_sanitizer.proofs.Ends.{length_open}
use Rattle.html_sanitizer.proofs.page.Page.end_all.Goals as goal

pub returns : goal.returns
returns g c =
    subst (λ (n : ℕ). OnOk c.end.result (page_state c.end.new.self ≡ ended n (page_state c.args.self.now)))
    (c.len-count.ensures ∙ c.args.self.now.level.names.ok.0 ∙ sym (length_open c.args.self.now.level.names.items)) c.end.ensures
