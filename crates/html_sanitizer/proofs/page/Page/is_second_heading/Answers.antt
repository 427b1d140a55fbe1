use Rattle.std.proofs.Common.{◌&&◌, ap, sym, ◌∙◌}
use Rattle.definition_html.specs.Listing.{is_in, heading_names}
use Rattle.html_sanitizer.proofs.page.Page.is_second_heading.Goals as goal

pub returns-then-self : goal.returns-then-self
returns-then-self g c = c.is_heading.ensures ∙ sym (ap (λ t. t && is_in heading_names c.args.name.now) c.if-self.true)

pub returns-else-self : goal.returns-else-self
returns-else-self g c = sym (ap (λ t. t && is_in heading_names c.args.name.now) c.if-self.false)
