use Rattle.std.proofs.Common.{◌||◌, ap, sym, ◌∙◌}
use Rattle.std.specs.List.{list_any}
use Rattle.definition_html.specs.Listing.{is_in, heading_names}
use Rattle.html_safe_page.specs.Views.{open_names}
use Rattle.html_sanitizer.proofs.page.Page.makes_heading.Goals as goal

pub returns-then-self : goal.returns-then-self
returns-then-self g c =
    let more = list_any (is_in heading_names) (open_names c.args.self.now.level.names.items) in
    sym (ap (λ t. t || is_in heading_names c.args.name.now || more) c.if-self.true)

pub returns-then-is_heading : goal.returns-then-is_heading
returns-then-is_heading g c =
    let more = list_any (is_in heading_names) (open_names c.args.self.now.level.names.items) in
    sym (ap (λ t. t || is_in heading_names c.args.name.now || more) c.if-self.false
    ∙ ap (λ t. t || more) (sym c.is_heading.ensures ∙ c.if-is_heading.true))

pub returns : goal.returns
returns g c =
    let more = list_any (is_in heading_names) (open_names c.args.self.now.level.names.items) in
    c.has_heading.ensures
    ∙ sym (ap (λ t. t || is_in heading_names c.args.name.now || more) c.if-self.false
    ∙ ap (λ t. t || more) (sym c.is_heading.ensures ∙ c.if-is_heading.false))
