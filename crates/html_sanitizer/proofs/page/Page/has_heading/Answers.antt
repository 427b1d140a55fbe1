use Rattle.std.proofs.Common.{ap, ◌∙◌}
use Rattle.definition_html.specs.Listing.{heading_names}
use Rattle.definition_html.specs.State.{count_to}
use Rattle.html_safe_page.specs.Views.{open_names}
use Rattle.html_sanitizer.proofs.Levels.{any_open}
use Rattle.html_sanitizer.proofs.page.Page.has_heading.Goals as goal

pub returns : goal.returns
unfolding heading_names
returns g c =
    any_open heading_names (open_names c.args.self.now.level.names.items) c.count_to.result
    (c.count_to.ensures ∙ ap (λ x. count_to heading_names (open_names x)) c.as_slice.ensures.value)
