use Rattle.std.proofs.Common.{sym, ◌∙◌}
use Rattle.definition_html.specs.Listing.{frame_names}
use Rattle.html_sanitizer.proofs.Ends.{frame_last}
use Rattle.html_sanitizer.proofs.page.Page.is_in_frame.Goals as goal

pub returns-in-Some : goal.returns-in-Some
unfolding frame_names
returns-in-Some g c =
    c.is_in.ensures
    ∙ frame_last c.args.self.now.level.names.items c.in-Some.field-0-1.now c.in-Some.name.now (sym c.as_slice.ensures.value ∙ c.in-Some.ensures.cases.0)
