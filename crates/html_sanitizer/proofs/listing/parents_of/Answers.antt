use Rattle.definition_html.specs.Listing.{part_rows}
use Rattle.html_sanitizer.proofs.listing.parents_of.Goals as goal

pub returns : goal.returns
unfolding part_rows
returns c = c.parents_by.ensures
