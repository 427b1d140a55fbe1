use Rattle.definition_page.specs.GfmTagfilter.{filtered_names}
use Rattle.html_escape.proofs.filter.is_filtered_name.Goals as goal

pub returns : goal.returns
unfolding filtered_names
returns c = c.is_short_one_of.ensures
