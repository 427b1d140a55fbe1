use Rattle.html_unsafe_place.specs.What.{tag_names}
use Rattle.html_unsafe_place.proofs.what.is_tag_name.Goals as goal

pub returns : goal.returns
unfolding tag_names
returns c = c.is_one_of.ensures
