use Rattle.definition_block.specs.HtmlNames.{raw_names}
use Rattle.block_starts.proofs.html_flow.is_raw_name.Goals as goal

pub returns : goal.returns
unfolding raw_names
returns c = c.is_short_one_of.ensures
