use Rattle.definition_block.specs.HtmlNames.{block_names}
use Rattle.block_starts.proofs.html_flow.is_block_name.Goals as goal

pub returns : goal.returns
unfolding block_names
returns c = c.is_one_of.ensures
