use Rattle.parse_slots.proofs.Law.{filled_lists_match}
use Rattle.parse_slots.proofs.lists_law.Goals as goal

pub returns : goal.returns
returns c = filled_lists_match
