use Rattle.parse_slots.proofs.Law.{rows_are_filled}
use Rattle.parse_slots.proofs.rows_law.Goals as goal

pub returns : goal.returns
returns c = rows_are_filled
