use Rattle.std.proofs.Common.{refl}
use Rattle.block_starts.specs.View.{rest_of}
use Rattle.block_starts.proofs.cursor.Cursor.at.Goals as goal

pub returns : goal.returns
unfolding rest_of
returns c = refl
