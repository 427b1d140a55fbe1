use Rattle.std.proofs.Common.{arith}
use Rattle.std.proofs.lemmas.Grind.{common_steps}
use Rattle.engine_edits.proofs.Rising.{rising_more}
use Rattle.engine_edits.proofs.relink.push_places_from.Goals as goal

pub loop-offset-preserved : goal.loop-offset-preserved
loop-offset-preserved g c = let e = rising_more c.args.first c.loop-offset.offset in grind (arith, common_steps)
