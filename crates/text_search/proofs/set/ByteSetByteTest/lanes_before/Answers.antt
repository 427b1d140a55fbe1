use Rattle.text_search.proofs.Lanes.{run_is}
use Rattle.text_search.proofs.set.ByteSetByteTest.lanes_before.Goals as goal

pub returns : goal.returns
returns c = run_is c.args.self c.first_set.result c.args.lanes _ _ c.fits-lanes.0 c.by_half.ensures c.by_half-2.ensures c.first_set.ensures
