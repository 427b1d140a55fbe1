use Rattle.text_search.proofs.Lanes.{class_run_is}
use Rattle.text_search.proofs.class.ByteClassByteTest.lanes_before.Goals as goal

pub returns : goal.returns
returns c = class_run_is c.args.self c.first_set.result c.args.lanes _ _ c.fits-lanes.0 c.by_half.ensures c.by_upper_half.ensures c.first_set.ensures
