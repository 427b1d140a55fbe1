use Rattle.std.proofs.Common.{arith}
use Rattle.text_search.proofs.Lanes.{pair_run_is}
use Rattle.text_search.proofs.pair.BytePairByteTest.lanes_before.Goals as goal

pub returns : goal.returns
returns c = pair_run_is 16 c.args.self c.first_set.result c.args.lanes (omega arith) c.fits-lanes.0 c.first_set.ensures
