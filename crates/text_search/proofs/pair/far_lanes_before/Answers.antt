use Rattle.std.proofs.Common.{arith}
use Rattle.text_search.proofs.Lanes.{pair_run_is}
use Rattle.text_search.proofs.pair.far_lanes_before.Goals as goal

pub returns : goal.returns
returns c = pair_run_is 32 c.args.pair c.first_set.result c.args.lanes (omega arith) c.fits-lanes.0 c.first_set.ensures
