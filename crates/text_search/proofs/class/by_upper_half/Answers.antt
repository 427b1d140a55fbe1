use Rattle.text_search.proofs.Lanes.{upper_halves_ok, looked_up_by_upper}
use Rattle.text_search.proofs.class.by_upper_half.Goals as goal

pub swizzle : goal.swizzle
swizzle c = upper_halves_ok c.args.lanes c.fits-lanes.0 c.fits-lanes.1

pub returns : goal.returns
returns c = looked_up_by_upper c.args.table c.args.lanes c.fits-lanes.0 c.fits-lanes.1
