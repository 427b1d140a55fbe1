use Rattle.text_search.proofs.Lanes.{halves_ok, looked_up}
use Rattle.text_search.proofs.set.by_half.Goals as goal

pub swizzle : goal.swizzle
swizzle c = halves_ok c.args.lanes c.fits-lanes.0

pub returns : goal.returns
returns c = looked_up c.args.table c.args.lanes c.fits-lanes.0
