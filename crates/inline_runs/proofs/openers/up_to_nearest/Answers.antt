use Rattle.std.proofs.Common.{◌-◌, arith, sym, ◌∙◌}
use Rattle.inline_runs.proofs.Floors.{fits_at, one_less, below_floor}
use Rattle.inline_runs.proofs.openers.up_to_nearest.Goals as goal

pub returns-then-opener-floor-clause-none : goal.returns-then-opener-floor-clause-none
returns-then-opener-floor-clause-none c =
    λ k h lt. below_floor c.args.openers.now c.args.want.now c.args.floor c.loop-count.count _ c.loop-count-test.true c.loop-count.invariant.within
    c.if-opener-floor.true c.requires
    c.loop-count.invariant.none k lt

pub returns-then-fits-clause-within : goal.returns-then-fits-clause-within
returns-then-fits-clause-within c = c.loop-count.invariant.within

pub returns-then-fits-clause-none : goal.returns-then-fits-clause-none
returns-then-fits-clause-none c = c.loop-count.invariant.none

pub returns-then-fits-clause-fits : goal.returns-then-fits-clause-fits
returns-then-fits-clause-fits c =
    λ some. fits_at c.args.openers.now c.args.want.now (c.loop-count.count - 1) _ (omega arith) (sym c.fits.ensures ∙ c.if-fits.true)

pub loop-count-preserved : goal.loop-count-preserved
loop-count-preserved c = record {
  within = omega arith;
  none =
      one_less c.args.openers.now c.args.want.now c.loop-count.count _ c.loop-count-test.true c.loop-count.invariant.within
      (sym c.fits.ensures ∙ c.if-fits.false)
      c.loop-count.invariant.none;
}
