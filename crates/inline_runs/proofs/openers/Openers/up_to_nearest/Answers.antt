use Rattle.std.proofs.Common.{sym, ◌∙◌}
use Rattle.inline_runs.proofs.Prelude.{placed_view}
use Rattle.inline_runs.proofs.Eligible.{searched, none_for}
use Rattle.inline_runs.proofs.openers.Openers.up_to_nearest.Goals as goal

pub returns-then-not-can_close-clause-nearest : goal.returns-then-not-can_close-clause-nearest
returns-then-not-can_close-clause-nearest g c =
    none_for c.args.self.now.openers.items (placed_view c.args.closer.now) (sym c.can_close.ensures ∙ c.if-not-can_close.true)

pub returns-in_ok-raise-clause-nearest : goal.returns-in_ok-raise-clause-nearest
returns-in_ok-raise-clause-nearest g c =
    searched c.args.self.now.openers.items c.deref.result.now (placed_view c.args.closer.now) c.want_of-want.result c.up_to_nearest-count.result
    c.deref.ensures.value c.want_of-want.ensures
    c.up_to_nearest-count.ensures.within c.up_to_nearest-count.ensures.none c.up_to_nearest-count.ensures.fits
    (sym c.can_close.ensures ∙ c.if-not-can_close.false)

pub returns-else-count-eq0-clause-nearest : goal.returns-else-count-eq0-clause-nearest
returns-else-count-eq0-clause-nearest g c =
    searched c.args.self.now.openers.items c.deref.result.now (placed_view c.args.closer.now) c.want_of-want.result c.up_to_nearest-count.result
    c.deref.ensures.value c.want_of-want.ensures
    c.up_to_nearest-count.ensures.within c.up_to_nearest-count.ensures.none c.up_to_nearest-count.ensures.fits
    (sym c.can_close.ensures ∙ c.if-not-can_close.false)
