use Rattle.std.proofs.Common.{◌∙◌, refl, sym}
use Rattle.event_faults.proofs.Prelude.{map, open_view, reverse}
use Rattle.event_faults.proofs.Leaves.{stands}
use Rattle.event_faults.proofs.check.Check.enter_between.Goals as goal

pub returns-clause-moved : goal.returns-clause-moved
returns-clause-moved g c =
    let old = c.args.self.now in
    stands old.leaf (open_view old.inner) (map open_view (reverse old.outer.items)) old.spot c.args.at c.args.name old.inner.last _ c.requires.leaf
    (sym c.is_barred.ensures ∙ c.if-is_barred.false) c.requires.taken
    (sym c.stands_between.ensures ∙ c.if-not-stands_between.false) refl c.in_ok-push.ensures.moved
