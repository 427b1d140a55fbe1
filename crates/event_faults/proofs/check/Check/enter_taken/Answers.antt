use Rattle.std.proofs.Common.{◌∙◌, refl, sym}
use Rattle.event_faults.proofs.Prelude.{map, open_view, reverse, taken_view}
use Rattle.event_faults.proofs.Leaves.{takes, barred}
use Rattle.event_faults.proofs.check.Check.enter_taken.Goals as goal

pub returns-then-is_barred-clause-moved : goal.returns-then-is_barred-clause-moved
returns-then-is_barred-clause-moved g c =
    let old = c.args.self.now in
    barred old.leaf (open_view old.inner) (map open_view (reverse old.outer.items)) old.spot c.args.at c.args.name c.requires.leaf
    (sym c.is_barred.ensures ∙ c.if-is_barred.true)

pub returns-clause-moved : goal.returns-clause-moved
returns-clause-moved g c =
    let old = c.args.self.now in
    takes old.leaf (open_view old.inner) (open_view c.take.new.self) (map open_view (reverse old.outer.items)) old.spot c.args.at c.args.name
    (taken_view c.args.taken) old.inner.last _ c.requires.leaf (sym c.is_barred.ensures ∙ c.if-is_barred.false)
    c.requires.taken c.take.ensures refl c.in_ok-push.ensures.moved
