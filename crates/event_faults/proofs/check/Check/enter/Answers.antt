use Rattle.event_faults.proofs.Prelude.{map, open_view, reverse}
use Rattle.event_faults.proofs.Leaves.{stays}
use Rattle.event_faults.proofs.check.Check.enter.Goals as goal

pub returns-in-Some-clause-moved : goal.returns-in-Some-clause-moved
returns-in-Some-clause-moved g c =
    let old = c.args.self.now in
    stays old.leaf _ (open_view old.inner) (map open_view (reverse old.outer.items)) old.spot c.args.at c.args.name c.in-Some.is
