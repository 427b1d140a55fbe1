use Rattle.std.proofs.Common.{◌≡◌, List, sym, subst}
use Rattle.event_check.proofs.Prelude.{IsAt, Node}
use Rattle.engine_events.specs.declared.event.Event.{Event}
use Rattle.event_check.proofs.align.gfm_table_align.Goals as goal

pub returns-clause-columns : goal.returns-clause-columns
returns-clause-columns g c = λ (node : Node) (h : IsAt c.args.checked.now.events.now c.args.index node).
    let P : List Event → Type 0 = λ es. IsAt es c.args.index node in
    c.in_ok-aligns.ensures node (subst P (sym c.events.ensures) h)
