use Rattle.std.proofs.Common.{◌∙◌, ◌+◌, ap, drop}
use Rattle.event_check.proofs.Prelude.{aligns_after, IsAt, Node}
use Rattle.event_check.proofs.AlignLaw.{aligns_are}
use Rattle.event_check.proofs.align.table_aligns.Goals as goal

pub returns : goal.returns
returns g c = λ (node : Node) (h : IsAt c.args.events.now c.args.index node).
    c.in_ok-aligns.ensures
    ∙ ap (aligns_after 0) c.events_after.ensures
    ∙ aligns_are c.args.events.now c.args.index node h
