use Rattle.std.proofs.Common.{◌∙◌, ◌+◌, ap, drop, None, List, ℕ}
use Rattle.event_grammar.specs.declared.slot.Child.TheVariants.{Block}
use Rattle.event_check.proofs.Prelude.{apart_after, IsAt, Node}
use Rattle.event_check.proofs.LooseLaw.{apart_is}
use Rattle.event_check.proofs.loose.list_item_loose.Goals as goal

pub returns : goal.returns
returns g c = λ (node : Node) (h : IsAt c.args.checked.now.events.now c.args.index node).
    c.are_apart.ensures
    ∙ ap (λ (z : List ℕ). apart_after z Block 0 None c.events_after.result.now) c.bytes.ensures
    ∙ ap (apart_after c.args.checked.now.bytes.now Block 0 None) (c.events_after.ensures ∙ ap (drop (c.args.index + 1)) c.events.ensures)
    ∙ apart_is c.args.checked.now.bytes.now Block c.args.checked.now.events.now c.args.index node h
