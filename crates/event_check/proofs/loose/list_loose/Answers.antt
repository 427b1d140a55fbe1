use Rattle.std.proofs.Common.{◌∙◌, ◌+◌, ◌&&◌, ap, drop, None, List, ℕ}
use Rattle.engine_events.specs.declared.event.Name.TheVariants as names
use Rattle.event_grammar.specs.declared.slot.Child.TheVariants.{Only}
use Rattle.event_check.proofs.Prelude.{apart_after, are_apart, has_loose_item, IsAt, item_after, kids_of, Node}
use Rattle.event_check.proofs.LooseLaw.{apart_is, items_are, by_first, by_second, by_neither}
use Rattle.event_check.proofs.loose.list_loose.Goals as goal

pub returns-then-are_apart : goal.returns-then-are_apart
returns-then-are_apart g c = λ (node : Node) (h : IsAt c.args.checked.now.events.now c.args.index node).
    let bytes = c.args.checked.now.bytes.now in
    let events = c.args.checked.now.events.now in
    by_first c.are_apart.result (are_apart bytes (Only names.ListItem) None (kids_of node)) (c.args.include_items && has_loose_item bytes (kids_of node))
    (c.are_apart.ensures
    ∙ ap (λ (z : List ℕ). apart_after z (Only names.ListItem) 0 None c.events_after-events.result.now) c.bytes-bytes.ensures
    ∙ ap (apart_after bytes (Only names.ListItem) 0 None) (c.events_after-events.ensures ∙ ap (drop (c.args.index + 1)) c.events.ensures)
    ∙ apart_is bytes (Only names.ListItem) events c.args.index node h)
    c.if-are_apart.true

pub returns-then-include_items : goal.returns-then-include_items
returns-then-include_items g c = λ (node : Node) (h : IsAt c.args.checked.now.events.now c.args.index node).
    let bytes = c.args.checked.now.bytes.now in
    let events = c.args.checked.now.events.now in
    by_second c.are_apart.result (are_apart bytes (Only names.ListItem) None (kids_of node)) c.args.include_items c.has_loose_item.result
    (has_loose_item bytes (kids_of node))
    (c.are_apart.ensures
    ∙ ap (λ (z : List ℕ). apart_after z (Only names.ListItem) 0 None c.events_after-events.result.now) c.bytes-bytes.ensures
    ∙ ap (apart_after bytes (Only names.ListItem) 0 None) (c.events_after-events.ensures ∙ ap (drop (c.args.index + 1)) c.events.ensures)
    ∙ apart_is bytes (Only names.ListItem) events c.args.index node h)
    c.if-are_apart.false c.if-include_items.true
    (c.has_loose_item.ensures
    ∙ ap (λ (z : List ℕ). item_after z 0 c.events_after-events.result.now) c.bytes-bytes.ensures
    ∙ ap (item_after bytes 0) (c.events_after-events.ensures ∙ ap (drop (c.args.index + 1)) c.events.ensures)
    ∙ items_are bytes events c.args.index node h)

pub returns-else-include_items : goal.returns-else-include_items
returns-else-include_items g c = λ (node : Node) (h : IsAt c.args.checked.now.events.now c.args.index node).
    let bytes = c.args.checked.now.bytes.now in
    let events = c.args.checked.now.events.now in
    by_neither c.are_apart.result (are_apart bytes (Only names.ListItem) None (kids_of node)) c.args.include_items (has_loose_item bytes (kids_of node))
    (c.are_apart.ensures
    ∙ ap (λ (z : List ℕ). apart_after z (Only names.ListItem) 0 None c.events_after-events.result.now) c.bytes-bytes.ensures
    ∙ ap (apart_after bytes (Only names.ListItem) 0 None) (c.events_after-events.ensures ∙ ap (drop (c.args.index + 1)) c.events.ensures)
    ∙ apart_is bytes (Only names.ListItem) events c.args.index node h)
    c.if-are_apart.false c.if-include_items.false
