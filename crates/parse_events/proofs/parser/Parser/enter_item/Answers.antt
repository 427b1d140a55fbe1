use Rattle.std.proofs.Common.{true, refl, rules}
use Rattle.engine_events.specs.declared.event.Name.TheVariants as n
use Rattle.parse_events.specs.declared.opened.Opened.TheVariants as held
use Rattle.parse_events.proofs.Held.{held_may, start_kept}
use Rattle.parse_events.proofs.ListRows.{item_started, place_taken}
use Rattle.parse_events.proofs.parser.Parser.enter_item.Goals as goal

pub returns-clause-kept : goal.returns-clause-kept
returns-clause-kept g c =
    let list = c.in_ok-in_list.ensures.kept in
    start_kept c.open_if.result held.Item c.in_ok-starts.starts c.args.self.now c.in_list.new.self
    (record c.in_list.new.self { walk = c.start_item.new.self; items = c.push.new.self; first = true }) c.open_if.new.self
    (record { around = list.around; held = list.held }) refl c.in_ok-starts.ensures.open c.open_if.ensures

pub returns-clause-goes_on : goal.returns-clause-goes_on
returns-clause-goes_on g c =
    let list = c.in_ok-in_list.ensures.begins in
    item_started c.open_if.result c.args.list c.args.self.now c.in_list.new.self
    (record c.in_list.new.self { walk = c.start_item.new.self; items = c.push.new.self; first = true }) c.open_if.new.self c.unwrap_or_default-place.result
    c.pop.new.self.items c.in_ok-starts.starts refl c.in_ok-push.ensures.items refl refl
    (place_taken c.pop.result _ c.unwrap_or_default-place.result c.args.self.now.places.items c.pop.new.self.items _ _ c.pop.ensures.items c.pop.ensures.cases
    c.pop.ensures.rest c.unwrap_or_default-place.ensures (λ is. search rules)) list.begins list.items list.places c.in_ok-starts.ensures.starts
    c.in_ok-starts.ensures.written c.open_if.ensures

pub start_item-requires-clause-child : goal.start_item-requires-clause-child
start_item-requires-clause-child g c = c.in_ok-in_list.ensures.begins.item

pub start_item-requires-clause-space : goal.start_item-requires-clause-space
start_item-requires-clause-space g c = held_may c.in_list.new.self.open.items _ n.SpaceOrTab c.in_ok-in_list.ensures.kept.held refl
