use Rattle.std.proofs.Common.{◌≡◌, Bool, true, List, ◌∷◌, ◌++◌, reverse, refl, ap, ◌∙◌, subst}
use Rattle.compile_html.proofs.Prelude.{Around, block_of, blocks_from, Event, events_of, first_pieces, first_sound, is_document, is_leaf, LeafPlace}
use Rattle.compile_html.proofs.Prelude.{left_events, Level, level_document, level_of, level_passed, Node, Opened, opened, passed_events, Printer, Prints}
use Rattle.compile_html.proofs.Prelude.{Reads, start_of, text_of, with_siblings}
use Rattle.engine_events.specs.declared.event.Kind.TheVariants.{Exit}
use Rattle.compile_raw.specs.Sound.{StandsAt}
use Rattle.compile_html.proofs.Frames.{holder_document}
use Rattle.compile_html.proofs.Going.{entering, after_enter, leaf_step}
use Rattle.compile_html.proofs.Reading.{reads_node, rest_after, from_index}
use Rattle.compile_html.proofs.printer.Printer.leaf.Goals as goal

pub returns-clause-printed : goal.returns-clause-printed
returns-clause-printed g c = λ m ds whole meant at kind begun leaf goes.
    let names = g.T.Tables.reference_of c.args.source.now.tables.now in
    let bytes = c.args.source.now.checked.bytes.now in
    let events = c.args.source.now.checked.events.now in
    let event = c.args.event.now in
    let after = c.args.after.now in
    let old = c.args.self.now in
    let new : Printer _ = record { leaves = c.leaf.new.self; level = c.pass.new.self; outer = old.outer; loose = old.loose } in
    let e = entering names bytes m events whole old event after kind goes in
    let node : Node = Around event e.kids e.exit in
    let own = (first_sound bytes node e.ns e.stands.open_.1.sound).0 in
    let back = left_events (with_siblings e.f e.ns ∷ e.fs) in
    let exits : e.exit.kind ≡ Exit = own.is_node.1 in
    let tail : after ≡ events_of e.kids ++ e.exit ∷ back = after_enter event after e.f e.kids e.ns e.exit e.fs e.stands.events in
    let found = c.node_after.ensures in
    let reads : Reads c.node_after.result.0 node
    = reads_node event e.exit e.kids after back own.is_node.3 exits tail c.node_after.result.0 found.name found.start found.end found.inside in
    let rest : c.node_after.result.1.now ≡ back = found.after ∙ rest_after event e.exit e.kids after back own.is_node.3 exits tail in
    let stands : StandsAt events c.args.index node
    = (back, from_index events e.front (event ∷ after) c.args.index e.split at ∙ e.stands.events ∙ passed_events e.f node e.ns e.fs) in
    let inner = blocks_from names bytes (start_of event.name) e.kids in
    let laid = c.in_ok-leaf.ensures.printed m ds event e.exit e.kids inner meant reads own c.kind_of-kind.ensures (ap is_leaf c.kind_of-kind.ensures ∙ leaf) stands in
    let level : old.level ≡ level_of e.f = ap (λ (o : Opened). o.level) e.stands.levels in
    let of_level : Level → LeafPlace = λ l. record { top = level_document l.holder; tight = l.tight; silent = l.silent } in
    let of_top : Bool → LeafPlace = λ t. record { top = t; tight = e.f.tight; silent = e.f.silent } in
    let place : c.leaf_place-place.result ≡ of_top (is_document e.f.holder)
    = c.leaf_place-place.ensures ∙ ap of_level level ∙ ap of_top (holder_document e.f.holder) in
    let P : LeafPlace → Type 0
    = λ p. Prints m.compile old new (first_pieces m p (block_of names bytes p.top event.name (text_of bytes node) e.kids inner)) in
    leaf_step names bytes m e begun new c.node_after.result.1.now leaf rest
    (ap (λ (l : Level). opened l (reverse old.outer.items)) (c.pass.ensures ∙ ap (level_passed old.level) c.kind_of-kind.ensures)) refl
    c.in_ok-leaf.ensures.default (subst P place laid)
