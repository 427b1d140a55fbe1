use Rattle.std.proofs.Common.{◌≡◌, true, false, List, ◌∷◌, ◌++◌, reverse, refl, sym, ap, ◌∙◌}
use Rattle.engine_events.specs.declared.event.Kind.TheVariants.{Exit}
use Rattle.compile_html.proofs.Prelude.{Around, begins, events_of, first_sound, has_begun, left_events, Level, Node, Opened, opened, Printer, with_siblings}
use Rattle.compile_html.proofs.Frames.{begins_is}
use Rattle.compile_html.proofs.Going.{entering, after_enter, content_step, pass_step}
use Rattle.compile_html.proofs.Reading.{rest_after}
use Rattle.compile_html.proofs.printer.Printer.enter.Goals as goal

pub returns-then-begin-clause-printed : goal.returns-then-begin-clause-printed
returns-then-begin-clause-printed g c = λ m ds whole meant at kind goes.
    let names = g.T.Tables.reference_of c.args.source.now.tables.now in
    let bytes = c.args.source.now.checked.bytes.now in
    let events = c.args.source.now.checked.events.now in
    let event = c.args.event.now in
    let after = c.args.after.now in
    let old = c.args.self.now in
    let new : Printer _ = record { leaves = old.leaves; level = c.begin.new.self; outer = old.outer; loose = old.loose } in
    let e = entering names bytes m events whole old event after kind goes in
    let begun : begins old.level event.name ≡ true = sym c.begin.ensures.begins ∙ c.if-begin.true in
    let has : has_begun e.f event.name ≡ true
    = begins_is e.f event.name ∙ ap (λ (o : Opened). begins o.level event.name) (sym e.stands.levels) ∙ begun in
    c.enter_content.ensures.printed m ds whole meant at kind (ap (λ (l : Level). l.begun) c.begin.ensures.level ∙ begun)
    (content_step names bytes m e new has (ap (λ (l : Level). opened l (reverse old.outer.items)) c.begin.ensures.level) refl refl)

pub returns-else-begin-clause-printed : goal.returns-else-begin-clause-printed
returns-else-begin-clause-printed g c = λ m ds whole meant at kind goes.
    let names = g.T.Tables.reference_of c.args.source.now.tables.now in
    let bytes = c.args.source.now.checked.bytes.now in
    let events = c.args.source.now.checked.events.now in
    let event = c.args.event.now in
    let after = c.args.after.now in
    let old = c.args.self.now in
    let new : Printer _ = record { leaves = old.leaves; level = c.begin.new.self; outer = old.outer; loose = old.loose } in
    let e = entering names bytes m events whole old event after kind goes in
    let none : begins old.level event.name ≡ false = sym c.begin.ensures.begins ∙ c.if-begin.false in
    let has : has_begun e.f event.name ≡ false
    = begins_is e.f event.name ∙ ap (λ (o : Opened). begins o.level event.name) (sym e.stands.levels) ∙ none in
    let node : Node = Around event e.kids e.exit in
    let own = (first_sound bytes node e.ns e.stands.open_.1.sound).0 in
    let back = left_events (with_siblings e.f e.ns ∷ e.fs) in
    let exits : e.exit.kind ≡ Exit = own.is_node.1 in
    let tail : after ≡ events_of e.kids ++ e.exit ∷ back = after_enter event after e.f e.kids e.ns e.exit e.fs e.stands.events in
    pass_step names bytes m e new c.node_after.result.1.now has
    (c.node_after.ensures.after ∙ rest_after event e.exit e.kids after back own.is_node.3 exits tail)
    (ap (λ (l : Level). opened l (reverse old.outer.items)) c.begin.ensures.level) refl refl
