use Rattle.std.proofs.Common.{◌≡◌, true, not, List, None, ◌∷◌, ◌++◌, sym, ap, ◌∙◌, subst}
use Rattle.compile_html.proofs.Prelude.{AreWithin, Around, BlockKind, Event, events_of, first_sound, GoesOn, is_leaf, kind_of, left_events, next_loose, Node}
use Rattle.compile_html.proofs.Prelude.{opened_of, Printer, with_siblings}
use Rattle.engine_events.specs.declared.event.Kind.TheVariants.{Exit}
use Rattle.compile_levels.specs.declared.level.Holder.TheVariants as holders
use Rattle.compile_html.specs.Opened.{within as within_kind}
use Rattle.compile_html.proofs.Going.{entering, after_enter}
use Rattle.compile_html.proofs.Entering.{leaf_kind, quote_enters, footnote_enters, item_enters, unordered_enters, ordered_enters}
use Rattle.compile_html.proofs.printer.Printer.enter_content.Goals as goal
use Rattle.compile_html.proofs.printer.Printer.enter_content.Goals.{in-Quote+in_ok-enter_quote-in-Quote, in-UnorderedList+in_ok-enter_list-in-UnorderedList}
use Rattle.compile_html.proofs.printer.Printer.enter_content.Goals.{in-OrderedList+in_ok-enter_ordered_list-in-OrderedList}
use Rattle.compile_html.proofs.printer.Printer.enter_content.Goals.{in-Item+in_ok-enter_item-in-Item, in-Footnote+in_ok-enter_footnote-in-Footnote}

pub returns-in_default : goal.returns-in_default
returns-in_default g c =
    let d = c.in_default in
    record {
      default = c.leaf.ensures.default;
      counted = c.leaf.ensures.counted;
      shorter = c.leaf.ensures.shorter;
      printed = λ m ds whole meant at kind begun goes.
          let leaf : is_leaf (kind_of c.args.event.now.name) ≡ true
          = ap is_leaf (sym c.kind_of-kind.ensures)
          ∙ leaf_kind c.kind_of-kind.result d.not-Quote d.not-UnorderedList d.not-OrderedList d.not-Item d.not-Footnote in
          c.leaf.ensures.printed m ds whole meant at kind begun leaf goes;
    }

pub returns-clause-printed : goal.returns-clause-printed
returns-clause-printed g c = λ m ds whole meant at kind begun goes.
    let names = g.T.Tables.reference_of c.args.source.now.tables.now in
    let bytes = c.args.source.now.checked.bytes.now in
    let events = c.args.source.now.checked.events.now in
    let event = c.args.event.now in
    let after = c.args.after.now in
    let old = c.args.self.now in
    let e = entering names bytes m events whole old event after kind goes in
    let node : Node = Around event e.kids e.exit in
    let own = (first_sound bytes node e.ns e.stands.open_.1.sound).0 in
    let back = left_events (with_siblings e.f e.ns ∷ e.fs) in
    let exits : e.exit.kind ≡ Exit = own.is_node.1 in
    let tail : after ≡ events_of e.kids ++ e.exit ∷ back = after_enter event after e.f e.kids e.ns e.exit e.fs e.stands.events in
    let within : AreWithin e.kids after = record { nodes = own.is_node.3; back = e.exit ∷ back; ends = exits; events_are = tail } in
    let goes_on : Printer _ → Type 0 = λ p. GoesOn names bytes m events whole p after in
    let numbers = e.stands.open_.1.numbers.0.1 in
    let named = sym c.kind_of-kind.ensures in
    elim c.match-kind.branch [
      | in-Quote+in_ok-enter_quote-in-Quote w ↦
          let f = w.in_ok-enter_quote-in-Quote.ensures in
          let l = w.enter_quote.ensures.loose in
          subst goes_on (sym w.self-is)
          (quote_enters names bytes m e begun w.enter_quote.new.self f.default (named ∙ w.in-Quote.is) f.opened l (f.printed m.compile))
      | in-UnorderedList+in_ok-enter_list-in-UnorderedList w ↦
          let f = w.in_ok-enter_list-in-UnorderedList.ensures in
          let l = w.enter_list.ensures.loose in
          subst goes_on (sym w.self-is)
          (unordered_enters names bytes m e begun w.enter_list.new.self f.default (named ∙ w.in-UnorderedList.is)
          (f.opened ∙ ap (λ (x : BlockKind). within_kind x (holders.List None) (not (next_loose old)) (opened_of old)) w.in-UnorderedList.is) l (f.printed m.compile))
      | in-OrderedList+in_ok-enter_ordered_list-in-OrderedList w ↦
          let f = w.in_ok-enter_ordered_list-in-OrderedList.ensures in
          let l = w.enter_ordered_list.ensures.loose in
          subst goes_on (sym w.self-is)
          (ordered_enters names bytes m e begun w.enter_ordered_list.new.self f.default (named ∙ w.in-OrderedList.is) (f.opened names e.kids within numbers) l
          (f.printed m.compile names e.kids within numbers))
      | in-Item+in_ok-enter_item-in-Item w ↦
          let f = w.in_ok-enter_item-in-Item.ensures in
          let l = w.enter_item.ensures.loose in
          subst goes_on (sym w.self-is)
          (item_enters names bytes m e begun w.enter_item.new.self f.default (named ∙ w.in-Item.is) f.opened l (f.printed m.compile))
      | in-Footnote+in_ok-enter_footnote-in-Footnote w ↦
          let f = w.in_ok-enter_footnote-in-Footnote.ensures in
          let l = w.enter_footnote.ensures.loose in
          subst goes_on (sym w.self-is)
          (footnote_enters names bytes m e begun w.enter_footnote.new.self f.default (named ∙ w.in-Footnote.is) f.opened l (f.printed m.compile))
    ]
