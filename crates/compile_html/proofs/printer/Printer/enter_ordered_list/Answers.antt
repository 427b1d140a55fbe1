use Rattle.std.proofs.Common.{◌≡◌, ℕ, ◌-◌, ◌^◌, OnOk, List, Some, not, min, drop, ap, ◌∙◌, subst}
use Rattle.compile_html.proofs.Prelude.{AreWithin, Event, HaveNumbers, kids_in, list_number, ListOf, Names, next_loose, Nodes, number_of, opened_of, opening}
use Rattle.compile_html.proofs.Prelude.{Prints, within}
use Rattle.engine_events.specs.declared.event.Name.TheVariants as n
use Rattle.compile_levels.specs.declared.kind.BlockKind.TheVariants as kinds
use Rattle.compile_levels.specs.declared.level.Holder.TheVariants as holders
use Rattle.compile_written.specs.Child.{from_child, text_first}
use Rattle.compile_written.proofs.ChildLaw.{kids_within, text_in_is}
use Rattle.compile_html.proofs.ItemNumbers.{first_fits}
use Rattle.compile_html.proofs.printer.Printer.enter_ordered_list.Goals as goal

-- the number is that of the first item
number_is : (names : Names) (bytes own : List ℕ) (events item prefix value : List Event) (digits : List ℕ) (number : ℕ) (kids : Nodes)
    → item ≡ drop 1 (from_child n.ListItem 0 events) → prefix ≡ drop 1 (from_child n.ListItemPrefix 0 item) → value ≡ from_child n.ListItemValue 0 prefix
    → own ≡ bytes → digits ≡ text_first own value → number ≡ min (number_of digits) (2 ^ 32 - 1) → AreWithin kids events → HaveNumbers bytes kids
    → number ≡ list_number names bytes kids
number_is names bytes own events item prefix value digits number kids a b c d e f w h =
    let inner = kids_in n.ListItemPrefix (kids_in n.ListItem kids) in
    let first = drop 1 (from_child n.ListItem 0 events) in
    let second = drop 1 (from_child n.ListItemPrefix 0 first) in
    let value_is : value ≡ from_child n.ListItemValue 0 second
    = c ∙ ap (from_child n.ListItemValue 0) (b ∙ ap (λ (es : List Event). drop 1 (from_child n.ListItemPrefix 0 es)) a) in
    f
    ∙ ap (λ (ds : List ℕ). min (number_of ds) (2 ^ 32 - 1))
    (e
    ∙ ap (λ (bs : List ℕ). text_first bs value) d
    ∙ ap (text_first bytes) value_is
    ∙ text_in_is bytes n.ListItemValue inner second (kids_within n.ListItemPrefix (kids_in n.ListItem kids) first (kids_within n.ListItem kids events w)))
    ∙ first_fits bytes kids h

pub returns-clause-opened : goal.returns-clause-opened
returns-clause-opened g c = λ names kids w h.
    subst (λ (k : ℕ). OnOk c.enter_list.result (opened_of c.enter_list.new.self
    ≡ within kinds.OrderedList (holders.List (Some k)) (not (next_loose c.args.self.now)) (opened_of c.args.self.now)))
    (number_is names c.args.source.now.checked.bytes.now c.bytes.result.now c.args.events.now c.inside_child-item.result.now c.inside_child-prefix.result.now
    c.child.result.now c.text_first-digits.result.now c.number_of.result kids c.inside_child-item.ensures c.inside_child-prefix.ensures c.child.ensures
    c.bytes.ensures c.text_first-digits.ensures c.number_of.ensures w h)
    c.enter_list.ensures.opened

pub returns-clause-printed : goal.returns-clause-printed
returns-clause-printed g c = λ options names kids w h.
    subst (λ (k : ℕ). OnOk c.enter_list.result (Prints options c.args.self.now c.enter_list.new.self (opening (ListOf (Some k)))))
    (number_is names c.args.source.now.checked.bytes.now c.bytes.result.now c.args.events.now c.inside_child-item.result.now c.inside_child-prefix.result.now
    c.child.result.now c.text_first-digits.result.now c.number_of.result kids c.inside_child-item.ensures c.inside_child-prefix.ensures c.child.ensures
    c.bytes.ensures c.text_first-digits.ensures c.number_of.ensures w h)
    (c.enter_list.ensures.printed options)
