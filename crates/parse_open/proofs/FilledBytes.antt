-- Data fills rows of the grammar as its bytes do, one by one.
use Rattle.std.proofs.Common.{◌≡◌, ◌+◌, ◌-◌, ℕ, zero, suc, Bool, true, false, ◌&&◌, ◌||◌, not, if◌then◌else◌, List, [], ◌∷◌, ◌++◌, Option, None, Some, refl, sym, ap, ap₂, ◌∙◌, subst, map}
use Rattle.std.proofs.lemmas.Bool.{and_parts, cond-true, true≢false}
use Rattle.std.proofs.lemmas.List.{append-nil}
use denote.Enum.Bare.{same_true}
use Rattle.parse_open.proofs.Prelude.{append, Around, Event, growth, Name, Nil, Node, Nodes, one, Part, same_name, the_type}
use Rattle.std.specs.List.{fold}
use Rattle.engine_events.specs.declared.event.Kind.{Kind}
use Rattle.engine_events.specs.declared.event.Name.TheVariants as n
use Rattle.event_check.proofs.Fits.{split}
use Rattle.event_grammar.proofs.EveryName.{of_each_form}
use Rattle.event_grammar.specs.declared.slot.Between.{Between}
use Rattle.event_grammar.specs.declared.slot.Between.TheVariants.{Lines}
use Rattle.event_grammar.specs.declared.slot.Child.{Child}
use Rattle.event_grammar.specs.declared.slot.Form.{Form}
use Rattle.event_grammar.specs.declared.slot.Form.TheVariants.{Plain}
use Rattle.event_grammar.specs.declared.slot.Slot.{Slot}
use Rattle.event_grammar.specs.declared.slot.Slot.TheVariants.{Lead, Many, One, Opt}
use Rattle.event_grammar.specs.Grammar.{document_row, row}
use Rattle.event_grammar.specs.Points.{edge, spot_of}
use Rattle.event_grammar.specs.Slots.{Taken, form_of, has, take_child, taken, between_of, stands_between}
use Rattle.event_grammar.specs.Trees.{AreNodes, Cons, Growth, events_of, followed_by, grown, tree}
use Rattle.parse_output.proofs.Marks.{same_self}
use Rattle.parse_output.specs.Children.{HaveChildren, are_children, may_enter, may_follow, may_hold}
use Rattle.parse_output.specs.Forest.{byte_node, byte_nodes, bytes_from, bytewise, is_nil}
use Rattle.parse_output.specs.Open.{Entered, Mark, closed, mark_as, mark_of, then_mark}
use Rattle.parse_slots.specs.Left.{ends, is_filled, left_after, left_by}
use Rattle.parse_slots.proofs.Steps.{left_taken}
use Rattle.parse_open.specs.NodeLaws.{DocumentsAreFilled}
use Rattle.parse_open.proofs.Filled.{page_filled}

-- ---- rows that have data take it any number of times

abbrev is_data_row : List Slot → Bool
is_data_row (Many c ∷ []) = has c n.Data
is_data_row slots = false

implies : (a b : Bool) → (not a || b) ≡ true → a ≡ true → b ≡ true
implies true b h is = h
implies false b h is = absurd (true≢false (sym is))

every_row : (own : Name) (form : Form) → (not (may_hold own n.Data) || is_data_row (row own form)) ≡ true
unfolding may_hold
every_row own form = of_each_form (λ (own : Name) (form : Form). not (may_hold own n.Data) || is_data_row (row own form)) refl own form

-- a row takes data, if that may be entered where these are open
abbrev Agrees : List Mark → List Slot → Type 0
Agrees marks slots = may_enter marks n.Data ≡ true → is_data_row slots ≡ true

outside_agrees : Agrees [] document_row
unfolding may_enter
outside_agrees may = absurd (true≢false (sym may))

inside_agrees : (own : Name) (form : Form) (marks : List Mark) → Agrees (Entered own ∷ marks) (row own form)
unfolding may_enter
inside_agrees own form marks may = implies (may_hold own n.Data) (is_data_row (row own form)) (every_row own form) may

none_some : (A : Type 0) (t : Taken) → (let o : Option Taken = None in o ≡ Some t) → A
none_some A t h = absurd (cc)

some_is : (s t : Taken) → Some s ≡ Some t → s ≡ t
some_is s t h = cc

-- it does so after each child
left_if : (c : Child) (b : Bool) (t : Taken) → has c n.Data ≡ true → (if b then Some (taken c (Many c ∷ [])) else None) ≡ Some t → is_data_row t.rest ≡ true
left_if c true t has_data is = subst (λ (s : Taken). is_data_row s.rest ≡ true) (some_is (taken c (Many c ∷ [])) t is) has_data
left_if c false t has_data is = none_some _ t is

still_data : (slots : List Slot) (name : Name) (t : Taken) → is_data_row slots ≡ true → take_child slots name ≡ Some t → is_data_row t.rest ≡ true
still_data [] name t data_row is = absurd (true≢false (sym data_row))
still_data (One c ∷ slots) name t data_row is = absurd (true≢false (sym data_row))
still_data (Opt c ∷ slots) name t data_row is = absurd (true≢false (sym data_row))
still_data (Lead c ∷ slots) name t data_row is = absurd (true≢false (sym data_row))
still_data (Many c ∷ slot ∷ slots) name t data_row is = absurd (true≢false (sym data_row))
still_data (Many c ∷ []) name t data_row is = left_if c (has c name) t data_row is

-- ---- bytes fill as an event of data

data_takes : (c : Child) → has c n.Data ≡ true → take_child (Many c ∷ []) n.Data ≡ Some (taken c (Many c ∷ []))
data_takes c has_data = ap (λ (b : Bool). if b then Some (taken c (Many c ∷ [])) else None) has_data

bytes_left : (around : Between) (c : Child) (index count : ℕ) (others : Nodes) → has c n.Data ≡ true
    → left_by around (Many c ∷ []) (append (byte_nodes index count) others) ≡ left_by around (Many c ∷ []) others
bytes_left around c index zero others has_data = refl
bytes_left around c index (suc count) others has_data =
    left_taken around (Many c ∷ []) (byte_node index) (append (byte_nodes (index + 1) count) others) (taken c (Many c ∷ [])) (data_takes c has_data) refl
    ∙ bytes_left around c (index + 1) count others has_data

data_filled : (around : Between) (form : Form) (enter exit : Event) (kids : Nodes) → enter.name ≡ n.Data → kids ≡ Nil
    → is_filled around form (Around enter kids exit) ≡ true
data_filled around form enter exit kids is none =
    ap (λ (ks : Nodes). ends (left_by (between_of (row enter.name form) around enter.name) (row enter.name form) ks)) none
    ∙ ap (λ (name : Name). ends (left_by (between_of (row name form) around name) (row name form) Nil)) is

data_same : (around : Between) (slots : List Slot) (enter exit : Event) (kids others ns : Nodes) (index count : ℕ) → is_data_row slots ≡ true
    → enter.name ≡ n.Data → kids ≡ Nil → left_by around slots others ≡ left_by around slots ns
    → left_by around slots (append (byte_nodes index count) others) ≡ left_by around slots (Cons (Around enter kids exit) ns)
data_same around [] enter exit kids others ns index count data_row is none same = absurd (true≢false (sym data_row))
data_same around (One c ∷ slots) enter exit kids others ns index count data_row is none same = absurd (true≢false (sym data_row))
data_same around (Opt c ∷ slots) enter exit kids others ns index count data_row is none same = absurd (true≢false (sym data_row))
data_same around (Lead c ∷ slots) enter exit kids others ns index count data_row is none same = absurd (true≢false (sym data_row))
data_same around (Many c ∷ slot ∷ slots) enter exit kids others ns index count data_row is none same = absurd (true≢false (sym data_row))
data_same around (Many c ∷ []) enter exit kids others ns index count data_row is none same =
    bytes_left around c index count others data_row ∙ same
    ∙ sym (left_taken around (Many c ∷ []) (Around enter kids exit) ns (taken c (Many c ∷ [])) (ap (take_child (Many c ∷ [])) is ∙ data_takes c data_row)
    (data_filled around (form_of c) enter exit kids is none))

-- ---- where nodes stand

-- each may be entered where it is
abbrev mutual
  pub IsHeld : List Mark → Node → Type 0
  IsHeld marks (Around enter kids exit) = (may_enter marks enter.name ≡ true) × AreHeld (Entered enter.name ∷ marks) kids

  pub AreHeld : List Mark → Nodes → Type 0
  AreHeld marks Nil = Unit {0}
  AreHeld marks (Cons node ns) = IsHeld marks node × AreHeld marks ns

held_over : (ns : Nodes) → AreNodes ns → (marks : List Mark) (es : List Event) → are_children marks (map mark_of (events_of ns ++ es)) ≡ true
    → AreHeld marks ns × (are_children marks (map mark_of es) ≡ true)
unfolding are_children
held_over Nil k marks es h = (tt, h)
held_over (Cons (Around enter kids exit) ns) k marks es h =
    let rest = events_of ns ++ es in
    let inside = map mark_of (events_of kids ++ exit ∷ rest) in
    let within = Entered enter.name ∷ marks in
    let here : are_children marks (map mark_of (enter ∷ (events_of kids ++ exit ∷ rest))) ≡ true =
    subst (λ (l : List Event). are_children marks (map mark_of (enter ∷ l)) ≡ true) (split kids ns exit es) h in
    let first : (may_enter marks enter.name && are_children within inside) ≡ true =
    subst (λ (z : Kind). (may_follow marks (mark_as z enter.name) && are_children (then_mark marks (mark_as z enter.name)) inside) ≡ true) k.0.0 here in
    let both = and_parts (may_enter marks enter.name) (are_children within inside) first in
    let inner = held_over kids k.0.3 within (exit ∷ rest) both.1 in
    let last : are_children (closed exit.name within) (map mark_of rest) ≡ true =
    subst (λ (z : Kind). (may_follow within (mark_as z exit.name) && are_children (then_mark within (mark_as z exit.name)) (map mark_of rest)) ≡ true) k.0.1
    inner.1 in
    let back : are_children marks (map mark_of rest) ≡ true =
    subst (λ (ms : List Mark). are_children ms (map mark_of rest) ≡ true)
    (cond-true (same_name enter.name exit.name) marks _ (ap (same_name enter.name) k.0.2 ∙ same_self enter.name)) last in
    let others = held_over ns k.1 marks es back in
    (((both.0, inner.0), others.0), others.1)

-- nothing is in data
none_in : (marks : List Mark) (kids : Nodes) → AreHeld (Entered n.Data ∷ marks) kids → kids ≡ Nil
unfolding may_enter may_hold
none_in marks Nil held = refl
none_in marks (Cons (Around enter kids exit) ns) held = absurd (true≢false (sym held.0.0))

-- ---- all nodes

-- a node, and others, if what is in it fills the same
kept_same : (around : Between) (marks : List Mark) (slots : List Slot) (enter exit : Event) (kids inner ns others : Nodes) (o : Option Taken)
    → take_child slots enter.name ≡ o → Agrees marks slots
    → ((form : Form) → is_filled around form (Around enter inner exit) ≡ is_filled around form (Around enter kids exit))
    → ((rest : List Slot) → Agrees marks rest → left_by around rest others ≡ left_by around rest ns)
    → left_after o slots (stands_between around enter.name) (λ form. is_filled around form (Around enter inner exit)) (λ rest. left_by around rest others)
    ≡ left_after o slots (stands_between around enter.name) (λ form. is_filled around form (Around enter kids exit)) (λ rest. left_by around rest ns)
kept_same around marks slots enter exit kids inner ns others None is agrees own later =
    ap₂ (λ (b : Bool) (o : Option (List Slot)). if stands_between around enter.name && b then o else None) (own Plain) (later slots agrees)
kept_same around marks slots enter exit kids inner ns others (Some t) is agrees own later =
    ap₂ (λ (b : Bool) (o : Option (List Slot)). if b then o else None) (own t.form)
    (later t.rest (λ may. still_data slots enter.name t (agrees may) is))

cut_same : (around : Between) (marks : List Mark) (slots : List Slot) (enter exit : Event) (kids inner ns others : Nodes) (b : Bool) → Agrees marks slots
    → (b ≡ true → (is_data_row slots ≡ true) × (enter.name ≡ n.Data) × (kids ≡ Nil))
    → ((form : Form) → is_filled around form (Around enter inner exit) ≡ is_filled around form (Around enter kids exit))
    → ((rest : List Slot) → Agrees marks rest → left_by around rest others ≡ left_by around rest ns)
    → left_by around slots (append (if b then bytes_from enter exit else one (Around enter inner exit)) others)
    ≡ left_by around slots (Cons (Around enter kids exit) ns)
cut_same around marks slots enter exit kids inner ns others true agrees is own later =
    let parts = is refl in
    let from = edge (spot_of enter) in
    data_same around slots enter exit kids others ns from (edge (spot_of exit) - from) parts.0 parts.1 parts.2 (later slots agrees)
cut_same around marks slots enter exit kids inner ns others false agrees is own later =
    kept_same around marks slots enter exit kids inner ns others (take_child slots enter.name) refl agrees own later

left_same : (around : Between) (marks : List Mark) (slots : List Slot) (ns : Nodes) → Agrees marks slots → AreHeld marks ns
    → left_by around slots (bytewise ns) ≡ left_by around slots ns
left_same around marks slots Nil agrees held = refl
left_same around marks slots (Cons (Around enter kids exit) ns) agrees held =
    let name = enter.name in
    cut_same around marks slots enter exit kids (bytewise kids) ns (bytewise ns) (same_name name n.Data && is_nil (bytewise kids)) agrees
    (λ is. let same = same_true the_type tt name n.Data (and_parts (same_name name n.Data) (is_nil (bytewise kids)) is).0 in (
      agrees (subst (λ (a : Name). may_enter marks a ≡ true) same held.0.0),
      same,
      none_in marks kids (subst (λ (a : Name). AreHeld (Entered a ∷ marks) kids) same held.0.1),
    ))
    (λ form. ap ends (left_same (between_of (row name form) around name) (Entered name ∷ marks) (row name form) kids (inside_agrees name form marks) held.0.1))
    (λ rest may. left_same around marks rest ns may held.1)

-- ---- the tree of the events of nodes is these nodes

joined_next : (ms : Nodes) (node : Node) (ns : Nodes) → append (followed_by ms node) ns ≡ append ms (Cons node ns)
joined_next Nil node ns = refl
joined_next (Cons m ms) node ns = ap (Cons m) (joined_next ms node ns)

joined_none : (ms : Nodes) → append ms Nil ≡ ms
joined_none Nil = refl
joined_none (Cons m ms) = ap (Cons m) (joined_none ms)

abbrev grown_by : Growth → List Event → Growth
grown_by g events = fold (λ g (e : Event). grown g e.kind e) g events

grown_over : (ns : Nodes) → AreNodes ns → (before : Nodes) (outer : List Part) (es : List Event)
    → grown_by (growth before outer) (events_of ns ++ es) ≡ grown_by (growth (append before ns) outer) es
grown_over Nil k before outer es = ap (λ (ms : Nodes). grown_by (growth ms outer) es) (sym (joined_none before))
grown_over (Cons (Around enter kids exit) ns) k before outer es =
    let rest = events_of ns ++ es in
    let part : Part = record { enter = enter; before = before } in
    ap (λ (l : List Event). grown_by (growth before outer) (enter ∷ l)) (split kids ns exit es)
    ∙ ap (λ (z : Kind). grown_by (grown (growth before outer) z enter) (events_of kids ++ exit ∷ rest)) k.0.0
    ∙ grown_over kids k.0.3 Nil (part ∷ outer) (exit ∷ rest)
    ∙ ap (λ (z : Kind). grown_by (grown (growth kids (part ∷ outer)) z exit) rest) k.0.1
    ∙ grown_over ns k.1 (followed_by before (Around enter kids exit)) outer es
    ∙ ap (λ (ms : Nodes). grown_by (growth ms outer) es) (joined_next before (Around enter kids exit) ns)

pub tree_is : (ns : Nodes) → AreNodes ns → tree (events_of ns) ≡ ns
tree_is ns k =
    ap tree (sym (append-nil (events_of ns)))
    ∙ ap (λ (g : Growth). g.kids) (grown_over ns k Nil [] [])

-- ---- the document

pub all_held : (ns : Nodes) → AreNodes ns → HaveChildren (events_of ns) → AreHeld [] ns
all_held ns k children =
    (held_over ns k [] [] (subst (λ (es : List Event). HaveChildren es) (sym (append-nil (events_of ns))) children)).0

pub documents_are_filled : DocumentsAreFilled
documents_are_filled = λ r text front bs places kids line events ns spells nested named children same.
    let tree_of : tree events ≡ ns = ap tree nested ∙ tree_is ns named in
    let held = all_held ns named (subst HaveChildren nested children) in
    ap ends (sym (left_same Lines [] document_row ns outside_agrees held) ∙ ap (λ (ms : Nodes). left_by Lines document_row (bytewise ms)) (sym tree_of)
    ∙ ap (left_by Lines document_row) same)
    ∙ page_filled kids spells.fill
