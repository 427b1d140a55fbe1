-- Rows, filled step by step.
use Rattle.std.proofs.Common.{◌≡◌, ℕ, zero, suc, ◌+◌, Bool, true, false, ◌&&◌, if◌then◌else◌, List, [], ◌∷◌, ◌++◌, Option, None, Some, refl, sym, ap, ap₂, ◌∙◌, subst}
use Rattle.std.proofs.lemmas.Bool.{cond-true, or_parts, true≢false}
use Rattle.std.proofs.lemmas.List.Folds.{list_any-append}
use Rattle.std.specs.List.{list_any}
use Rattle.definition_text.specs.Lines.{ends_line}
use Rattle.engine_events.specs.Names.{is_listed}
use Rattle.engine_events.specs.declared.event.Name.{Name}
use Rattle.engine_events.specs.declared.event.Name.TheVariants as n
use Rattle.event_grammar.specs.declared.slot.Between.{Between}
use Rattle.event_grammar.specs.declared.slot.Between.TheVariants.{Nothing, Spaces, Lines}
use Rattle.event_grammar.specs.declared.slot.Child.{Child}
use Rattle.event_grammar.specs.declared.slot.Form.{Form}
use Rattle.event_grammar.specs.declared.slot.Form.TheVariants.{Plain}
use Rattle.event_grammar.specs.declared.slot.Slot.{Slot}
use Rattle.event_grammar.specs.declared.slot.Slot.TheVariants.{Many}
use Rattle.event_grammar.specs.Grammar.{one_line_names, row}
use Rattle.event_grammar.specs.InGrammar.{kids_of, node_name}
use Rattle.event_grammar.specs.Slots.{Taken, has, take_child, taken, may_end, between_of, stands_between}
use Rattle.event_grammar.specs.Trees.{Node, Nodes, Around, Nil, Cons}
use Rattle.event_grammar.specs.Void.{is_empty}
use Rattle.parse_output.specs.Forest.{append, byte_node, byte_nodes, one}
use Rattle.parse_slots.specs.Left.{ends, Fill, is_filled, IsFilled, left_after, left_by, MayEndLines, took}

-- ---- one node

-- the row takes it
pub left_taken : (around : Between) (slots : List Slot) (node : Node) (ns : Nodes) (t : Taken) → take_child slots (node_name node) ≡ Some t
    → is_filled around t.form node ≡ true → left_by around slots (Cons node ns) ≡ left_by around t.rest ns
left_taken around slots node ns t is filled =
    ap (λ o. left_after o slots (stands_between around (node_name node)) (λ form. is_filled around form node) (λ rest. left_by around rest ns)) is
    ∙ ap (λ b. if b then left_by around t.rest ns else None) filled

-- it stands between
pub left_between : (around : Between) (slots : List Slot) (node : Node) (ns : Nodes) → take_child slots (node_name node) ≡ None
    → stands_between around (node_name node) ≡ true → is_filled around Plain node ≡ true → left_by around slots (Cons node ns) ≡ left_by around slots ns
left_between around slots node ns is between filled =
    ap (λ o. left_after o slots (stands_between around (node_name node)) (λ form. is_filled around form node) (λ rest. left_by around rest ns)) is
    ∙ ap₂ (λ a b. if a && b then left_by around slots ns else None) between filled

pub fill_none : (around : Between) (slots : List Slot) → Fill around slots Nil slots
fill_none around slots = record { left = refl }

-- a node of a name
pub fill_taken : (around : Between) (slots : List Slot) (name : Name) (form : Form) (rest : List Slot) (node : Node) → node_name node ≡ name
    → take_child slots name ≡ Some (took form rest) → IsFilled around form node → Fill around slots (one node) rest
fill_taken around slots name form rest node is takes filled = record {
  left = left_taken around slots node Nil (took form rest) (ap (take_child slots) is ∙ takes) filled.filled;
}

pub fill_between : (around : Between) (slots : List Slot) (name : Name) (node : Node) → node_name node ≡ name → take_child slots name ≡ None
    → stands_between around name ≡ true → IsFilled around Plain node → Fill around slots (one node) slots
fill_between around slots name node is takes between filled = record {
  left = left_between around slots node Nil (ap (take_child slots) is ∙ takes) (ap (stands_between around) is ∙ between) filled.filled;
}

-- ---- nodes, and then others

abbrev then_left : Option (List Slot) → (List Slot → Option (List Slot)) → Option (List Slot)
then_left None others = None
then_left (Some rest) others = others rest

then_if : (b : Bool) (o p : Option (List Slot)) (others : List Slot → Option (List Slot)) → o ≡ then_left p others
    → (if b then o else None) ≡ then_left (if b then p else None) others
then_if true o p others is = is
then_if false o p others is = refl

after_both : (around : Between) (slots : List Slot) (node : Node) (ns ms : Nodes) (t : Option Taken)
    → ((rest : List Slot) → left_by around rest (append ns ms) ≡ then_left (left_by around rest ns) (λ rest. left_by around rest ms))
    → left_after t slots (stands_between around (node_name node)) (λ form. is_filled around form node) (λ rest. left_by around rest (append ns ms))
    ≡ then_left (left_after t slots (stands_between around (node_name node)) (λ form. is_filled around form node) (λ rest. left_by around rest ns))
    (λ rest. left_by around rest ms)
after_both around slots node ns ms (Some t) others =
    then_if (is_filled around t.form node) (left_by around t.rest (append ns ms)) (left_by around t.rest ns) (λ rest. left_by around rest ms) (others t.rest)
after_both around slots node ns ms None others =
    then_if (stands_between around (node_name node) && is_filled around Plain node) (left_by around slots (append ns ms)) (left_by around slots ns)
    (λ rest. left_by around rest ms) (others slots)

left_both : (around : Between) (ns ms : Nodes) (slots : List Slot)
    → left_by around slots (append ns ms) ≡ then_left (left_by around slots ns) (λ rest. left_by around rest ms)
left_both around Nil ms slots = refl
left_both around (Cons node ns) ms slots = after_both around slots node ns ms (take_child slots (node_name node)) (left_both around ns ms)

pub fill_both : {around : Between} {slots rest last : List Slot} {ns ms : Nodes} → Fill around slots ns rest → Fill around rest ms last
    → Fill around slots (append ns ms) last
fill_both {around = around} {slots = slots} {ns = ns} {ms = ms} first second = record {
  left = left_both around ns ms slots ∙ ap (λ o. then_left o (λ rest. left_by around rest ms)) first.left ∙ second.left;
}

-- ---- what is in a node

-- what is in a node of a name fills its row up to where that may end
pub filled_by : (around : Between) (form : Form) (name : Name) (rest : List Slot) (node : Node) → node_name node ≡ name
    → Fill (between_of (row name form) around name) (row name form) (kids_of node) rest → may_end rest ≡ true → IsFilled around form node
filled_by around form name rest (Around enter kids exit) is fill may = record {
  filled =
      ap (λ own. ends (left_by (between_of (row own form) around own) (row own form) kids)) is
      ∙ ap ends fill.left ∙ may;
}

-- no line ends in the children of some events, wherever they are
in_line : (slots : List Slot) (around : Between) (name : Name) → is_empty slots ≡ false → is_listed one_line_names name ≡ true
    → between_of slots around name ≡ Spaces
in_line [] around name some listed = absurd (true≢false some)
in_line (slot ∷ slots) Nothing name some listed = refl
in_line (slot ∷ slots) Spaces name some listed = refl
in_line (slot ∷ slots) Lines name some listed = cond-true (is_listed one_line_names name) Spaces Lines listed

-- what is in such an event fills its row
pub filled_in_line : (around : Between) (form : Form) (name : Name) (rest : List Slot) (node : Node) → node_name node ≡ name
    → is_empty (row name form) ≡ false → is_listed one_line_names name ≡ true → Fill Spaces (row name form) (kids_of node) rest → may_end rest ≡ true
    → IsFilled around form node
filled_in_line around form name rest node is some listed fill may =
    filled_by around form name rest node is
    (subst (λ b. Fill b (row name form) (kids_of node) rest) (sym (in_line (row name form) around name some listed)) fill) may

-- nothing is in it
pub filled_void : (around : Between) (form : Form) (name : Name) (node : Node) → node_name node ≡ name → kids_of node ≡ Nil → may_end (row name form) ≡ true
    → IsFilled around form node
filled_void around form name node is none may =
    filled_by around form name (row name form) node is
    (subst (λ ns. Fill (between_of (row name form) around name) (row name form) ns (row name form)) (sym none)
    (fill_none (between_of (row name form) around name) (row name form)))
    may

-- ---- data, byte by byte

-- where any number of children of a kind may stand, and data is one
pub fill_bytes : (around : Between) (child : Child) (slots : List Slot) (index count : ℕ) → has child n.Data ≡ true
    → Fill around (Many child ∷ slots) (byte_nodes index count) (Many child ∷ slots)
fill_bytes around child slots index zero may = fill_none around (Many child ∷ slots)
fill_bytes around child slots index (suc count) may = record {
  left =
      left_taken around (Many child ∷ slots) (byte_node index) (byte_nodes (index + 1) count) (taken child (Many child ∷ slots))
      (ap (λ b. if b then Some (taken child (Many child ∷ slots)) else take_child slots n.Data) may) refl
      ∙ (fill_bytes around child slots (index + 1) count may).left;
}

-- ---- where no line may end

pub may_both : (around : Between) (xs ys : List ℕ) → MayEndLines around (xs ++ ys) → MayEndLines around xs × MayEndLines around ys
may_both Nothing xs ys may = absurd may
may_both Spaces xs ys may = or_parts (list_any ends_line xs) (list_any ends_line ys) (sym (list_any-append ends_line xs ys) ∙ may)
may_both Lines xs ys may = (tt, tt)

-- white space may stand between
pub may_space : (around : Between) (bytes : List ℕ) → MayEndLines around bytes → stands_between around n.SpaceOrTab ≡ true
may_space Nothing bytes may = absurd may
may_space Spaces bytes may = refl
may_space Lines bytes may = refl

-- where a line ends, lines may end
pub may_lines : (around : Between) (bytes : List ℕ) → list_any ends_line bytes ≡ true → MayEndLines around bytes → around ≡ Lines
may_lines Nothing bytes ends may = absurd may
may_lines Spaces bytes ends may = absurd (true≢false (sym ends ∙ may))
may_lines Lines bytes ends may = refl
