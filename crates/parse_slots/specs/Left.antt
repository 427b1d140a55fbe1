-- What nodes leave of a row of the grammar, by their names alone: the row takes them child by child, and what it doesn't take may stand between.
use Rattle.std.specs.Prelude.{◌≡◌, ℕ, Bool, true, false, ◌&&◌, if◌then◌else◌, List, Option, None, Some}
use Rattle.std.specs.List.{list_any}
use Rattle.definition_text.specs.Lines.{ends_line}
use Rattle.engine_events.specs.declared.event.Name.TheVariants as n
use Rattle.event_grammar.specs.declared.slot.Between.{Between}
use Rattle.event_grammar.specs.declared.slot.Between.TheVariants.{Nothing, Spaces, Lines}
use Rattle.event_grammar.specs.declared.slot.Form.{Form}
use Rattle.event_grammar.specs.declared.slot.Form.TheVariants.{Plain}
use Rattle.event_grammar.specs.declared.slot.Slot.{Slot}
use Rattle.event_grammar.specs.Grammar.{row}
use Rattle.event_grammar.specs.InGrammar.{node_name}
use Rattle.event_grammar.specs.Slots.{Taken, take_child, may_end, between_of, stands_between}
use Rattle.event_grammar.specs.Trees.{Node, Nodes, Around, Nil, Cons}

-- after a child that the row takes, or that may stand between others; what is in it must fill its own row
abbrev pub left_after : Option Taken → List Slot → Bool → (Form → Bool) → (List Slot → Option (List Slot)) → Option (List Slot)
left_after (Some t) slots between is_filled others = if is_filled t.form then others t.rest else None
left_after None slots between is_filled others = if between && is_filled Plain then others slots else None

-- whether a row may end with what is left of it
abbrev pub ends : Option (List Slot) → Bool
ends None = false
ends (Some slots) = may_end slots

abbrev mutual
  -- whether the children of an event fill its row, in this form
  pub is_filled : Between → Form → Node → Bool
  is_filled around form (Around enter kids exit) = ends (left_by (between_of (row enter.name form) around enter.name) (row enter.name form) kids)

  -- what is left of a row after nodes, if they may stand there
  pub left_by : Between → List Slot → Nodes → Option (List Slot)
  left_by around slots Nil = Some slots
  left_by around slots (Cons node ns) =
      left_after (take_child slots (node_name node)) slots (stands_between around (node_name node)) (λ form. is_filled around form node)
      (λ rest. left_by around rest ns)

-- a child is taken in this form, and these slots are left
abbrev pub took : Form → List Slot → Taken
took form rest = record { form = form; rest = rest }

-- A row takes none of what may stand between its children where lines end: white space, the endings of lines and the prefixes of quotes.
pub record TakesNoBetween (slots : List Slot) : Type 0 where
  pub space : take_child slots n.SpaceOrTab ≡ None
  pub ending : take_child slots n.LineEnding ≡ None
  pub blank : take_child slots n.BlankLineEnding ≡ None
  pub quote : take_child slots n.BlockQuotePrefix ≡ None

-- No line ends among the bytes of what is in an event in which none may.
abbrev pub MayEndLines : Between → List ℕ → Type 0
MayEndLines Nothing bytes = ⊥
MayEndLines Spaces bytes = list_any ends_line bytes ≡ false
MayEndLines Lines bytes = Unit {0}

-- the children of an event fill its row, in this form
pub record IsFilled (around : Between) (form : Form) (node : Node) : Type 0 where
  pub filled : is_filled around form node ≡ true

-- nodes lead a row from some of its slots to others
pub record Fill (around : Between) (slots : List Slot) (ns : Nodes) (rest : List Slot) : Type 0 where
  pub left : left_by around slots ns ≡ Some rest
