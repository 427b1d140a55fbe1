-- What is written of the check of a task list item (GFM 5.3).
use Rattle.std.specs.Prelude.{◌≡◌, ℕ, Bool, List, [], ◌∷◌, ◌++◌, Some}
use Rattle.definition_text.specs.Content.{content_codes}
use Rattle.definition_text.specs.Ascii.{right_bracket}
use Rattle.definition_inline.specs.GfmTaskListItem.{is_done}
use Rattle.engine_events.specs.declared.event.Name.TheVariants as n
use Rattle.event_grammar.specs.declared.slot.Between.{Between}
use Rattle.event_grammar.specs.declared.slot.Child.TheVariants.{Either}
use Rattle.event_grammar.specs.declared.slot.Slot.{Slot}
use Rattle.event_grammar.specs.declared.slot.Slot.TheVariants.{One}
use Rattle.event_grammar.specs.Grammar.{one as one_slot}
use Rattle.event_grammar.specs.InGrammar.{node_name}
use Rattle.event_grammar.specs.Trees.{Node, Nodes, Cons}
use Rattle.parse_output.specs.Forest.{one}
use Rattle.parse_lines.specs.declared.walk.Walk.{Walk}
use Rattle.parse_lines.specs.InContent.{Stop, WritesInContent}
use Rattle.parse_lines.specs.Quiet.{AreQuiet}
use Rattle.parse_slots.specs.Left.{Fill, MayEndLines}
use Rattle.parse_strings.specs.Plain.{ArePlain}
use Rattle.parse_inline.specs.Leaves.{check_name}

-- bytes begin with one code, the mark of an item that is done or not, and this is what follows it: a closing bracket first
pub record IsValueOf (done : Bool) (bytes value content : List ℕ) : Type 0 where
  pub mark : ℕ
  pub is : is_done mark ≡ Some done
  pub parts : bytes ≡ value ++ content
  pub codes : content_codes value ≡ mark ∷ []
  pub others : List ℕ
  pub bracket : content ≡ right_bracket ∷ others

-- what is left of the row of a check after its value, and before it
abbrev pub bracket_slots : List Slot
bracket_slots = one_slot n.GfmTaskListItemMarker ∷ []

abbrev pub value_slots : List Slot
value_slots = One (Either n.GfmTaskListItemValueChecked n.GfmTaskListItemValueUnchecked) ∷ bracket_slots

-- what is written of the value: a node of its name, and nodes that spell nothing
pub record WritesValue {A : Type 0} (text : List ℕ) (done : Bool) (value content : List ℕ) (stop : Stop) (a b : Walk A) : Type 0 where
  pub node : Node
  pub named : node_name node ≡ check_name done
  pub plain : ArePlain (one node)
  pub quiet : Nodes
  pub are_quiet : AreQuiet quiet
  pub writes : WritesInContent text value (Cons node quiet) content stop a b
  pub fill : (around : Between) → MayEndLines around value → Fill around value_slots (Cons node quiet) bracket_slots
