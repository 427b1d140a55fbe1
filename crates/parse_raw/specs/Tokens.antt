-- What is written of the bytes of a line, one event after another: of a thematic break, or of a fence.
use Rattle.std.specs.Prelude.{◌≡◌, ◌-◌, ◌≤◌, ℕ, false, List, [], ◌∷◌, length}
use Rattle.definition_text.specs.Columns.{is_white}
use Rattle.engine_events.specs.declared.event.Name.{Name}
use Rattle.engine_events.specs.declared.event.Name.TheVariants as n
use Rattle.event_grammar.specs.declared.slot.Between.TheVariants.{Lines}
use Rattle.event_grammar.specs.declared.slot.Form.TheVariants.{Plain}
use Rattle.event_grammar.specs.declared.slot.Slot.{Slot}
use Rattle.event_grammar.specs.Grammar.{many, row}
use Rattle.event_grammar.specs.InGrammar.{node_name}
use Rattle.event_grammar.specs.Trees.{Node, Nodes}
use Rattle.parse_output.specs.Ends.{end_at}
use Rattle.parse_output.specs.Forest.{one}
use Rattle.parse_output.specs.Written.{IsInOrder, Writes}
use Rattle.parse_slots.specs.Left.{Fill, IsFilled}
use Rattle.parse_lines.specs.declared.walk.Walk.{Walk}
use Rattle.parse_lines.specs.Content.{AreNext}
use Rattle.parse_lines.specs.Ends.{written_to}
use Rattle.parse_lines.specs.Standing.{TEXT_MAX, standing}
use Rattle.event_definition.specs.Pieces.{Pieces, grouped, join}
use Rattle.event_definition.specs.ThematicBreak.{break_name}
use Rattle.parse_pieces.specs.Written.{WritesPieces}
use Rattle.parse_raw.specs.RawLines.{AreRaw}

-- these bytes are left of the line, and all before them is written
pub record AreLeft {A : Type 0} (text left : List ℕ) (w : Walk A) : Type 0 where
  pub order : IsInOrder text w.out
  pub at : written_to w ≡ end_at (w.line_end - length left) 0
  pub next : AreNext text (written_to w) left
  pub within : length left ≤ w.line_end
  pub end : w.line_end ≤ length text
  pub fits : length text ≤ TEXT_MAX

-- nodes are written, and these bytes are left of the line then
pub record WritesTokens {A : Type 0} (text left : List ℕ) (old new : Walk A) : Type 0 where
  pub nodes : Nodes
  pub writes : Writes text old.out new.out nodes
  pub raw : AreRaw nodes
  pub same : standing new ≡ standing old
  pub after : AreLeft text left new

-- From a walk before these bytes, nodes are written, and others are left.
abbrev pub LeadsOn : {A : Type 0} → List ℕ → List ℕ → Walk A → Walk A → Type 0
LeadsOn before after old new = (text : List ℕ) → AreLeft text before old → WritesTokens text after old new

-- an event of a name is written, whose row is filled
pub record WritesEvent {A : Type 0} (name : Name) (text left : List ℕ) (old new : Walk A) : Type 0 where
  pub tokens : WritesTokens text left old new
  pub node : Node
  pub nodes_are : tokens.nodes ≡ one node
  pub named : node_name node ≡ name
  pub filled : IsFilled Lines Plain node

-- From a walk before these bytes, an event is written, and others are left.
abbrev pub PassesEvent : {A : Type 0} → Name → List ℕ → List ℕ → Walk A → Walk A → Type 0
PassesEvent name before after old new = (text : List ℕ) → AreLeft text before old → WritesEvent name text after old new

-- ---- breaks (CommonMark 4.1)

-- what is left of the row of a break after its first sequence
abbrev pub break_rest : List Slot
break_rest = many n.ThematicBreakSequence ∷ []

-- a byte that is no white space comes first
abbrev pub BeginsDark : List ℕ → Type 0
BeginsDark [] = ⊥
BeginsDark (b ∷ bs) = is_white b ≡ false

-- the nodes of a part of a break are written, which may be its first where a marker comes first
pub record WritesBreakPart {A : Type 0} (text before after : List ℕ) (old new : Walk A) : Type 0 where
  pub tokens : WritesTokens text after old new
  pub more : Fill Lines break_rest tokens.nodes break_rest
  pub first : BeginsDark before → Fill Lines (row n.ThematicBreak Plain) tokens.nodes break_rest
  -- exactly the first of the pieces of these bytes
  pub part : Pieces
  pub parts : grouped break_name before ≡ join part (grouped break_name after)
  pub exact : WritesPieces text part old.out new.out

-- From a walk before these bytes, a part of a break is written, and others are left.
abbrev pub PassesBreakPart : {A : Type 0} → List ℕ → List ℕ → Walk A → Walk A → Type 0
PassesBreakPart before after old new = (text : List ℕ) → AreLeft text before old → WritesBreakPart text before after old new
