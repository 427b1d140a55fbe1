-- What is written of the fence of code or math, one part after another (CommonMark 4.5).
use Rattle.std.specs.Prelude.{◌≡◌, ◌⊎◌, ◌≤◌, ◌<◌, ◌+◌, ℕ, Bool, true, false, List, [], ◌∷◌, Option, None, Some, if◌then◌else◌, drop, length, take}
use Rattle.std.specs.List.{list_any, position_or_len}
use Rattle.definition_text.specs.Columns.{bare, bytes_of, is_white, trim}
use Rattle.definition_text.specs.Runs.{after_run}
use Rattle.markdown_options.specs.declared.configuration.Constructs.{Constructs}
use Rattle.markdown_options.specs.declared.line_ending.LineEnding.{LineEnding}
use Rattle.engine_events.specs.Names.{is_listed, same_name}
use Rattle.engine_events.specs.declared.event.Name.{Name}
use Rattle.engine_events.specs.declared.event.Name.TheVariants as n
use Rattle.definition_text.specs.BlockLines.{BlockLine}
use Rattle.definition_text.specs.Lines.{ends_line}
use Rattle.definition_block.specs.CodeFenced.{Fence, fence_start}
use Rattle.definition_block.specs.MathFlow.{math_info, math_start}
use Rattle.definition_inline.specs.CharacterReference.{Names}
use Rattle.definition_inline.specs.Strings.{string_text}
use Rattle.event_grammar.specs.declared.slot.Between.TheVariants.{Lines, Spaces}
use Rattle.event_grammar.specs.declared.slot.Form.TheVariants.{Closing, Plain}
use Rattle.event_grammar.specs.declared.slot.Slot.{Slot}
use Rattle.event_grammar.specs.Grammar.{lead, opt, row, string_row}
use Rattle.event_grammar.specs.InGrammar.{kids_of, node_name}
use Rattle.event_grammar.specs.References.{named}
use Rattle.event_grammar.specs.Trees.{Node, Nodes, Nil}
use Rattle.event_tokens.specs.Tokens.{is_among}
use Rattle.event_meaning.specs.Blocks.{info_of}
use Rattle.event_meaning.specs.Children.{child}
use Rattle.event_meaning.specs.Strings.{string_of}
use Rattle.parse_output.specs.Ends.{end_at}
use Rattle.parse_output.specs.Forest.{one}
use Rattle.parse_output.specs.Written.{Enters, IsInOrder, Writes, end_in}
use Rattle.parse_laid.specs.Leaves.{AreTaken, IsFenceLine}
use Rattle.parse_laid.specs.Places.{AtEnding, Between, LineRest, Within}
use Rattle.parse_lines.specs.declared.walk.Walk.{Walk}
use Rattle.parse_lines.specs.Content.{AreNext}
use Rattle.parse_lines.specs.Ends.{IsWrittenToRest, WritesQuiet, written_to}
use Rattle.parse_lines.specs.InContent.{IsWhole}
use Rattle.parse_lines.specs.Standing.{StandsAt, around, standing}
use Rattle.parse_lines.specs.Steps.{HasSameOpen}
use Rattle.parse_raw.specs.declared.fence_names.FenceNames.{FenceNames}
use Rattle.parse_raw.specs.Bytes.{AreClosing, fence_marks}
use Rattle.parse_raw.specs.RawLines.{AreRaw, WritesLines}
use Rattle.parse_slots.specs.Left.{Fill, IsFilled}
use Rattle.parse_references.specs.Sound.{AreSound, is_asked_on, IsSound, ruled_names}

-- ---- names

-- the names of math, or those of code
pub record AreNames (math : Bool) (names : FenceNames) : Type 0 where
  pub block : names.block ≡ (if math then n.MathFlow else n.CodeFenced)
  pub fence : names.fence ≡ (if math then n.MathFlowFence else n.CodeFencedFence)
  pub sequence : names.sequence ≡ (if math then n.MathFlowFenceSequence else n.CodeFencedFenceSequence)
  pub info : names.info ≡ (if math then None else Some n.CodeFencedFenceInfo)
  pub meta : names.meta ≡ (if math then n.MathFlowFenceMeta else n.CodeFencedFenceMeta)
  pub chunk : names.chunk ≡ (if math then n.MathFlowChunk else n.CodeFlowChunk)

-- ---- parts

-- these bytes are left of a line, and all before them is written
pub record IsBefore {A : Type 0} (text : List ℕ) (ending : Option LineEnding) (left : List LineRest) (bytes : List ℕ) (w : Walk A) : Type 0 where
  pub stands : StandsAt text (AtEnding ending left) (standing w)
  pub order : IsInOrder text w.out
  pub whole : IsWhole w
  pub next : AreNext text (end_in w.out) bytes
  pub end : (end_in w.out).index + length bytes ≡ w.line_end
  pub dark : list_any ends_line bytes ≡ false

-- an info of these bytes; there is none without any
abbrev pub info_by : Constructs → Names → List ℕ → Option (List ℕ)
info_by on names [] = None
info_by on names (b ∷ bs) = Some (string_text on names (b ∷ bs))

-- Parts of a fence are written up to these bytes, with this info among them. They lead its row from slots to others.
pub record WritesParts {A : Type 0} (on : Constructs) (names : Names) (text : List ℕ) (ending : Option LineEnding) (left : List LineRest)
    (info : Option (List ℕ)) (slots more : List Slot) (bytes : List ℕ) (old new : Walk A) : Type 0 where
  pub nodes : Nodes
  pub writes : Writes text old.out new.out nodes
  pub raw : AreRaw nodes
  pub found : info_of names text (child n.CodeFencedFenceInfo nodes) ≡ info
  pub around : HasSameOpen (standing old) (standing new)
  pub before : IsBefore text ending left bytes new
  pub fill : Fill Spaces slots nodes more
  pub sound : AreSound on names text nodes

-- From a walk before these bytes, parts are written up to others.
abbrev pub LeadsTo : {A : Type 0} → Constructs → Names → Option (List ℕ) → List Slot → List Slot → List ℕ → List ℕ → Walk A → Walk A → Type 0
LeadsTo on names info slots more from to old new =
    (text : List ℕ) (ending : Option LineEnding) (left : List LineRest) → IsBefore text ending left from old
    → WritesParts on names text ending left info slots more to old new

-- a name of a string in a fence
pub record IsPartName (name : Name) : Type 0 where
  pub no_data : same_name name n.Data ≡ false
  pub no_definition : same_name name n.Definition ≡ false
  pub no_code : same_name name n.CodeFencedFence ≡ false
  pub no_math : same_name name n.MathFlowFence ≡ false
  pub row_is : row name Plain ≡ string_row
  pub unruled : is_listed ruled_names name ≡ false
  pub made : (on : Constructs) → is_asked_on on name ≡ true

-- the node of a string by a name, whose row is filled; none without bytes
abbrev pub IsPartOf : Constructs → Names → List ℕ → Name → List ℕ → Nodes → Type 0
IsPartOf on names text name [] ns = ns ≡ Nil
IsPartOf on names text name (b ∷ bs) ns =
    (node : Node) × (ns ≡ one node) × (node_name node ≡ name) × (string_of names text (kids_of node) ≡ string_text on names (b ∷ bs))
    × IsFilled Spaces Plain node

-- The node of a string is written, up to other bytes.
pub record WritesPart {A : Type 0} (on : Constructs) (names : Names) (text : List ℕ) (ending : Option LineEnding) (left : List LineRest) (name : Name)
    (string bytes : List ℕ) (old new : Walk A) : Type 0 where
  pub nodes : Nodes
  pub is_part : IsPartOf on names text name string nodes
  pub writes : Writes text old.out new.out nodes
  pub raw : AreRaw nodes
  pub around : HasSameOpen (standing old) (standing new)
  pub before : IsBefore text ending left bytes new
  pub sound : AreSound on names text nodes

-- how many bytes of a text are the info: math has none
abbrev pub info_size : Bool → List ℕ → ℕ
info_size true text = 0
info_size false text = position_or_len is_white text

abbrev pub info_in : Bool → Constructs → Names → List ℕ → Option (List ℕ)
info_in true on names text = None
info_in false on names text = info_by on names (take (position_or_len is_white text) text)

-- what a fence may hold after its sequence
abbrev pub fence_slots : Bool → List Slot
fence_slots true = opt n.MathFlowFenceMeta ∷ []
fence_slots false = lead n.CodeFencedFenceInfo ∷ opt n.CodeFencedFenceMeta ∷ []

-- the slots after a string: no node is written for no bytes
abbrev pub after_string : List ℕ → List Slot → List Slot → List Slot
after_string [] slots more = slots
after_string (b ∷ bs) slots more = more

-- after the info, and after what follows it
abbrev pub info_slots : Bool → List ℕ → List Slot
info_slots true text = fence_slots true
info_slots false text = after_string (take (position_or_len is_white text) text) (fence_slots false) (opt n.CodeFencedFenceMeta ∷ [])

abbrev pub meta_slots : Bool → List ℕ → List Slot
meta_slots math text = after_string (bare (drop (info_size math text) text)) (info_slots math text) []

-- no white space comes first
abbrev pub BeginsBare : List ℕ → Type 0
BeginsBare [] = Unit {0}
BeginsBare (b ∷ bs) = is_white b ≡ false

-- the name of a fence
abbrev pub fence_name : Bool → Name
fence_name true = n.MathFlowFence
fence_name false = n.CodeFencedFence

-- The opening fence is written, which is all that is left of a line, with the info that it has.
pub record WritesFenceOf {A : Type 0} (on : Constructs) (names : Names) (math : Bool) (byte : ℕ) (bare : List ℕ) (text : List ℕ) (ending : Option LineEnding)
    (left : List LineRest) (old new : Walk A) : Type 0 where
  pub node : Node
  pub named_so : node_name node ≡ fence_name math
  pub info : info_of names text (child n.CodeFencedFenceInfo (kids_of node)) ≡ info_in math on names (trim (after_run byte bare))
  pub definitions : named n.Definition (one node) ≡ []
  pub writes : Writes text old.out new.out (one node)
  pub around : HasSameOpen (standing old) (standing new)
  pub before : IsBefore text ending left [] new
  pub filled : IsFilled Lines Plain node
  pub sound : IsSound on names text node

abbrev pub WritesFence : {A : Type 0} → Constructs → Names → Bool → ℕ → List ℕ → Walk A → Walk A → Type 0
WritesFence on names math byte bare old new =
    (text : List ℕ) (ending : Option LineEnding) (left : List LineRest) → IsBefore text ending left bare old
    → WritesFenceOf on names math byte bare text ending left old new

-- ---- the block

abbrev pub block_name : Bool → Name
block_name true = n.MathFlow
block_name false = n.CodeFenced

abbrev pub chunk_name : Bool → Name
chunk_name true = n.MathFlowChunk
chunk_name false = n.CodeFlowChunk

-- an info that a block of code or math has
abbrev pub block_info : Bool → Constructs → Names → List ℕ → Option (List ℕ) → Type 0
block_info true on names info found = info ≡ math_info
block_info false on names info found = found ≡ info_by on names info

-- The block is entered after nodes that spell nothing, and its fence and these lines are written.
pub record WritesOpened {A : Type 0} (on : Constructs) (names : Names) (text : List ℕ) (fence : Fence) (first : Option LineEnding) (ls : List BlockLine)
    (after : List LineRest) (fence_names : FenceNames) (old new : Walk A) : Type 0 where
  pub math : Bool
  pub are : AreNames math fence_names
  pub space : Walk A
  pub entered : Walk A
  pub quiet : WritesQuiet text old.out space.out
  pub enters : Enters text fence_names.block space.out entered.out
  pub node : Node
  pub named_so : node_name node ≡ fence_name math
  pub info : block_info math on names fence.info (info_of names text (child n.CodeFencedFenceInfo (kids_of node)))
  pub definitions : named n.Definition (one node) ≡ []
  pub fenced : Walk A
  pub writes_fence : Writes text entered.out fenced.out (one node)
  pub lines : WritesLines text (chunk_name math) first ls after fenced new
  pub around : HasSameOpen (standing old) (standing fenced)
  pub starts : (written_to old).index ≤ (written_to space).index
  pub begins : (written_to space).index ≤ old.line_end
  -- which lines may close it
  pub mark : is_among (fence_marks math) fence.byte ≡ true
  -- the construct is on by which the lines are read
  pub made : is_asked_on old.on.now (block_name math) ≡ true
  pub some : 0 < fence.run
  pub filled : IsFilled Lines Plain node
  pub sound : IsSound on names text node

-- Where a fence begins, it is written so, with lines that it doesn't close.
abbrev pub WritesOpening : {A : Type 0} → Constructs → Names → ℕ → FenceNames → Walk A → Walk A → Type 0
WritesOpening on names count fence_names old new =
    (text : List ℕ) (fence : Fence) (here : LineRest) (left after : List LineRest) (ls : List BlockLine) → count ≡ length ls
    → StandsAt text (Within here left) (standing old) → IsWrittenToRest old → IsInOrder text old.out
    → (fence_start old.on.now here.rest ≡ Some fence) ⊎ (math_start old.on.now here.rest ≡ Some fence)
    → AreTaken old.on.now (around (standing old)) (IsFenceLine old.on.now fence) ls (Between left) (Between after)
    → WritesOpened on names text fence here.beside.ending ls after fence_names old new

-- The closing fence is written after white space, which is all that is left of a line.
pub record WritesClosingOf {A : Type 0} (math : Bool) (text : List ℕ) (here : LineRest) (left : List LineRest) (old new : Walk A) : Type 0 where
  pub space : Walk A
  pub quiet : WritesQuiet text old.out space.out
  pub node : Node
  pub named_so : node_name node ≡ fence_name math
  pub definitions : named n.Definition (one node) ≡ []
  pub writes : Writes text space.out new.out (one node)
  pub same : standing new ≡ standing old
  pub stands : StandsAt text (AtEnding here.beside.ending left) (standing new)
  pub written : written_to new ≡ end_at new.line_end 0
  pub filled : IsFilled Lines Closing node

abbrev pub WritesClosing : {A : Type 0} → FenceNames → Walk A → Walk A → Type 0
WritesClosing fence_names old new =
    (math : Bool) (text : List ℕ) (here : LineRest) (left : List LineRest) → AreNames math fence_names → StandsAt text (Within here left) (standing old)
    → IsWrittenToRest old → IsInOrder text old.out → AreClosing math (bytes_of (bare here.rest)) → WritesClosingOf math text here left old new
