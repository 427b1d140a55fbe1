-- The blocks that flow attempts by the byte at hand (CommonMark 4).
use Rattle.std.specs.Prelude.{◌≡◌, ℕ, Bool, true, false, ◌==◌, ◌-◌, ◌||◌, if◌then◌else◌, List, [], ◌∷◌, Some}
use Rattle.definition_text.specs.Ascii.{number_sign, dollar, asterisk, hyphen, less_than, equals, underscore, backtick, tilde}
use Rattle.engine_states.specs.declared.state.Block.{Block as BlockName}
use Rattle.engine_states.specs.declared.state.Block.TheVariants as state_block
use Rattle.markdown_engine.specs.Context.{Context}
use Rattle.engine_states.specs.declared.state.Name.{Name}
use Rattle.engine_states.specs.declared.state.Name.TheVariants.{Block}
use Rattle.markdown_engine.specs.Reading.{Config}
use Rattle.markdown_engine.specs.VirtualText.{Text}
use Rattle.state_table.specs.BlockWords.{is_indented, is_white, no_limit, retry}
use Rattle.state_table.specs.Words.{is_space_or_tab}
use Rattle.state_flow.specs.declared.flows.Flows.{Flows}
use Rattle.state_flow.specs.Flows.{flows_bodies}
use Rattle.state_verdicts.specs.Attempts.{ChoosesAmong}
use Rattle.state_verdicts.specs.BlockVerdicts.{Reads}

-- the blocks that flow attempts by the byte at hand; fenced code and math have one start
pub data BlockStart : Type 0 where
  BlankLine : BlockStart
  CodeIndented : BlockStart
  Html : BlockStart
  RawFlow : BlockStart
  HeadingAtx : BlockStart
  Underline : BlockStart
  ThematicBreak : BlockStart

-- the state with which an attempt begins
abbrev pub state_of : BlockStart → BlockName
state_of BlankLine = state_block.BlankLineStart
state_of CodeIndented = state_block.CodeIndentedStart
state_of Html = state_block.HtmlFlowStart
state_of RawFlow = state_block.RawFlowStart
state_of HeadingAtx = state_block.HeadingAtxStart
state_of Underline = state_block.HeadingSetextStart
state_of ThematicBreak = state_block.ThematicBreakStart

-- the state after one that is read
abbrev pub state_after : BlockStart → BlockName
state_after BlankLine = state_block.FlowBlankLineAfter
state_after s = state_block.FlowAfter

-- the bytes at which flow attempts a block; HTML may have an indent of its own
abbrev pub may_begin : BlockStart → ℕ → Bool
may_begin BlankLine b = is_white b
may_begin CodeIndented b = is_space_or_tab b
may_begin Html b = is_space_or_tab b || (b == less_than)
may_begin RawFlow b = (b == dollar) || (b == backtick) || (b == tilde)
may_begin HeadingAtx b = b == number_sign
may_begin Underline b = (b == hyphen) || (b == equals)
may_begin ThematicBreak b = (b == asterisk) || (b == hyphen) || (b == underscore)

-- those that flow attempts after the indent, in this order
abbrev pub after_indent : List BlockStart
after_indent = RawFlow ∷ HeadingAtx ∷ Underline ∷ ThematicBreak ∷ []

-- all of them, in the order in which flow attempts them
abbrev pub all_starts : List BlockStart
all_starts = BlankLine ∷ CodeIndented ∷ Html ∷ after_indent

-- those that may begin with a byte
abbrev pub those_at : ℕ → List BlockStart → List BlockStart
those_at b [] = []
those_at b (s ∷ ss) = if may_begin s b then s ∷ those_at b ss else those_at b ss

-- no white space was read before the block
abbrev pub unindented : Config Flows → Config Flows
unindented c = record c { tokenize_state = record c.tokenize_state { space_or_tab_size = 0 } }

-- how many columns of white space were read before it is kept
abbrev pub indented : Config Flows → Config Flows
indented c = record c { tokenize_state = record c.tokenize_state { space_or_tab_size = no_limit - c.tokenize_state.size_c } }

-- the name of the state with which an attempt begins, and of the state after one that goes well
abbrev pub begins : BlockStart → Name
begins s = Block (state_of s)

abbrev pub goes_on : BlockStart → Name
goes_on s = Block (state_after s)

-- flow comes from a state to whatever these attempts come to, and to nothing else
abbrev pub Chooses : {T : Type 0} → Context T → Text → Config Flows → BlockName → Config Flows → List BlockStart → BlockName → Type 0
Chooses x text c s d starts other = ChoosesAmong (flows_bodies x) text begins goes_on c (Block s) d starts (Block other)

-- this holds of each configuration with a byte at hand
abbrev pub WithByte : (T : Type 0) → (Context T → Text → Config Flows → ℕ → Type 0) → Type 0
WithByte T says = (x : Context T) (text : Text) (c : Config Flows) (b : ℕ) → c.current ≡ Some b → says x text c b

-- an attempt at a block that may not begin with the byte at hand fails
abbrev pub FlowFailsLaw : Type 0 → Type 0
FlowFailsLaw T = WithByte T (λ x text c b. (s : BlockStart) → may_begin s b ≡ false
    → (d : Config Flows) × Reads x text c (retry (state_of s)) d false)

-- at the start of a line that begins with no white space, flow attempts the blocks that may begin with the byte, of all that there are; then comes a table or
-- content
abbrev pub FlowStartChoice : Type 0 → Type 0
FlowStartChoice T = WithByte T (λ x text c b. is_white b ≡ false
    → Chooses x text c state_block.FlowStart (unindented c) (those_at b all_starts) state_block.FlowBeforeGfmTable)

-- at white space at the start of a line, or at its end, flow attempts a blank line and indented code; then comes HTML
abbrev pub FlowWhiteChoice : Type 0 → Type 0
FlowWhiteChoice T = WithByte T (λ x text c b. is_white b ≡ true
    → Chooses x text c state_block.FlowStart c (BlankLine ∷ CodeIndented ∷ []) state_block.FlowBeforeHtml)

-- after an indent that isn't that of code, flow attempts the blocks that may begin with the byte; then comes a table or content
abbrev pub FlowIndentChoice : Type 0 → Type 0
FlowIndentChoice T = WithByte T (λ x text c b. is_space_or_tab b ≡ false → is_indented x.options.constructs (indented c) ≡ false
    → Chooses x text c state_block.FlowBeforeRaw (indented c) (those_at b after_indent) state_block.FlowBeforeGfmTable)
