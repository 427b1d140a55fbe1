-- The states of this crate by their names, and that they fit the table.
use Rattle.std.specs.Prelude.{◌≡◌, true, refl, ℕ, List, Option}
use Rattle.engine_states.specs.declared.state.Inline.{Inline as InlineName}
use Rattle.engine_states.specs.declared.state.Inline.TheVariants as state_inline
use Rattle.engine_states.specs.declared.state.Name.TheVariants.{Inline}
use Rattle.engine_states.specs.declared.state.State.TheVariants as states
use Rattle.markdown_engine.specs.Context.{Context}
use Rattle.state_table.specs.declared.Group.TheVariants as groups
use Rattle.engine_programs.specs.Bodies.{Body, Answer}
use Rattle.engine_programs.specs.Sorts.{fits, implies}
use Rattle.state_table.specs.Table.{is_in, sorts}
use Rattle.state_leaves.specs.Attention.{attention_start, attention_inside}
use Rattle.state_leaves.specs.CharacterEscape.{character_escape_start, character_escape_inside}
use Rattle.state_leaves.specs.CharacterReference.{character_reference_start, character_reference_open, character_reference_numeric}
use Rattle.state_leaves.specs.CharacterReference.{character_reference_value}
use Rattle.state_leaves.specs.HardBreakEscape.{hard_break_escape_start, hard_break_escape_after}
use Rattle.state_leaves.specs.Data.{data_start, data_at_break, data_inside}
use Rattle.state_leaves.specs.RawText.{raw_text_start, raw_text_sequence_open, raw_text_between, raw_text_data, raw_text_sequence_close}

module _ {T M : Type 0} (texts : List ℕ → Option (List ℕ)) (x : Context T) where
  abbrev pub leaf_body : InlineName → Body M
  leaf_body state_inline.AttentionStart = attention_start x.options.constructs
  leaf_body state_inline.AttentionInside = attention_inside
  leaf_body state_inline.CharacterEscapeStart = character_escape_start x.options.constructs.character_escape
  leaf_body state_inline.CharacterEscapeInside = character_escape_inside
  leaf_body state_inline.CharacterReferenceStart = character_reference_start x.options.constructs.character_reference
  leaf_body state_inline.CharacterReferenceOpen = character_reference_open
  leaf_body state_inline.CharacterReferenceNumeric = character_reference_numeric
  leaf_body state_inline.CharacterReferenceValue = character_reference_value texts x.bytes
  leaf_body state_inline.HardBreakEscapeStart = hard_break_escape_start x.options.constructs.hard_break_escape
  leaf_body state_inline.HardBreakEscapeAfter = hard_break_escape_after
  leaf_body state_inline.DataStart = data_start
  leaf_body state_inline.DataAtBreak = data_at_break
  leaf_body state_inline.DataInside = data_inside
  leaf_body state_inline.RawTextStart = raw_text_start x.options.constructs.code_text x.options.constructs.math_text
  leaf_body state_inline.RawTextSequenceOpen = raw_text_sequence_open x.options.math_text_single_dollar
  leaf_body state_inline.RawTextBetween = raw_text_between
  leaf_body state_inline.RawTextData = raw_text_data
  leaf_body state_inline.RawTextSequenceClose = raw_text_sequence_close
  leaf_body n = Answer states.Nok

-- they fit the table
pub leaves_fit : (M : Type 0) {T : Type 0} (texts : List ℕ → Option (List ℕ)) (x : Context T) (n : InlineName)
    → implies (is_in groups.Leaves n) (fits sorts 64 (Inline n) (leaf_body {M = M} texts x n)) ≡ true
leaves_fit M texts x state_inline.AttentionStart = refl
leaves_fit M texts x n = refl
