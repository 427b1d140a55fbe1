-- The states of this crate by their names, and that they fit the table.
use Rattle.std.specs.Prelude.{◌≡◌, true, refl}
use Rattle.engine_states.specs.declared.state.Block.{Block as BlockName}
use Rattle.engine_states.specs.declared.state.Block.TheVariants as state_block
use Rattle.engine_states.specs.declared.state.Name.TheVariants.{Block}
use Rattle.engine_states.specs.declared.state.State.TheVariants as states
use Rattle.markdown_engine.specs.Context.{Context}
use Rattle.state_table.specs.declared.block.Group.TheVariants as groups
use Rattle.engine_programs.specs.Bodies.{Body, Answer}
use Rattle.engine_programs.specs.Sorts.{fits, implies}
use Rattle.state_table.specs.BlockTable.{block_sorts, is_in_group}
use Rattle.state_flow_leaves.specs.BlankLine.{blank_line_start, blank_line_after}
use Rattle.state_flow_leaves.specs.NonLazyContinuation.{non_lazy_continuation_start, non_lazy_continuation_after}
use Rattle.state_flow_leaves.specs.ThematicBreak.{thematic_break_start, thematic_break_before, thematic_break_at_break}
use Rattle.state_flow_leaves.specs.ThematicBreak.{thematic_break_sequence}
use Rattle.state_flow_leaves.specs.HeadingAtx.{heading_atx_start, heading_atx_before, heading_atx_sequence_open}
use Rattle.state_flow_leaves.specs.HeadingAtx.{heading_atx_at_break, heading_atx_sequence_further, heading_atx_data}
use Rattle.state_flow_leaves.specs.CodeIndented.{code_indented_start, code_indented_at_break, code_indented_inside}
use Rattle.state_flow_leaves.specs.CodeIndented.{code_indented_after, code_indented_further_start, code_indented_further_begin}
use Rattle.state_flow_leaves.specs.CodeIndented.{code_indented_further_after}
use Rattle.state_flow_leaves.specs.RawFlow.{raw_flow_start, raw_flow_before_sequence_open, raw_flow_sequence_open}
use Rattle.state_flow_leaves.specs.RawFlow.{raw_flow_info_before, raw_flow_info, raw_flow_meta_before}
use Rattle.state_flow_leaves.specs.RawFlow.{raw_flow_meta, raw_flow_at_non_lazy_break, raw_flow_close_start}
use Rattle.state_flow_leaves.specs.RawFlow.{raw_flow_before_sequence_close, raw_flow_sequence_close, raw_flow_sequence_close_after}
use Rattle.state_flow_leaves.specs.RawFlow.{raw_flow_content_before, raw_flow_content_start, raw_flow_before_content_chunk}
use Rattle.state_flow_leaves.specs.RawFlow.{raw_flow_content_chunk, raw_flow_after}

module _ {T M : Type 0} (x : Context T) where
  abbrev pub leaves_body : BlockName → Body M
  leaves_body state_block.BlankLineStart = blank_line_start
  leaves_body state_block.BlankLineAfter = blank_line_after
  leaves_body state_block.NonLazyContinuationStart = non_lazy_continuation_start
  leaves_body state_block.NonLazyContinuationAfter = non_lazy_continuation_after
  leaves_body state_block.ThematicBreakStart = thematic_break_start x.options.constructs
  leaves_body state_block.ThematicBreakBefore = thematic_break_before
  leaves_body state_block.ThematicBreakAtBreak = thematic_break_at_break
  leaves_body state_block.ThematicBreakSequence = thematic_break_sequence
  leaves_body state_block.HeadingAtxStart = heading_atx_start x.options.constructs
  leaves_body state_block.HeadingAtxBefore = heading_atx_before
  leaves_body state_block.HeadingAtxSequenceOpen = heading_atx_sequence_open
  leaves_body state_block.HeadingAtxAtBreak = heading_atx_at_break
  leaves_body state_block.HeadingAtxSequenceFurther = heading_atx_sequence_further
  leaves_body state_block.HeadingAtxData = heading_atx_data
  leaves_body state_block.CodeIndentedStart = code_indented_start x.options.constructs
  leaves_body state_block.CodeIndentedAtBreak = code_indented_at_break
  leaves_body state_block.CodeIndentedInside = code_indented_inside
  leaves_body state_block.CodeIndentedAfter = code_indented_after
  leaves_body state_block.CodeIndentedFurtherStart = code_indented_further_start
  leaves_body state_block.CodeIndentedFurtherBegin = code_indented_further_begin
  leaves_body state_block.CodeIndentedFurtherAfter = code_indented_further_after
  leaves_body state_block.RawFlowStart = raw_flow_start
  leaves_body state_block.RawFlowBeforeSequenceOpen = raw_flow_before_sequence_open x.options.constructs
  leaves_body state_block.RawFlowSequenceOpen = raw_flow_sequence_open
  leaves_body state_block.RawFlowInfoBefore = raw_flow_info_before
  leaves_body state_block.RawFlowInfo = raw_flow_info
  leaves_body state_block.RawFlowMetaBefore = raw_flow_meta_before
  leaves_body state_block.RawFlowMeta = raw_flow_meta x.bytes
  leaves_body state_block.RawFlowAtNonLazyBreak = raw_flow_at_non_lazy_break
  leaves_body state_block.RawFlowCloseStart = raw_flow_close_start x.options.constructs
  leaves_body state_block.RawFlowBeforeSequenceClose = raw_flow_before_sequence_close
  leaves_body state_block.RawFlowSequenceClose = raw_flow_sequence_close
  leaves_body state_block.RawFlowSequenceCloseAfter = raw_flow_sequence_close_after
  leaves_body state_block.RawFlowContentBefore = raw_flow_content_before
  leaves_body state_block.RawFlowContentStart = raw_flow_content_start
  leaves_body state_block.RawFlowBeforeContentChunk = raw_flow_before_content_chunk
  leaves_body state_block.RawFlowContentChunk = raw_flow_content_chunk
  leaves_body state_block.RawFlowAfter = raw_flow_after
  leaves_body n = Answer states.Nok

-- they fit the table
pub leaves_fit : (M : Type 0) {T : Type 0} (x : Context T) (n : BlockName)
    → implies (is_in_group groups.Leaves n) (fits block_sorts 64 (Block n) (leaves_body {M = M} x n)) ≡ true
leaves_fit M x state_block.BlankLineStart = refl
leaves_fit M x n = refl
