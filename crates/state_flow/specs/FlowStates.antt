-- The states of this crate by their names.
use Rattle.engine_states.specs.declared.state.Block.{Block as BlockName}
use Rattle.engine_states.specs.declared.state.Block.TheVariants as state_block
use Rattle.engine_states.specs.declared.state.State.TheVariants as states
use Rattle.markdown_engine.specs.Context.{Context}
use Rattle.engine_programs.specs.Bodies.{Body, Answer}
use Rattle.state_flow.specs.Flow.{flow_start, flow_blank_line_before, flow_before_code_indented}
use Rattle.state_flow.specs.Flow.{flow_before_raw, flow_before_html, flow_before_heading_atx}
use Rattle.state_flow.specs.Flow.{flow_before_heading_setext, flow_before_thematic_break, flow_before_gfm_table}
use Rattle.state_flow.specs.Flow.{flow_before_content, flow_blank_line_after, flow_after}

module _ {T M : Type 0} (x : Context T) where
  abbrev pub flow_body : BlockName → Body M
  flow_body state_block.FlowStart = flow_start
  flow_body state_block.FlowBlankLineBefore = flow_blank_line_before
  flow_body state_block.FlowBeforeCodeIndented = flow_before_code_indented
  flow_body state_block.FlowBeforeRaw = flow_before_raw x.options.constructs
  flow_body state_block.FlowBeforeHtml = flow_before_html
  flow_body state_block.FlowBeforeHeadingAtx = flow_before_heading_atx
  flow_body state_block.FlowBeforeHeadingSetext = flow_before_heading_setext
  flow_body state_block.FlowBeforeThematicBreak = flow_before_thematic_break
  flow_body state_block.FlowBeforeGfmTable = flow_before_gfm_table
  flow_body state_block.FlowBeforeContent = flow_before_content
  flow_body state_block.FlowBlankLineAfter = flow_blank_line_after
  flow_body state_block.FlowAfter = flow_after
  flow_body n = Answer states.Nok
