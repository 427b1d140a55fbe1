-- The states of this crate by their names.
use Rattle.engine_states.specs.declared.state.Block.{Block as BlockName}
use Rattle.engine_states.specs.declared.state.Block.TheVariants as state_block
use Rattle.engine_states.specs.declared.state.State.TheVariants as states
use Rattle.markdown_engine.specs.Context.{Context}
use Rattle.engine_programs.specs.Bodies.{Body, Answer}
use Rattle.state_flow_table.specs.HeadingSetext.{heading_setext_start, heading_setext_before, heading_setext_inside}
use Rattle.state_flow_table.specs.HeadingSetext.{heading_setext_after}
use Rattle.state_flow_table.specs.GfmTable.{gfm_table_start, gfm_table_head_row_before, gfm_table_head_row_start}
use Rattle.state_flow_table.specs.GfmTable.{gfm_table_head_row_break, gfm_table_head_row_data, gfm_table_head_row_escape}
use Rattle.state_flow_table.specs.GfmTable.{gfm_table_head_delimiter_start, gfm_table_head_delimiter_before, gfm_table_head_delimiter_cell_before}
use Rattle.state_flow_table.specs.GfmTable.{gfm_table_head_delimiter_value_before, gfm_table_head_delimiter_left_alignment_after}
use Rattle.state_flow_table.specs.GfmTable.{gfm_table_head_delimiter_filler}
use Rattle.state_flow_table.specs.GfmTable.{gfm_table_head_delimiter_right_alignment_after, gfm_table_head_delimiter_cell_after}
use Rattle.state_flow_table.specs.GfmTable.{gfm_table_head_delimiter_nok}
use Rattle.state_flow_table.specs.GfmTable.{gfm_table_body_row_start, gfm_table_body_row_break, gfm_table_body_row_data}
use Rattle.state_flow_table.specs.GfmTable.{gfm_table_body_row_escape}

module _ {T M : Type 0} (x : Context T) where
  abbrev pub table_body : BlockName → Body M
  table_body state_block.HeadingSetextStart = heading_setext_start x.options.constructs
  table_body state_block.HeadingSetextBefore = heading_setext_before
  table_body state_block.HeadingSetextInside = heading_setext_inside
  table_body state_block.HeadingSetextAfter = heading_setext_after x.bytes x.options.constructs
  table_body state_block.GfmTableStart = gfm_table_start x.options.constructs
  table_body state_block.GfmTableHeadRowBefore = gfm_table_head_row_before
  table_body state_block.GfmTableHeadRowStart = gfm_table_head_row_start
  table_body state_block.GfmTableHeadRowBreak = gfm_table_head_row_break
  table_body state_block.GfmTableHeadRowData = gfm_table_head_row_data
  table_body state_block.GfmTableHeadRowEscape = gfm_table_head_row_escape
  table_body state_block.GfmTableHeadDelimiterStart = gfm_table_head_delimiter_start x.options.constructs
  table_body state_block.GfmTableHeadDelimiterBefore = gfm_table_head_delimiter_before
  table_body state_block.GfmTableHeadDelimiterCellBefore = gfm_table_head_delimiter_cell_before
  table_body state_block.GfmTableHeadDelimiterValueBefore = gfm_table_head_delimiter_value_before
  table_body state_block.GfmTableHeadDelimiterLeftAlignmentAfter = gfm_table_head_delimiter_left_alignment_after
  table_body state_block.GfmTableHeadDelimiterFiller = gfm_table_head_delimiter_filler
  table_body state_block.GfmTableHeadDelimiterRightAlignmentAfter = gfm_table_head_delimiter_right_alignment_after
  table_body state_block.GfmTableHeadDelimiterCellAfter = gfm_table_head_delimiter_cell_after x.bytes x.options.constructs
  table_body state_block.GfmTableHeadDelimiterNok = gfm_table_head_delimiter_nok
  table_body state_block.GfmTableBodyRowStart = gfm_table_body_row_start x.options.constructs
  table_body state_block.GfmTableBodyRowBreak = gfm_table_body_row_break
  table_body state_block.GfmTableBodyRowData = gfm_table_body_row_data
  table_body state_block.GfmTableBodyRowEscape = gfm_table_body_row_escape
  table_body n = Answer states.Nok
