-- What the states of `gfm_table` do.
use Rattle.std.specs.Prelude.{ℕ, List, true, false, refl, length, ◌==◌, ◌||◌}
use Rattle.markdown_options.specs.declared.configuration.Constructs.{Constructs}
use Rattle.engine_events.specs.declared.event.Name.TheVariants as names
use Rattle.engine_states.specs.declared.resolve.Name.TheVariants as resolvers
use Rattle.engine_states.specs.declared.state.Block.TheVariants as state_block
use Rattle.engine_states.specs.declared.state.State.TheVariants as states
use Rattle.engine_programs.specs.Bodies.{FixedName, Body, Answer, Consume, Enter, EnterLink, Exit, Keep, Register, Byte, On, AfterFeed, Test, around}
use Rattle.definition_text.specs.Ascii.{line_feed, hyphen, colon, backslash, vertical_bar}
use Rattle.state_table.specs.BlockWords.{over_white, over_indent, white_to, is_indented, at_line_end, no_limit, is_white, next, retry, free}
use Rattle.state_table.specs.BlockWords.{interrupting, text_link}
use Rattle.state_table.specs.Words.{more, is_space_or_tab}
use Rattle.state_left.specs.Before.{is_after_rows}
use Rattle.state_left.specs.Left.{is_head_left}
use Rattle.state_flow_table.specs.Cells.{count_cells, has_all_cells}

abbrev pub gfm_table_end : {M : Type 0} → List ℕ → Constructs → Body M
gfm_table_end bytes constructs = Test (λ c. has_all_cells c.tokenize_state)
    (Test (λ c. is_head_left bytes constructs.definition c)
    (AfterFeed (Answer states.Nok)
    (Exit (FixedName names.GfmTableDelimiterRow)
    (Exit (FixedName names.GfmTableHead) (Register resolvers.GfmTable (free (Answer states.Ok))))))
    (Answer states.Nok))
    (Answer states.Nok)

abbrev pub gfm_table_read_part : {M : Type 0} → Body M
gfm_table_read_part = On (λ b. b == vertical_bar)
    (around (FixedName names.GfmTableCellDivider) (Answer (next state_block.GfmTableBodyRowBreak)))
    (EnterLink (FixedName names.Data) text_link
    (On (λ b. b == backslash) (Consume (Answer (next state_block.GfmTableBodyRowEscape)))
    (Consume (Answer (next state_block.GfmTableBodyRowData)))))

abbrev pub gfm_table_end_head : {M : Type 0} → Body M
gfm_table_end_head = Test (λ c. count_cells c.tokenize_state == 0) (Answer states.Nok)
    (Keep (λ c. record c.tokenize_state { size = count_cells c.tokenize_state; size_b = 0; seen = false; end = c.point.index }) (λ c i. refl)
    (interrupting
    (Exit (FixedName names.GfmTableRow)
    (around (FixedName names.LineEnding) (Answer (next state_block.GfmTableHeadDelimiterStart))))))

module _ {M : Type 0} where
  -- at the start of a line
  abbrev pub gfm_table_start : Constructs → Body M
  gfm_table_start constructs =
      Test (λ c. constructs.gfm_table)
      (Test (λ c. c.lazy) (Answer (retry state_block.GfmTableHeadRowBefore))
      (Test (λ c. is_after_rows c.events) (Answer (retry state_block.GfmTableBodyRowStart))
      (Answer (retry state_block.GfmTableHeadRowBefore))))
      (Answer states.Nok)

  -- before the row of the head
  abbrev pub gfm_table_head_row_before : Body M
  gfm_table_head_row_before =
      Keep (λ c. record c.tokenize_state { start = length c.events; size = 0; seen = false }) (λ c i. refl)
      (Enter (FixedName names.GfmTableHead)
      (Enter (FixedName names.GfmTableRow) (Answer (retry state_block.GfmTableHeadRowStart))))

  -- at the first bar, or elsewhere
  abbrev pub gfm_table_head_row_start : Body M
  gfm_table_head_row_start =
      On (λ b. b == vertical_bar)
      (around (FixedName names.GfmTableCellDivider) (Answer (next state_block.GfmTableHeadRowBreak)))
      (Answer (retry state_block.GfmTableHeadRowBreak))

  -- between the parts of the row
  abbrev pub gfm_table_head_row_break : Body M
  gfm_table_head_row_break =
      Byte (Answer states.Nok)
      (On (λ b. b == line_feed) (AfterFeed (Answer states.Nok) gfm_table_end_head)
      (On is_space_or_tab (white_to no_limit state_block.GfmTableHeadRowBreak)
      (On (λ b. b == vertical_bar)
      (Keep (λ c. record c.tokenize_state { size = more c.tokenize_state.size; seen = false }) (λ c i. refl)
      (around (FixedName names.GfmTableCellDivider) (Answer (next state_block.GfmTableHeadRowBreak))))
      (Keep (λ c. record c.tokenize_state { seen = true }) (λ c i. refl)
      (EnterLink (FixedName names.Data) text_link
      (On (λ b. b == backslash) (Consume (Answer (next state_block.GfmTableHeadRowEscape)))
      (Consume (Answer (next state_block.GfmTableHeadRowData)))))))))

  -- in a cell
  abbrev pub gfm_table_head_row_data : Body M
  gfm_table_head_row_data =
      Byte (Exit (FixedName names.Data) (Answer (retry state_block.GfmTableHeadRowBreak)))
      (On (λ b. is_white b || (b == vertical_bar))
      (Exit (FixedName names.Data) (Answer (retry state_block.GfmTableHeadRowBreak)))
      (On (λ b. b == backslash) (Consume (Answer (next state_block.GfmTableHeadRowEscape)))
      (Consume (Answer (next state_block.GfmTableHeadRowData)))))

  -- after a backslash
  abbrev pub gfm_table_head_row_escape : Body M
  gfm_table_head_row_escape =
      On (λ b. (b == backslash) || (b == vertical_bar)) (Consume (Answer (next state_block.GfmTableHeadRowData)))
      (Answer (retry state_block.GfmTableHeadRowData))

  -- at the start of the row of delimiters
  abbrev pub gfm_table_head_delimiter_start : Constructs → Body M
  gfm_table_head_delimiter_start constructs =
      Test (λ c. c.lazy) (Answer states.Nok)
      (Enter (FixedName names.GfmTableDelimiterRow) (over_indent constructs state_block.GfmTableHeadDelimiterBefore))

  -- at a bar, or at the first value
  abbrev pub gfm_table_head_delimiter_before : Body M
  gfm_table_head_delimiter_before =
      On (λ b. b == vertical_bar)
      (Keep (λ c. record c.tokenize_state { seen = true }) (λ c i. refl)
      (around (FixedName names.GfmTableCellDivider) (Answer (next state_block.GfmTableHeadDelimiterCellBefore))))
      (Answer (retry state_block.GfmTableHeadDelimiterValueBefore))

  -- after a bar
  abbrev pub gfm_table_head_delimiter_cell_before : Body M
  gfm_table_head_delimiter_cell_before =
      over_white no_limit state_block.GfmTableHeadDelimiterValueBefore

  -- before a value
  abbrev pub gfm_table_head_delimiter_value_before : Body M
  gfm_table_head_delimiter_value_before =
      at_line_end (Answer (retry state_block.GfmTableHeadDelimiterCellAfter))
      (On (λ b. b == colon)
      (Keep (λ c. record c.tokenize_state { size_b = more c.tokenize_state.size_b; seen = true }) (λ c i. refl)
      (around (FixedName names.GfmTableDelimiterMarker)
      (Answer (next state_block.GfmTableHeadDelimiterLeftAlignmentAfter))))
      (On (λ b. b == hyphen)
      (Keep (λ c. record c.tokenize_state { size_b = more c.tokenize_state.size_b }) (λ c i. refl)
      (Enter (FixedName names.GfmTableDelimiterFiller)
      (Consume (Answer (next state_block.GfmTableHeadDelimiterFiller)))))
      (Answer states.Nok)))

  -- after a colon on the left
  abbrev pub gfm_table_head_delimiter_left_alignment_after : Body M
  gfm_table_head_delimiter_left_alignment_after =
      On (λ b. b == hyphen)
      (Enter (FixedName names.GfmTableDelimiterFiller)
      (Consume (Answer (next state_block.GfmTableHeadDelimiterFiller))))
      (Answer states.Nok)

  -- in dashes
  abbrev pub gfm_table_head_delimiter_filler : Body M
  gfm_table_head_delimiter_filler =
      Byte
      (Exit (FixedName names.GfmTableDelimiterFiller)
      (Answer (retry state_block.GfmTableHeadDelimiterRightAlignmentAfter)))
      (On (λ b. b == hyphen) (Consume (Answer (next state_block.GfmTableHeadDelimiterFiller)))
      (On (λ b. b == colon)
      (Exit (FixedName names.GfmTableDelimiterFiller)
      (Keep (λ c. record c.tokenize_state { seen = true }) (λ c i. refl)
      (around (FixedName names.GfmTableDelimiterMarker)
      (Answer (next state_block.GfmTableHeadDelimiterRightAlignmentAfter)))))
      (Exit (FixedName names.GfmTableDelimiterFiller)
      (Answer (retry state_block.GfmTableHeadDelimiterRightAlignmentAfter)))))

  -- after a value
  abbrev pub gfm_table_head_delimiter_right_alignment_after : Body M
  gfm_table_head_delimiter_right_alignment_after =
      over_white no_limit state_block.GfmTableHeadDelimiterCellAfter

  -- after a value, or at the end of the row
  abbrev pub gfm_table_head_delimiter_cell_after : List ℕ → Constructs → Body M
  gfm_table_head_delimiter_cell_after bytes constructs =
      at_line_end (gfm_table_end bytes constructs)
      (On (λ b. b == vertical_bar)
      (Keep (λ c. record c.tokenize_state { seen = true }) (λ c i. refl)
      (around (FixedName names.GfmTableCellDivider) (Answer (next state_block.GfmTableHeadDelimiterCellBefore))))
      (Answer states.Nok))

  -- where no row of delimiters is
  abbrev pub gfm_table_head_delimiter_nok : Body M
  gfm_table_head_delimiter_nok =
      Answer states.Nok

  -- at the start of a row
  abbrev pub gfm_table_body_row_start : Constructs → Body M
  gfm_table_body_row_start constructs =
      Byte (Answer states.Nok)
      (Test (λ c. is_indented constructs c) (Answer states.Nok) (Enter (FixedName names.GfmTableRow) gfm_table_read_part))

  -- between the parts of a row
  abbrev pub gfm_table_body_row_break : Body M
  gfm_table_body_row_break =
      at_line_end (Exit (FixedName names.GfmTableRow) (free (Answer states.Ok)))
      (On is_space_or_tab (white_to no_limit state_block.GfmTableBodyRowBreak) gfm_table_read_part)

  -- in a cell
  abbrev pub gfm_table_body_row_data : Body M
  gfm_table_body_row_data =
      Byte (Exit (FixedName names.Data) (Answer (retry state_block.GfmTableBodyRowBreak)))
      (On (λ b. is_white b || (b == vertical_bar))
      (Exit (FixedName names.Data) (Answer (retry state_block.GfmTableBodyRowBreak)))
      (On (λ b. b == backslash) (Consume (Answer (next state_block.GfmTableBodyRowEscape)))
      (Consume (Answer (next state_block.GfmTableBodyRowData)))))

  -- after a backslash
  abbrev pub gfm_table_body_row_escape : Body M
  gfm_table_body_row_escape =
      On (λ b. (b == backslash) || (b == vertical_bar)) (Consume (Answer (next state_block.GfmTableBodyRowData)))
      (Answer (retry state_block.GfmTableBodyRowData))
