-- What the states of `flow` do.
use Rattle.std.specs.Prelude.{false, refl, ◌==◌, ◌||◌, ◌-◌}
use Rattle.markdown_options.specs.declared.configuration.Constructs.{Constructs}
use Rattle.engine_events.specs.declared.event.Name.TheVariants as names
use Rattle.engine_states.specs.declared.state.Block.{Block as BlockName}
use Rattle.engine_states.specs.declared.state.Block.TheVariants as state_block
use Rattle.engine_states.specs.declared.state.Inline.TheVariants as state_inline
use Rattle.engine_states.specs.declared.state.State.TheVariants as states
use Rattle.engine_programs.specs.Bodies.{FixedName, Body, Answer, Keep, Tries, Byte, On, Test, around}
use Rattle.definition_text.specs.Ascii.{line_feed, number_sign, dollar, asterisk, hyphen, less_than, equals, underscore, backtick, tilde}
use Rattle.state_table.specs.BlockWords.{is_indented, is_white, no_limit, next, retry, part, free}
use Rattle.state_table.specs.Words.{is_space_or_tab}

module _ {M : Type 0} where
  -- an attempt by the first state at a block; where there is none, the other state
  abbrev pub block_or : BlockName → BlockName → Body M
  block_or start other = Tries false (next state_block.FlowAfter) (next other) (retry start)

  -- where there is none, a table or content
  abbrev pub block_or_table : BlockName → Body M
  block_or_table start = block_or start state_block.FlowBeforeGfmTable

  -- the first byte after the indent tells which blocks may begin; HTML, whose indent is its own, was tried before
  abbrev pub flow_by_byte : Body M
  flow_by_byte =
      On (λ b. (b == dollar) || (b == backtick) || (b == tilde)) (block_or_table state_block.RawFlowStart)
      (On (λ b. b == number_sign) (Answer (retry state_block.FlowBeforeHeadingAtx))
      (On (λ b. (b == hyphen) || (b == equals)) (Answer (retry state_block.FlowBeforeHeadingSetext))
      (On (λ b. (b == asterisk) || (b == underscore)) (Answer (retry state_block.FlowBeforeThematicBreak))
      (Answer (retry state_block.FlowBeforeGfmTable)))))

  -- at the start of a line: one that begins with no white space isn't blank, and has no indent
  abbrev pub flow_start : Body M
  flow_start =
      Byte (Answer states.Ok)
      (On is_white (Answer (retry state_block.FlowBlankLineBefore))
      (Keep (λ c. record c.tokenize_state { space_or_tab_size = 0 }) (λ c i. refl)
      (On (λ b. b == less_than) (Answer (retry state_block.FlowBeforeHtml)) flow_by_byte)))

  -- before a blank line
  abbrev pub flow_blank_line_before : Body M
  flow_blank_line_before =
      Tries false (next state_block.FlowBlankLineAfter) (next state_block.FlowBeforeCodeIndented) (retry state_block.BlankLineStart)

  -- before indented code
  abbrev pub flow_before_code_indented : Body M
  flow_before_code_indented =
      block_or state_block.CodeIndentedStart state_block.FlowBeforeHtml

  -- at the indent, and then after it
  abbrev pub flow_before_raw : Constructs → Body M
  flow_before_raw constructs =
      On is_space_or_tab
      (Keep (λ c. record c.tokenize_state { size_c = no_limit }) (λ c i. refl)
      (Tries false (next state_block.FlowBeforeRaw) (next state_block.FlowBeforeGfmTable) (part state_inline.SpaceOrTabStart)))
      (Keep (λ c. record c.tokenize_state { space_or_tab_size = no_limit - c.tokenize_state.size_c }) (λ c i. refl)
      (Test (λ c. is_indented constructs c) (Answer (retry state_block.FlowBeforeGfmTable)) flow_by_byte))

  -- before HTML, which reads its indent
  abbrev pub flow_before_html : Body M
  flow_before_html =
      On is_space_or_tab (block_or state_block.HtmlFlowStart state_block.FlowBeforeRaw)
      (block_or_table state_block.HtmlFlowStart)

  -- before an ATX heading
  abbrev pub flow_before_heading_atx : Body M
  flow_before_heading_atx =
      block_or_table state_block.HeadingAtxStart

  -- before an underline
  abbrev pub flow_before_heading_setext : Body M
  flow_before_heading_setext =
      On (λ b. b == hyphen) (block_or state_block.HeadingSetextStart state_block.FlowBeforeThematicBreak)
      (block_or_table state_block.HeadingSetextStart)

  -- before a thematic break
  abbrev pub flow_before_thematic_break : Body M
  flow_before_thematic_break =
      block_or_table state_block.ThematicBreakStart

  -- before a row of a table
  abbrev pub flow_before_gfm_table : Body M
  flow_before_gfm_table =
      block_or state_block.GfmTableStart state_block.FlowBeforeContent

  -- before a line of content
  abbrev pub flow_before_content : Body M
  flow_before_content =
      Byte (Answer states.Ok)
      (Tries false (next state_block.FlowAfter) states.Nok (retry state_block.ContentChunkStart))

  -- at the end of a blank line
  abbrev pub flow_blank_line_after : Body M
  flow_blank_line_after =
      On (λ b. b == line_feed) (around (FixedName names.BlankLineEnding) (free (Answer (next state_block.FlowStart))))
      (Answer states.Ok)

  -- after a block, or a line of content
  abbrev pub flow_after : Body M
  flow_after =
      On (λ b. b == line_feed) (around (FixedName names.LineEnding) (Answer (next state_block.FlowStart)))
      (Answer states.Ok)
