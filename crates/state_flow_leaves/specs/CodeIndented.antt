-- What the states of `code_indented` do.
use Rattle.std.specs.Prelude.{ℕ, Bool, false, ◌==◌, ◌&&◌, ◌||◌}
use Rattle.markdown_options.specs.declared.configuration.Constructs.{Constructs}
use Rattle.engine_events.specs.declared.event.Name.TheVariants as names
use Rattle.engine_states.specs.declared.state.Block.TheVariants as state_block
use Rattle.engine_states.specs.declared.state.State.TheVariants as states
use Rattle.markdown_engine.specs.Reading.{Config}
use Rattle.markdown_engine.specs.VirtualText.{is_feed}
use Rattle.engine_programs.specs.Bodies.{FixedName, Body, Answer, Consume, Enter, Exit, Tries, Byte, On, Test, around}
use Rattle.definition_text.specs.Ascii.{line_feed}
use Rattle.state_table.specs.BlockWords.{white_to, at_line_end, next, retry, free}
use Rattle.state_table.specs.Words.{is_space_or_tab}

-- the columns that make a line indented code
abbrev pub code_indent : ℕ
code_indent = 4

module _ {M : Type 0} where
  -- at the start of a line that isn't one of this block
  abbrev pub begins_foreign_line : Config M → Bool
  begins_foreign_line c = is_feed c.previous && (c.lazy || c.pierce)

  -- at the start of a line
  abbrev pub code_indented_start : Constructs → Body M
  code_indented_start constructs =
      Test (λ c. constructs.code_indented)
      (Test (λ c. c.interrupt) (Answer states.Nok)
      (On is_space_or_tab (Enter (FixedName names.CodeIndented) (white_to code_indent state_block.CodeIndentedAtBreak))
      (Answer states.Nok)))
      (Answer states.Nok)

  -- before or after a chunk
  abbrev pub code_indented_at_break : Body M
  code_indented_at_break =
      Byte (Answer (retry state_block.CodeIndentedAfter))
      (On (λ b. b == line_feed)
      (Tries false (next state_block.CodeIndentedInside) (next state_block.CodeIndentedAfter) (retry state_block.CodeIndentedFurtherStart))
      (Test (λ c. c.tokenize_state.size_c == 0)
      (Enter (FixedName names.CodeFlowChunk) (Consume (Answer (next state_block.CodeIndentedInside))))
      (Answer states.Nok)))

  -- in a chunk
  abbrev pub code_indented_inside : Body M
  code_indented_inside =
      at_line_end (Exit (FixedName names.CodeFlowChunk) (Answer (retry state_block.CodeIndentedAtBreak)))
      (Consume (Answer (next state_block.CodeIndentedInside)))

  -- at the end
  abbrev pub code_indented_after : Body M
  code_indented_after =
      Exit (FixedName names.CodeIndented) (free (Answer states.Ok))

  -- at a line ending, or at the start of a line
  abbrev pub code_indented_further_start : Body M
  code_indented_further_start =
      Test begins_foreign_line (Answer states.Nok)
      (On (λ b. b == line_feed)
      (around (FixedName names.LineEnding) (Answer (next state_block.CodeIndentedFurtherStart)))
      (On is_space_or_tab (white_to code_indent state_block.CodeIndentedFurtherBegin) (Answer states.Nok)))

  -- after an indent
  abbrev pub code_indented_further_begin : Body M
  code_indented_further_begin =
      Byte (Answer states.Nok)
      (On (λ b. b == line_feed) (Answer (retry state_block.CodeIndentedFurtherStart))
      (Test (λ c. c.tokenize_state.size_c == 0)
      (Enter (FixedName names.CodeFlowChunk)
      (On is_space_or_tab (Consume (Answer (next state_block.CodeIndentedFurtherAfter)))
      (Consume (Answer states.Ok))))
      (Answer states.Nok)))

  -- in a chunk that may be blank
  abbrev pub code_indented_further_after : Body M
  code_indented_further_after =
      Byte (Answer states.Nok)
      (On is_space_or_tab (Consume (Answer (next state_block.CodeIndentedFurtherAfter)))
      (On (λ b. b == line_feed)
      (Exit (FixedName names.CodeFlowChunk) (Answer (retry state_block.CodeIndentedFurtherStart)))
      (Answer states.Ok)))
