-- What the states of `raw_flow` do.
use Rattle.std.specs.Prelude.{ℕ, Bool, true, false, not, nat_lt, refl, ◌==◌, ◌&&◌, ◌||◌, if◌then◌else◌, List, [], length, drop, slice_get, Option, None, Some}
use Rattle.markdown_options.specs.declared.configuration.Constructs.{Constructs}
use Rattle.engine_events.specs.declared.event.Name.TheVariants as names
use Rattle.engine_states.specs.declared.state.Block.TheVariants as state_block
use Rattle.engine_states.specs.declared.state.Inline.TheVariants as state_inline
use Rattle.engine_states.specs.declared.state.State.TheVariants as states
use Rattle.markdown_engine.specs.Reading.{Config}
use Rattle.engine_programs.specs.Bodies.{FixedName, HeldName, Body, Answer, Consume, Enter, EnterLink, Exit, Keep, Hold, Tries, Byte, On}
use Rattle.engine_programs.specs.Bodies.{Test, around, has}
use Rattle.definition_text.specs.Ascii.{line_feed, dollar, backtick, tilde}
use Rattle.definition_text.specs.Columns.{indent}
use Rattle.definition_text.specs.Lines.{ends_line}
use Rattle.state_table.specs.BlockWords.{over_white, over_indent, at_line_end, no_limit, next, retry, part}
use Rattle.state_table.specs.BlockWords.{concrete, all_free, string_link}
use Rattle.state_table.specs.Words.{more, at_marker, count_one, is_space_or_tab}

-- nothing, or a byte that begins a line ending
abbrev pub ends_here : Option ℕ → Bool
ends_here None = true
ends_here (Some b) = ends_line b

module _ {M : Type 0} where
  -- a backtick in the info of a fence of backticks
  abbrev pub is_in_backticks : Config M → Bool
  is_in_backticks c = at_marker c && (c.tokenize_state.marker == backtick)

  -- the same, or a dollar in what follows a fence of dollars
  abbrev pub is_in_marked : Config M → Bool
  is_in_marked c = at_marker c && ((c.tokenize_state.marker == backtick) || (c.tokenize_state.marker == dollar))

  -- what is left of the text
  abbrev pub text_ahead : List ℕ → Config M → List ℕ
  text_ahead bytes c = if nat_lt (length bytes) c.point.index then [] else drop c.point.index bytes

  -- only spaces and tabs are left of the line
  abbrev pub is_blank_ahead : List ℕ → Config M → Bool
  is_blank_ahead bytes c = ends_here (slice_get (text_ahead bytes c) (indent (text_ahead bytes c)))

  -- at the first of the spaces and tabs at the end of a line
  abbrev pub ends_meta : List ℕ → Config M → Bool
  ends_meta bytes c = has is_space_or_tab c.current && not (has is_space_or_tab c.previous) && is_blank_ahead bytes c

  -- an opening fence has at least 3 bytes, of dollars 2
  abbrev pub is_short : Config M → Bool
  is_short c = nat_lt c.tokenize_state.size (if c.tokenize_state.marker == dollar then 2 else 3)

  -- at a line ending, if the line after it isn't lazy
  abbrev pub raw_flow_go_on : Body M
  raw_flow_go_on =
      Tries true (next state_block.RawFlowAtNonLazyBreak) (next state_block.RawFlowAfter) (retry state_block.NonLazyContinuationStart)

  -- after the opening fence
  abbrev pub raw_flow_opened : Body M
  raw_flow_opened =
      Test is_short (Answer states.Nok)
      (Exit (HeldName 3)
      (Test (λ c. c.tokenize_state.marker == dollar) (over_white no_limit state_block.RawFlowMetaBefore)
      (over_white no_limit state_block.RawFlowInfoBefore)))

  -- after a closing fence, which has at least as many bytes as the opening one
  abbrev pub raw_flow_closed : Body M
  raw_flow_closed =
      Test (λ c. nat_lt c.tokenize_state.size_b c.tokenize_state.size) (Answer states.Nok)
      (Exit (HeldName 3) (over_white no_limit state_block.RawFlowSequenceCloseAfter))

  -- at the first byte of the fence
  abbrev pub raw_flow_open : ℕ → Body M
  raw_flow_open marker =
      Keep (λ c. record c.tokenize_state { marker = marker; size = 1 }) (λ c i. refl)
      (Enter (HeldName 1) (Enter (HeldName 2) (Enter (HeldName 3) (Consume (Answer (next state_block.RawFlowSequenceOpen))))))

  -- the same, of code
  abbrev pub raw_flow_code : ℕ → Body M
  raw_flow_code marker =
      Hold 1 names.CodeFenced
      (Hold 2 names.CodeFencedFence
      (Hold 3 names.CodeFencedFenceSequence
      (Hold 4 names.CodeFencedFenceInfo
      (Hold 5 names.CodeFencedFenceMeta
      (Hold 6 names.CodeFlowChunk (raw_flow_open marker))))))

  -- the same, of math
  abbrev pub raw_flow_math : Body M
  raw_flow_math =
      Hold 1 names.MathFlow
      (Hold 2 names.MathFlowFence
      (Hold 3 names.MathFlowFenceSequence
      (Hold 4 names.MathFlowFenceMeta
      (Hold 5 names.MathFlowFenceMeta
      (Hold 6 names.MathFlowChunk (raw_flow_open dollar))))))

  -- at the first byte after the indent
  abbrev pub raw_flow_start : Body M
  raw_flow_start = Answer (retry state_block.RawFlowBeforeSequenceOpen)

  -- at the fence
  abbrev pub raw_flow_before_sequence_open : Constructs → Body M
  raw_flow_before_sequence_open constructs =
      On (λ b. b == backtick) (Test (λ c. constructs.code_fenced) (raw_flow_code backtick) (Answer states.Nok))
      (On (λ b. b == tilde) (Test (λ c. constructs.code_fenced) (raw_flow_code tilde) (Answer states.Nok))
      (On (λ b. b == dollar) (Test (λ c. constructs.math_flow) raw_flow_math (Answer states.Nok)) (Answer states.Nok)))

  -- in the opening fence
  abbrev pub raw_flow_sequence_open : Body M
  raw_flow_sequence_open =
      Byte raw_flow_opened
      (Test at_marker (count_one (Consume (Answer (next state_block.RawFlowSequenceOpen)))) raw_flow_opened)

  -- before the info, or at the end of the line
  abbrev pub raw_flow_info_before : Body M
  raw_flow_info_before =
      at_line_end (Exit (HeldName 2) (concrete raw_flow_go_on))
      (Test is_in_backticks (Answer states.Nok)
      (Enter (HeldName 4)
      (EnterLink (FixedName names.Data) string_link (Consume (Answer (next state_block.RawFlowInfo))))))

  -- in the info
  abbrev pub raw_flow_info : Body M
  raw_flow_info =
      at_line_end (Exit (FixedName names.Data) (Exit (HeldName 4) (Answer (retry state_block.RawFlowInfoBefore))))
      (On is_space_or_tab
      (Exit (FixedName names.Data) (Exit (HeldName 4) (over_white no_limit state_block.RawFlowMetaBefore)))
      (Test is_in_backticks (Answer states.Nok)
      (Consume (Answer (next state_block.RawFlowInfo)))))

  -- before what follows the info, or at the end of the line
  abbrev pub raw_flow_meta_before : Body M
  raw_flow_meta_before =
      at_line_end (Answer (retry state_block.RawFlowInfoBefore))
      (Test is_in_marked (Answer states.Nok)
      (Enter (HeldName 5)
      (EnterLink (FixedName names.Data) string_link (Consume (Answer (next state_block.RawFlowMeta))))))

  -- in what follows the info: white space at the end of the line is no part of it
  abbrev pub raw_flow_meta : List ℕ → Body M
  raw_flow_meta bytes =
      at_line_end (Exit (FixedName names.Data) (Exit (HeldName 5) (Answer (retry state_block.RawFlowInfoBefore))))
      (Test (ends_meta bytes)
      (Exit (FixedName names.Data) (Exit (HeldName 5) (over_white no_limit state_block.RawFlowInfoBefore)))
      (Test is_in_marked (Answer states.Nok)
      (Consume (Answer (next state_block.RawFlowMeta)))))

  -- at a line ending that isn't followed by a lazy line, or at the end of the text
  abbrev pub raw_flow_at_non_lazy_break : Body M
  raw_flow_at_non_lazy_break =
      On (λ b. b == line_feed) (Answer (retry state_block.RawFlowContentBefore)) (Answer (retry state_block.RawFlowAfter))

  -- at the start of a line that may be a closing fence
  abbrev pub raw_flow_close_start : Constructs → Body M
  raw_flow_close_start constructs =
      Enter (HeldName 2) (over_indent constructs state_block.RawFlowBeforeSequenceClose)

  -- at a closing fence
  abbrev pub raw_flow_before_sequence_close : Body M
  raw_flow_before_sequence_close =
      Byte (Answer states.Nok)
      (Test at_marker
      (Enter (HeldName 3)
      (Keep (λ c. record c.tokenize_state { size_b = 1 }) (λ c i. refl)
      (Consume (Answer (next state_block.RawFlowSequenceClose)))))
      (Answer states.Nok))

  -- in a closing fence
  abbrev pub raw_flow_sequence_close : Body M
  raw_flow_sequence_close =
      Byte raw_flow_closed
      (Test at_marker
      (Keep (λ c. record c.tokenize_state { size_b = more c.tokenize_state.size_b }) (λ c i. refl)
      (Consume (Answer (next state_block.RawFlowSequenceClose))))
      raw_flow_closed)

  -- after a closing fence
  abbrev pub raw_flow_sequence_close_after : Body M
  raw_flow_sequence_close_after =
      at_line_end (Exit (HeldName 2) (Answer states.Ok)) (Answer states.Nok)

  -- at the line ending before a closing fence or content
  abbrev pub raw_flow_content_before : Body M
  raw_flow_content_before =
      On (λ b. b == line_feed)
      (around (FixedName names.LineEnding)
      (Tries false (next state_block.RawFlowAfter) (next state_block.RawFlowContentStart) (next state_block.RawFlowCloseStart)))
      (Answer states.Nok)

  -- at the start of a line of content
  abbrev pub raw_flow_content_start : Body M
  raw_flow_content_start =
      Test (λ c. c.tokenize_state.space_or_tab_size == 0) (Answer (retry state_block.RawFlowBeforeContentChunk))
      (On is_space_or_tab
      (Keep (λ c. record c.tokenize_state { size_c = c.tokenize_state.space_or_tab_size }) (λ c i. refl)
      (Tries false (next state_block.RawFlowBeforeContentChunk) states.Nok (part state_inline.SpaceOrTabStart)))
      (Answer (retry state_block.RawFlowBeforeContentChunk)))

  -- before content
  abbrev pub raw_flow_before_content_chunk : Body M
  raw_flow_before_content_chunk =
      at_line_end raw_flow_go_on
      (Enter (HeldName 6) (Consume (Answer (next state_block.RawFlowContentChunk))))

  -- in content
  abbrev pub raw_flow_content_chunk : Body M
  raw_flow_content_chunk =
      at_line_end (Exit (HeldName 6) (Answer (retry state_block.RawFlowBeforeContentChunk)))
      (Consume (Answer (next state_block.RawFlowContentChunk)))

  -- at the end
  abbrev pub raw_flow_after : Body M
  raw_flow_after =
      Exit (HeldName 1) (all_free (Answer states.Ok))
