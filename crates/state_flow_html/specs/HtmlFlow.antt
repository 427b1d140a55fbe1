-- What the states of `html_flow` do.
use Rattle.std.specs.Prelude.{ℕ, List, true, false, refl, ◌==◌, ◌||◌}
use Rattle.std.specs.Char.{is_ascii_alphabetic, is_ascii_alphanumeric}
use Rattle.markdown_options.specs.declared.configuration.Constructs.{Constructs}
use Rattle.engine_events.specs.declared.event.Name.TheVariants as names
use Rattle.engine_states.specs.declared.state.Block.{Block as BlockName}
use Rattle.engine_states.specs.declared.state.Block.TheVariants as state_block
use Rattle.engine_states.specs.declared.state.State.TheVariants as states
use Rattle.engine_programs.specs.Bodies.{FixedName, Body, Answer, Consume, Enter, Exit, Keep, Tries, Byte, On, Test, around, has}
use Rattle.definition_text.specs.Ascii.{line_feed, exclamation_mark, double_quote, single_quote, hyphen, dot, slash, colon, less_than, equals}
use Rattle.definition_text.specs.Ascii.{greater_than, question_mark, left_bracket, right_bracket, underscore, backtick}
use Rattle.state_table.specs.BlockWords.{at_line_end, indent_max, is_white, next, retry, concrete, all_free}
use Rattle.state_table.specs.Words.{count_one, is_space_or_tab, less}
use Rattle.state_flow_html.specs.HtmlNames.{is_cdata, is_raw_name, is_block_name, is_short_name, kind_raw, kind_comment, kind_instruction}
use Rattle.state_flow_html.specs.HtmlNames.{kind_declaration, kind_cdata, kind_basic, kind_complete, ends_before_blank}

module _ {M : Type 0} where
  -- in a line: a byte that may begin the end of a block of this kind
  abbrev pub html_flow_may_end : ℕ → BlockName → Body M
  html_flow_may_end kind n =
      Test (λ c. c.tokenize_state.marker == kind) (Consume (Answer (next n))) (Consume (Answer (next state_block.HtmlFlowContinuation)))

  -- at a byte of a line
  abbrev pub html_flow_in_line : Body M
  html_flow_in_line =
      On (λ b. b == hyphen) (html_flow_may_end kind_comment state_block.HtmlFlowContinuationCommentInside)
      (On (λ b. b == less_than) (html_flow_may_end kind_raw state_block.HtmlFlowContinuationRawTagOpen)
      (On (λ b. b == greater_than) (html_flow_may_end kind_declaration state_block.HtmlFlowContinuationClose)
      (On (λ b. b == question_mark) (html_flow_may_end kind_instruction state_block.HtmlFlowContinuationDeclarationInside)
      (On (λ b. b == right_bracket) (html_flow_may_end kind_cdata state_block.HtmlFlowContinuationCdataInside)
      (Consume (Answer (next state_block.HtmlFlowContinuation)))))))

  -- where a tag on a line of its own may begin a block: it interrupts no paragraph
  abbrev pub html_flow_begin_complete : List ℕ → Body M
  html_flow_begin_complete bytes =
      Test (λ c. c.interrupt) (Answer states.Nok)
      (Keep (λ c. record c.tokenize_state { marker = kind_complete }) (λ c i. refl)
      (Test (λ c. c.tokenize_state.seen) (Answer (retry state_block.HtmlFlowCompleteClosingTagAfter))
      (Test (is_raw_name bytes) (Answer states.Nok) (Answer (retry state_block.HtmlFlowCompleteAttributeNameBefore)))))

  -- where a tag may begin a block
  abbrev pub html_flow_begin_named : List ℕ → Body M
  html_flow_begin_named bytes =
      Test (is_block_name bytes)
      (Keep (λ c. record c.tokenize_state { marker = kind_basic }) (λ c i. refl)
      (On (λ b. b == slash) (Consume (Answer (next state_block.HtmlFlowBasicSelfClosing)))
      (concrete (Answer (retry state_block.HtmlFlowContinuation)))))
      (html_flow_begin_complete bytes)

  -- after the name of a tag
  abbrev pub html_flow_begin : List ℕ → Body M
  html_flow_begin bytes =
      Test (λ c. c.tokenize_state.seen) (html_flow_begin_named bytes)
      (Test (is_raw_name bytes)
      (On (λ b. b == slash) (Answer states.Nok)
      (Keep (λ c. record c.tokenize_state { marker = kind_raw }) (λ c i. refl)
      (concrete (Answer (retry state_block.HtmlFlowContinuation)))))
      (html_flow_begin_named bytes))

  -- at the start of a line, whose indent belongs to the block
  abbrev pub html_flow_start : Constructs → Body M
  html_flow_start constructs =
      Test (λ c. constructs.html_flow)
      (Enter (FixedName names.HtmlFlow)
      (Enter (FixedName names.HtmlFlowData)
      (Keep (λ c. record c.tokenize_state { size_c = indent_max constructs.code_indented }) (λ c i. refl)
      (Answer (retry state_block.HtmlFlowBefore)))))
      (Answer states.Nok)

  -- in the indent, or at the `<`
  abbrev pub html_flow_before : Body M
  html_flow_before =
      On (λ b. b == less_than) (Consume (Answer (next state_block.HtmlFlowOpen)))
      (On is_space_or_tab
      (Test (λ c. c.tokenize_state.size_c == 0) (Answer states.Nok)
      (Keep (λ c. record c.tokenize_state { size_c = less c.tokenize_state.size_c }) (λ c i. refl)
      (Consume (Answer (next state_block.HtmlFlowBefore)))))
      (Answer states.Nok))

  -- after the `<`
  abbrev pub html_flow_open : Body M
  html_flow_open =
      On (λ b. b == exclamation_mark) (Consume (Answer (next state_block.HtmlFlowDeclarationOpen)))
      (On (λ b. b == slash)
      (Keep (λ c. record c.tokenize_state { seen = true }) (λ c i. refl)
      (Consume
      (Keep (λ c. record c.tokenize_state { start = c.point.index }) (λ c i. refl)
      (Answer (next state_block.HtmlFlowTagCloseStart)))))
      (On (λ b. b == question_mark)
      (Keep (λ c. record c.tokenize_state { marker = kind_instruction }) (λ c i. refl)
      (concrete (Consume (Answer (next state_block.HtmlFlowContinuationDeclarationInside)))))
      (On is_ascii_alphabetic
      (Keep (λ c. record c.tokenize_state { start = c.point.index; seen = false }) (λ c i. refl)
      (Answer (retry state_block.HtmlFlowTagName)))
      (Answer states.Nok))))

  -- after `<!`
  abbrev pub html_flow_declaration_open : Body M
  html_flow_declaration_open =
      On (λ b. b == hyphen)
      (Keep (λ c. record c.tokenize_state { marker = kind_comment }) (λ c i. refl)
      (Consume (Answer (next state_block.HtmlFlowCommentOpenInside))))
      (On (λ b. b == left_bracket)
      (Keep (λ c. record c.tokenize_state { marker = kind_cdata; size = 0 }) (λ c i. refl)
      (Consume (Answer (next state_block.HtmlFlowCdataOpenInside))))
      (On is_ascii_alphabetic
      (Keep (λ c. record c.tokenize_state { marker = kind_declaration }) (λ c i. refl)
      (concrete (Consume (Answer (next state_block.HtmlFlowContinuationDeclarationInside)))))
      (Answer states.Nok)))

  -- after `<!-`
  abbrev pub html_flow_comment_open_inside : Body M
  html_flow_comment_open_inside =
      On (λ b. b == hyphen) (concrete (Consume (Answer (next state_block.HtmlFlowContinuationDeclarationInside))))
      (Answer states.Nok)

  -- in `<![CDATA[`
  abbrev pub html_flow_cdata_open_inside : Body M
  html_flow_cdata_open_inside =
      Byte (Answer states.Nok)
      (Test (λ c. has (is_cdata c.tokenize_state.size) c.current)
      (count_one
      (Test (λ c. c.tokenize_state.size == 6) (concrete (Consume (Answer (next state_block.HtmlFlowContinuation))))
      (Consume (Answer (next state_block.HtmlFlowCdataOpenInside)))))
      (Answer states.Nok))

  -- after `</`
  abbrev pub html_flow_tag_close_start : Body M
  html_flow_tag_close_start =
      On is_ascii_alphabetic (Consume (Answer (next state_block.HtmlFlowTagName))) (Answer states.Nok)

  -- in the name of a tag
  abbrev pub html_flow_tag_name : List ℕ → Body M
  html_flow_tag_name bytes =
      Byte (html_flow_begin bytes)
      (On (λ b. is_white b || (b == slash) || (b == greater_than)) (html_flow_begin bytes)
      (On (λ b. (b == hyphen) || is_ascii_alphanumeric b) (Consume (Answer (next state_block.HtmlFlowTagName))) (Answer states.Nok)))

  -- after the `/` of a block's tag
  abbrev pub html_flow_basic_self_closing : Body M
  html_flow_basic_self_closing =
      On (λ b. b == greater_than) (concrete (Consume (Answer (next state_block.HtmlFlowContinuation))))
      (Answer states.Nok)

  -- in a closing tag
  abbrev pub html_flow_complete_closing_tag_after : Body M
  html_flow_complete_closing_tag_after =
      On is_space_or_tab (Consume (Answer (next state_block.HtmlFlowCompleteClosingTagAfter)))
      (Answer (retry state_block.HtmlFlowCompleteEnd))

  -- before an attribute
  abbrev pub html_flow_complete_attribute_name_before : Body M
  html_flow_complete_attribute_name_before =
      On is_space_or_tab (Consume (Answer (next state_block.HtmlFlowCompleteAttributeNameBefore)))
      (On (λ b. b == slash) (Consume (Answer (next state_block.HtmlFlowCompleteEnd)))
      (On (λ b. (b == colon) || (b == underscore) || is_ascii_alphabetic b)
      (Consume (Answer (next state_block.HtmlFlowCompleteAttributeName)))
      (Answer (retry state_block.HtmlFlowCompleteEnd))))

  -- in the name of an attribute
  abbrev pub html_flow_complete_attribute_name : Body M
  html_flow_complete_attribute_name =
      On (λ b. (b == hyphen) || (b == dot) || (b == colon) || (b == underscore) || is_ascii_alphanumeric b)
      (Consume (Answer (next state_block.HtmlFlowCompleteAttributeName)))
      (Answer (retry state_block.HtmlFlowCompleteAttributeNameAfter))

  -- after the name of an attribute
  abbrev pub html_flow_complete_attribute_name_after : Body M
  html_flow_complete_attribute_name_after =
      On is_space_or_tab (Consume (Answer (next state_block.HtmlFlowCompleteAttributeNameAfter)))
      (On (λ b. b == equals) (Consume (Answer (next state_block.HtmlFlowCompleteAttributeValueBefore)))
      (Answer (retry state_block.HtmlFlowCompleteAttributeNameBefore)))

  -- before the value of an attribute
  abbrev pub html_flow_complete_attribute_value_before : Body M
  html_flow_complete_attribute_value_before =
      Byte (Answer states.Nok)
      (On (λ b. (b == line_feed) || (b == less_than) || (b == equals) || (b == greater_than) || (b == backtick))
      (Answer states.Nok)
      (On is_space_or_tab (Consume (Answer (next state_block.HtmlFlowCompleteAttributeValueBefore)))
      (On (λ b. b == double_quote)
      (Keep (λ c. record c.tokenize_state { marker_b = double_quote }) (λ c i. refl)
      (Consume (Answer (next state_block.HtmlFlowCompleteAttributeValueQuoted))))
      (On (λ b. b == single_quote)
      (Keep (λ c. record c.tokenize_state { marker_b = single_quote }) (λ c i. refl)
      (Consume (Answer (next state_block.HtmlFlowCompleteAttributeValueQuoted))))
      (Answer (retry state_block.HtmlFlowCompleteAttributeValueUnquoted))))))

  -- in a quoted value
  abbrev pub html_flow_complete_attribute_value_quoted : Body M
  html_flow_complete_attribute_value_quoted =
      at_line_end (Answer states.Nok)
      (Test (λ c. has (λ b. b == c.tokenize_state.marker_b) c.current)
      (Consume (Answer (next state_block.HtmlFlowCompleteAttributeValueQuotedAfter)))
      (Consume (Answer (next state_block.HtmlFlowCompleteAttributeValueQuoted))))

  -- in a value without quotes, which neither `=` nor a quote ends
  abbrev pub html_flow_complete_attribute_value_unquoted : Body M
  html_flow_complete_attribute_value_unquoted =
      Byte (Answer states.Nok)
      (On (λ b. is_white b || (b == double_quote) || (b == single_quote) || (b == less_than) || (b == equals) || (b == greater_than) || (b == backtick))
      (Answer (retry state_block.HtmlFlowCompleteAttributeNameBefore))
      (Consume (Answer (next state_block.HtmlFlowCompleteAttributeValueUnquoted))))

  -- after a quoted value
  abbrev pub html_flow_complete_attribute_value_quoted_after : Body M
  html_flow_complete_attribute_value_quoted_after =
      On (λ b. is_space_or_tab b || (b == slash) || (b == greater_than))
      (Answer (retry state_block.HtmlFlowCompleteAttributeNameBefore))
      (Answer states.Nok)

  -- at the end of a tag
  abbrev pub html_flow_complete_end : Body M
  html_flow_complete_end =
      On (λ b. b == greater_than) (Consume (Answer (next state_block.HtmlFlowCompleteAfter))) (Answer states.Nok)

  -- after a tag
  abbrev pub html_flow_complete_after : Body M
  html_flow_complete_after =
      at_line_end (concrete (Answer (retry state_block.HtmlFlowContinuation)))
      (On is_space_or_tab (Consume (Answer (next state_block.HtmlFlowCompleteAfter))) (Answer states.Nok))

  -- in a line
  abbrev pub html_flow_continuation : Body M
  html_flow_continuation =
      Byte (Exit (FixedName names.HtmlFlowData) (Answer (retry state_block.HtmlFlowContinuationStart)))
      (On (λ b. b == line_feed)
      (Test ends_before_blank
      (Exit (FixedName names.HtmlFlowData)
      (Tries true (next state_block.HtmlFlowContinuationAfter) (next state_block.HtmlFlowContinuationStart) (retry state_block.HtmlFlowBlankLineBefore)))
      (Exit (FixedName names.HtmlFlowData) (Answer (retry state_block.HtmlFlowContinuationStart))))
      html_flow_in_line)

  -- at a line ending, or at the end
  abbrev pub html_flow_continuation_start : Body M
  html_flow_continuation_start =
      Tries true (next state_block.HtmlFlowContinuationStartNonLazy) (next state_block.HtmlFlowContinuationAfter) (retry state_block.NonLazyContinuationStart)

  -- at a line ending that isn't followed by a lazy line
  abbrev pub html_flow_continuation_start_non_lazy : Body M
  html_flow_continuation_start_non_lazy =
      On (λ b. b == line_feed)
      (around (FixedName names.LineEnding) (Answer (next state_block.HtmlFlowContinuationBefore)))
      (Answer states.Nok)

  -- at the start of a line
  abbrev pub html_flow_continuation_before : Body M
  html_flow_continuation_before =
      at_line_end (Answer (retry state_block.HtmlFlowContinuationStart))
      (Enter (FixedName names.HtmlFlowData) html_flow_in_line)

  -- after a `-` of a comment
  abbrev pub html_flow_continuation_comment_inside : Body M
  html_flow_continuation_comment_inside =
      On (λ b. b == hyphen) (Consume (Answer (next state_block.HtmlFlowContinuationDeclarationInside)))
      (Answer (retry state_block.HtmlFlowContinuation))

  -- after a `<`
  abbrev pub html_flow_continuation_raw_tag_open : Body M
  html_flow_continuation_raw_tag_open =
      On (λ b. b == slash)
      (Consume
      (Keep (λ c. record c.tokenize_state { start = c.point.index }) (λ c i. refl)
      (Answer (next state_block.HtmlFlowContinuationRawEndTag))))
      (Answer (retry state_block.HtmlFlowContinuation))

  -- in the name of a closing tag
  abbrev pub html_flow_continuation_raw_end_tag : List ℕ → Body M
  html_flow_continuation_raw_end_tag bytes =
      On (λ b. b == greater_than)
      (Test (is_raw_name bytes) (Consume (Answer (next state_block.HtmlFlowContinuationClose)))
      (Answer (retry state_block.HtmlFlowContinuation)))
      (On is_ascii_alphabetic
      (Test is_short_name (Consume (Answer (next state_block.HtmlFlowContinuationRawEndTag)))
      (Answer (retry state_block.HtmlFlowContinuation)))
      (Answer (retry state_block.HtmlFlowContinuation)))

  -- after a `]`
  abbrev pub html_flow_continuation_cdata_inside : Body M
  html_flow_continuation_cdata_inside =
      On (λ b. b == right_bracket) (Consume (Answer (next state_block.HtmlFlowContinuationDeclarationInside)))
      (Answer (retry state_block.HtmlFlowContinuation))

  -- where a `>` ends it
  abbrev pub html_flow_continuation_declaration_inside : Body M
  html_flow_continuation_declaration_inside =
      On (λ b. b == greater_than) (Consume (Answer (next state_block.HtmlFlowContinuationClose)))
      (On (λ b. b == hyphen)
      (Test (λ c. c.tokenize_state.marker == kind_comment)
      (Consume (Answer (next state_block.HtmlFlowContinuationDeclarationInside)))
      (Answer (retry state_block.HtmlFlowContinuation)))
      (On (λ b. b == right_bracket)
      (Test (λ c. c.tokenize_state.marker == kind_cdata)
      (Consume (Answer (next state_block.HtmlFlowContinuationDeclarationInside)))
      (Answer (retry state_block.HtmlFlowContinuation)))
      (Answer (retry state_block.HtmlFlowContinuation))))

  -- in the last line
  abbrev pub html_flow_continuation_close : Body M
  html_flow_continuation_close =
      at_line_end (Exit (FixedName names.HtmlFlowData) (Answer (retry state_block.HtmlFlowContinuationAfter)))
      (Consume (Answer (next state_block.HtmlFlowContinuationClose)))

  -- at the end
  abbrev pub html_flow_continuation_after : Body M
  html_flow_continuation_after =
      Exit (FixedName names.HtmlFlow) (all_free (Answer states.Ok))

  -- at the line ending before a blank line
  abbrev pub html_flow_blank_line_before : Body M
  html_flow_blank_line_before =
      On (λ b. b == line_feed) (around (FixedName names.LineEnding) (Answer (next state_block.BlankLineStart)))
      (Answer states.Nok)
