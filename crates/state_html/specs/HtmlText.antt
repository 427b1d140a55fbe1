-- What the states of `html_text` do.
use Rattle.std.specs.Prelude.{codes, ℕ, Bool, false, refl, slice_get, ◌==◌, ◌||◌, ◌-◌, ◌^◌}
use Rattle.std.specs.Char.{is_ascii_alphabetic, is_ascii_alphanumeric}
use Rattle.engine_events.specs.declared.event.Name.TheVariants as names
use Rattle.engine_states.specs.declared.state.Inline.TheVariants as state_inline
use Rattle.engine_states.specs.declared.state.State.TheVariants as states
use Rattle.engine_programs.specs.Bodies.{FixedName, Body, Answer, Consume, Enter, Exit, Keep, Tries, Byte, On, AfterFeed, Test, around, has}
use Rattle.state_table.specs.Words.{next, retry, at_marker, count_anew, count_one}
use Rattle.engine_states.specs.declared.state.Inline.{Inline as InlineName}
use Rattle.definition_text.specs.Ascii.{tab, line_feed, space, exclamation_mark, double_quote, single_quote, hyphen, dot, slash, colon, less_than, equals}
use Rattle.definition_text.specs.Ascii.{greater_than, question_mark, left_bracket, right_bracket, underscore, backtick}

-- A line ending: data ends, and an attempt goes over the ending. No line is empty, so data isn't begun at a line's start only to end there.
abbrev pub html_text_line : {M : Type 0} → InlineName → Body M
html_text_line n =
    AfterFeed (Answer states.Nok) (Exit (FixedName names.HtmlTextData) (Tries false (next n) states.Nok (retry state_inline.HtmlTextLineEndingBefore)))

-- the byte of `CDATA[` at an index
abbrev pub is_prefix_byte : ℕ → ℕ → Bool
is_prefix_byte index byte = has (λ b. b == byte) (slice_get (codes "CDATA[") index)

module _ {M : Type 0} where
  -- at a `<`
  abbrev pub html_text_start : Bool → Body M
  html_text_start on =
      Byte (Answer states.Nok)
      (On (λ b. b == less_than)
      (Test (λ c. on) (Enter (FixedName names.HtmlText) (Enter (FixedName names.HtmlTextData) (Consume (Answer (next state_inline.HtmlTextOpen)))))
      (Answer states.Nok))
      (Answer states.Nok))

  -- after the `<`
  abbrev pub html_text_open : Body M
  html_text_open =
      Byte (Answer states.Nok)
      (On (λ b. b == exclamation_mark) (Consume (Answer (next state_inline.HtmlTextDeclarationOpen)))
      (On (λ b. b == slash) (Consume (Answer (next state_inline.HtmlTextTagCloseStart)))
      (On (λ b. b == question_mark) (Consume (Answer (next state_inline.HtmlTextInstruction)))
      (On is_ascii_alphabetic (Consume (Answer (next state_inline.HtmlTextTagOpen))) (Answer states.Nok)))))

  -- after `<!`
  abbrev pub html_text_declaration_open : Body M
  html_text_declaration_open =
      Byte (Answer states.Nok)
      (On (λ b. b == hyphen) (Consume (Answer (next state_inline.HtmlTextCommentOpenInside)))
      (On (λ b. b == left_bracket)
      (count_anew (Consume (Answer (next state_inline.HtmlTextCdataOpenInside))))
      (On is_ascii_alphabetic (Consume (Answer (next state_inline.HtmlTextDeclaration))) (Answer states.Nok))))

  -- after `<!-`
  abbrev pub html_text_comment_open_inside : Body M
  html_text_comment_open_inside =
      Byte (Answer states.Nok) (On (λ b. b == hyphen) (Consume (Answer (next state_inline.HtmlTextCommentEnd))) (Answer states.Nok))

  -- in a comment
  abbrev pub html_text_comment : Body M
  html_text_comment =
      Byte (Answer states.Nok)
      (On (λ b. b == hyphen) (Consume (Answer (next state_inline.HtmlTextCommentClose)))
      (On (λ b. b == line_feed) (html_text_line state_inline.HtmlTextComment) (Consume (Answer (next state_inline.HtmlTextComment)))))

  -- in a comment, after a `-`
  abbrev pub html_text_comment_close : Body M
  html_text_comment_close =
      Byte (Answer states.Nok)
      (On (λ b. b == hyphen) (Consume (Answer (next state_inline.HtmlTextCommentEnd))) (Answer (retry state_inline.HtmlTextComment)))

  -- in a comment, after `--`
  abbrev pub html_text_comment_end : Body M
  html_text_comment_end =
      Byte (Answer states.Nok)
      (On (λ b. b == greater_than) (Answer (retry state_inline.HtmlTextEnd))
      (On (λ b. b == hyphen) (Answer (retry state_inline.HtmlTextCommentClose)) (Answer (retry state_inline.HtmlTextComment))))

  -- in `<![CDATA[`, after the first bracket
  abbrev pub html_text_cdata_open_inside : Body M
  html_text_cdata_open_inside =
      Byte (Answer states.Nok)
      (Test (λ c. has (is_prefix_byte c.tokenize_state.size) c.current)
      (count_one (Consume
      (Test (λ c. c.tokenize_state.size == 6) (Answer (next state_inline.HtmlTextCdata))
      (Answer (next state_inline.HtmlTextCdataOpenInside)))))
      (Answer states.Nok))

  -- in CDATA
  abbrev pub html_text_cdata : Body M
  html_text_cdata =
      Byte (Answer states.Nok)
      (On (λ b. b == right_bracket) (Consume (Answer (next state_inline.HtmlTextCdataClose)))
      (On (λ b. b == line_feed) (html_text_line state_inline.HtmlTextCdata) (Consume (Answer (next state_inline.HtmlTextCdata)))))

  -- in CDATA, after a `]`
  abbrev pub html_text_cdata_close : Body M
  html_text_cdata_close =
      Byte (Answer states.Nok)
      (On (λ b. b == right_bracket) (Consume (Answer (next state_inline.HtmlTextCdataEnd))) (Answer (retry state_inline.HtmlTextCdata)))

  -- in CDATA, after `]]`
  abbrev pub html_text_cdata_end : Body M
  html_text_cdata_end =
      Byte (Answer states.Nok)
      (On (λ b. b == greater_than) (Answer (retry state_inline.HtmlTextEnd))
      (On (λ b. b == right_bracket) (Answer (retry state_inline.HtmlTextCdataClose)) (Answer (retry state_inline.HtmlTextCdata))))

  -- in a declaration
  abbrev pub html_text_declaration : Body M
  html_text_declaration =
      Byte (Answer states.Nok)
      (On (λ b. b == greater_than) (Answer (retry state_inline.HtmlTextEnd))
      (On (λ b. b == line_feed) (html_text_line state_inline.HtmlTextDeclaration) (Consume (Answer (next state_inline.HtmlTextDeclaration)))))

  -- in an instruction
  abbrev pub html_text_instruction : Body M
  html_text_instruction =
      Byte (Answer states.Nok)
      (On (λ b. b == question_mark) (Consume (Answer (next state_inline.HtmlTextInstructionClose)))
      (On (λ b. b == line_feed) (html_text_line state_inline.HtmlTextInstruction) (Consume (Answer (next state_inline.HtmlTextInstruction)))))

  -- in an instruction, after a `?`
  abbrev pub html_text_instruction_close : Body M
  html_text_instruction_close =
      Byte (Answer states.Nok) (On (λ b. b == greater_than) (Answer (retry state_inline.HtmlTextEnd)) (Answer (retry state_inline.HtmlTextInstruction)))

  -- after `</`
  abbrev pub html_text_tag_close_start : Body M
  html_text_tag_close_start =
      Byte (Answer states.Nok) (On is_ascii_alphabetic (Consume (Answer (next state_inline.HtmlTextTagClose))) (Answer states.Nok))

  -- in the name of a closing tag
  abbrev pub html_text_tag_close : Body M
  html_text_tag_close =
      Byte (Answer states.Nok)
      (On (λ b. (b == hyphen) || is_ascii_alphanumeric b) (Consume (Answer (next state_inline.HtmlTextTagClose)))
      (Answer (retry state_inline.HtmlTextTagCloseBetween)))

  -- in a closing tag, after its name
  abbrev pub html_text_tag_close_between : Body M
  html_text_tag_close_between =
      Byte (Answer states.Nok)
      (On (λ b. b == line_feed) (html_text_line state_inline.HtmlTextTagCloseBetween)
      (On (λ b. (b == tab) || (b == space)) (Consume (Answer (next state_inline.HtmlTextTagCloseBetween))) (Answer (retry state_inline.HtmlTextEnd))))

  -- in the name of an opening tag
  abbrev pub html_text_tag_open : Body M
  html_text_tag_open =
      Byte (Answer states.Nok)
      (On (λ b. (b == hyphen) || is_ascii_alphanumeric b) (Consume (Answer (next state_inline.HtmlTextTagOpen)))
      (On (λ b. (b == tab) || (b == line_feed) || (b == space) || (b == slash) || (b == greater_than)) (Answer (retry state_inline.HtmlTextTagOpenBetween))
      (Answer states.Nok)))

  -- in an opening tag, before an attribute or the end
  abbrev pub html_text_tag_open_between : Body M
  html_text_tag_open_between =
      Byte (Answer states.Nok)
      (On (λ b. b == line_feed) (html_text_line state_inline.HtmlTextTagOpenBetween)
      (On (λ b. (b == tab) || (b == space)) (Consume (Answer (next state_inline.HtmlTextTagOpenBetween)))
      (On (λ b. b == slash) (Consume (Answer (next state_inline.HtmlTextEnd)))
      (On (λ b. (b == colon) || (b == underscore) || is_ascii_alphabetic b) (Consume (Answer (next state_inline.HtmlTextTagOpenAttributeName)))
      (Answer (retry state_inline.HtmlTextEnd))))))

  -- in the name of an attribute
  abbrev pub html_text_tag_open_attribute_name : Body M
  html_text_tag_open_attribute_name =
      Byte (Answer states.Nok)
      (On (λ b. (b == hyphen) || (b == dot) || (b == colon) || (b == underscore) || is_ascii_alphanumeric b)
      (Consume (Answer (next state_inline.HtmlTextTagOpenAttributeName)))
      (Answer (retry state_inline.HtmlTextTagOpenAttributeNameAfter)))

  -- after the name of an attribute
  abbrev pub html_text_tag_open_attribute_name_after : Body M
  html_text_tag_open_attribute_name_after =
      Byte (Answer states.Nok)
      (On (λ b. b == line_feed) (html_text_line state_inline.HtmlTextTagOpenAttributeNameAfter)
      (On (λ b. (b == tab) || (b == space)) (Consume (Answer (next state_inline.HtmlTextTagOpenAttributeNameAfter)))
      (On (λ b. b == equals) (Consume (Answer (next state_inline.HtmlTextTagOpenAttributeValueBefore)))
      (Answer (retry state_inline.HtmlTextTagOpenBetween)))))

  -- after the `=` of an attribute
  abbrev pub html_text_tag_open_attribute_value_before : Body M
  html_text_tag_open_attribute_value_before =
      Byte (Answer states.Nok)
      (On (λ b. (b == less_than) || (b == equals) || (b == greater_than) || (b == backtick)) (Answer states.Nok)
      (On (λ b. b == line_feed) (html_text_line state_inline.HtmlTextTagOpenAttributeValueBefore)
      (On (λ b. (b == tab) || (b == space)) (Consume (Answer (next state_inline.HtmlTextTagOpenAttributeValueBefore)))
      (On (λ b. b == double_quote)
      (Keep (λ c. record c.tokenize_state { marker = double_quote }) (λ c i. refl)
      (Consume (Answer (next state_inline.HtmlTextTagOpenAttributeValueQuoted))))
      (On (λ b. b == single_quote)
      (Keep (λ c. record c.tokenize_state { marker = single_quote }) (λ c i. refl)
      (Consume (Answer (next state_inline.HtmlTextTagOpenAttributeValueQuoted))))
      (Consume (Answer (next state_inline.HtmlTextTagOpenAttributeValueUnquoted))))))))

  -- in a value between quotes
  abbrev pub html_text_tag_open_attribute_value_quoted : Body M
  html_text_tag_open_attribute_value_quoted =
      Byte (Answer states.Nok)
      (Test at_marker (Consume (Answer (next state_inline.HtmlTextTagOpenAttributeValueQuotedAfter)))
      (On (λ b. b == line_feed) (html_text_line state_inline.HtmlTextTagOpenAttributeValueQuoted)
      (Consume (Answer (next state_inline.HtmlTextTagOpenAttributeValueQuoted)))))

  -- in a value with no quotes
  abbrev pub html_text_tag_open_attribute_value_unquoted : Body M
  html_text_tag_open_attribute_value_unquoted =
      Byte (Answer states.Nok)
      (On (λ b. (b == double_quote) || (b == single_quote) || (b == less_than) || (b == equals) || (b == backtick)) (Answer states.Nok)
      (On (λ b. (b == tab) || (b == line_feed) || (b == space) || (b == greater_than)) (Answer (retry state_inline.HtmlTextTagOpenBetween))
      (Consume (Answer (next state_inline.HtmlTextTagOpenAttributeValueUnquoted)))))

  -- after a value between quotes
  abbrev pub html_text_tag_open_attribute_value_quoted_after : Body M
  html_text_tag_open_attribute_value_quoted_after =
      Byte (Answer states.Nok)
      (On (λ b. (b == tab) || (b == line_feed) || (b == space) || (b == slash) || (b == greater_than)) (Answer (retry state_inline.HtmlTextTagOpenBetween))
      (Answer states.Nok))

  -- at the `>`
  abbrev pub html_text_end : Body M
  html_text_end =
      Byte (Answer states.Nok)
      (On (λ b. b == greater_than) (Consume (Exit (FixedName names.HtmlTextData) (Exit (FixedName names.HtmlText) (Answer states.Ok)))) (Answer states.Nok))

  -- at a line ending
  abbrev pub html_text_line_ending_before : Body M
  html_text_line_ending_before =
      Byte (Answer states.Nok)
      (On (λ b. b == line_feed) (around (FixedName names.LineEnding) (Answer (next state_inline.HtmlTextLineEndingAfter))) (Answer states.Nok))

  -- after a line ending
  abbrev pub html_text_line_ending_after : Body M
  html_text_line_ending_after =
      Byte (Answer (retry state_inline.HtmlTextLineEndingAfterPrefix))
      (On (λ b. (b == tab) || (b == space))
      (Keep (λ c. record c.tokenize_state { size_c = 2 ^ 64 - 1 }) (λ c i. refl)
      (Tries false (next state_inline.HtmlTextLineEndingAfterPrefix) states.Nok (retry state_inline.SpaceOrTabStart)))
      (Answer (retry state_inline.HtmlTextLineEndingAfterPrefix)))

  -- after a line ending and the spaces and tabs there
  abbrev pub html_text_line_ending_after_prefix : Body M
  html_text_line_ending_after_prefix =
      Enter (FixedName names.HtmlTextData) (Answer states.Ok)
