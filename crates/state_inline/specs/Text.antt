-- What the states of `text` do.
use Rattle.std.specs.Prelude.{true, false, refl, ◌==◌, ◌||◌}
use Rattle.engine_states.specs.declared.resolve.Name.TheVariants as resolvers
use Rattle.engine_states.specs.declared.state.Inline.{Inline as InlineName}
use Rattle.engine_states.specs.declared.state.Inline.TheVariants as state_inline
use Rattle.engine_states.specs.declared.state.State.TheVariants as states
use Rattle.engine_programs.specs.Bodies.{Body, Answer, Keep, Register, Tries, Byte, On}
use Rattle.state_table.specs.Words.{next, retry}
use Rattle.definition_text.specs.Ascii.{exclamation_mark, dollar, ampersand, asterisk, less_than, left_bracket, backslash, right_bracket, underscore, backtick}
use Rattle.definition_text.specs.Ascii.{equals, tilde}

module _ {M : Type 0} where
  -- an attempt by the second state at a part, after which the next part comes; where there is none, the first state
  abbrev pub part_or : InlineName → InlineName → Body M
  part_or other start = Tries false (next state_inline.TextBefore) (next other) (retry start)

  -- where there is none, data
  abbrev pub part_or_data : InlineName → Body M
  part_or_data start = part_or state_inline.TextBeforeData start

  -- before each part
  abbrev pub text_before : Body M
  text_before =
      Byte (Register resolvers.Data (Register resolvers.Text (Answer states.Ok)))
      (On (λ b. b == exclamation_mark) (part_or_data state_inline.LabelStartImageStart)
      (On (λ b. (b == dollar) || (b == backtick)) (part_or_data state_inline.RawTextStart)
      (On (λ b. b == ampersand) (part_or_data state_inline.CharacterReferenceStart)
      (On (λ b. (b == asterisk) || (b == underscore) || (b == tilde) || (b == equals)) (part_or_data state_inline.AttentionStart)
      (On (λ b. b == less_than) (part_or state_inline.TextBeforeHtml state_inline.AutolinkStart)
      (On (λ b. (b == 72) || (b == 104)) (part_or_data state_inline.GfmAutolinkLiteralProtocolStart)
      (On (λ b. (b == 87) || (b == 119)) (part_or_data state_inline.GfmAutolinkLiteralWwwStart)
      (On (λ b. b == left_bracket) (part_or state_inline.TextBeforeLabelStartLink state_inline.GfmLabelStartFootnoteStart)
      (On (λ b. b == backslash) (part_or state_inline.TextBeforeHardBreakEscape state_inline.CharacterEscapeStart)
      (On (λ b. b == right_bracket) (part_or_data state_inline.LabelEndStart)
      (Answer (retry state_inline.TextBeforeData))))))))))))

  -- at a `<` that begins no autolink
  abbrev pub text_before_html : Body M
  text_before_html = part_or_data state_inline.HtmlTextStart

  -- at a backslash that escapes nothing
  abbrev pub text_before_hard_break_escape : Body M
  text_before_hard_break_escape = part_or_data state_inline.HardBreakEscapeStart

  -- at a `[` that begins no footnote call
  abbrev pub text_before_label_start_link : Body M
  text_before_label_start_link = part_or_data state_inline.LabelStartLinkStart

  -- where no construct is
  abbrev pub text_before_data : Body M
  text_before_data =
      Byte (Answer states.Ok)
      (Keep (λ c. record c.tokenize_state { seen = true }) (λ c i. refl)
      (Tries false (next state_inline.TextBefore) states.Nok (retry state_inline.DataStart)))
