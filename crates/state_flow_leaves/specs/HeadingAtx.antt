-- What the states of `heading_atx` do.
use Rattle.std.specs.Prelude.{nat_lt, refl, ◌==◌}
use Rattle.markdown_options.specs.declared.configuration.Constructs.{Constructs}
use Rattle.engine_events.specs.declared.event.Name.TheVariants as names
use Rattle.engine_states.specs.declared.resolve.Name.TheVariants as resolvers
use Rattle.engine_states.specs.declared.state.Block.TheVariants as state_block
use Rattle.engine_states.specs.declared.state.State.TheVariants as states
use Rattle.engine_programs.specs.Bodies.{FixedName, Body, Answer, Consume, Enter, EnterLink, Exit, Keep, Register, Byte, On, Test}
use Rattle.definition_text.specs.Ascii.{number_sign}
use Rattle.state_table.specs.BlockWords.{white_to, at_line_end, no_limit, is_white, next, retry, free, text_link}
use Rattle.state_table.specs.Words.{count_one, is_space_or_tab}

abbrev pub heading_atx_end : {M : Type 0} → Body M
heading_atx_end = Exit (FixedName names.HeadingAtx) (Register resolvers.HeadingAtx (free (Answer states.Ok)))

module _ {M : Type 0} where
  -- at the first byte after the indent
  abbrev pub heading_atx_start : Constructs → Body M
  heading_atx_start constructs =
      Test (λ c. constructs.heading_atx)
      (Enter (FixedName names.HeadingAtx) (Answer (retry state_block.HeadingAtxBefore)))
      (Answer states.Nok)

  -- at the first `#`
  abbrev pub heading_atx_before : Body M
  heading_atx_before =
      On (λ b. b == number_sign)
      (Enter (FixedName names.HeadingAtxSequence)
      (Keep (λ c. record c.tokenize_state { size = 1 }) (λ c i. refl)
      (Consume (Answer (next state_block.HeadingAtxSequenceOpen)))))
      (Answer states.Nok)

  -- in the opening sequence
  abbrev pub heading_atx_sequence_open : Body M
  heading_atx_sequence_open =
      Byte (Exit (FixedName names.HeadingAtxSequence) (Answer (retry state_block.HeadingAtxAtBreak)))
      (On (λ b. b == number_sign)
      (Test (λ c. nat_lt c.tokenize_state.size 6)
      (count_one (Consume (Answer (next state_block.HeadingAtxSequenceOpen))))
      (Answer states.Nok))
      (On is_white (Exit (FixedName names.HeadingAtxSequence) (Answer (retry state_block.HeadingAtxAtBreak)))
      (Answer states.Nok)))

  -- between the parts
  abbrev pub heading_atx_at_break : Body M
  heading_atx_at_break =
      at_line_end heading_atx_end
      (On is_space_or_tab (white_to no_limit state_block.HeadingAtxAtBreak)
      (On (λ b. b == number_sign)
      (Enter (FixedName names.HeadingAtxSequence) (Consume (Answer (next state_block.HeadingAtxSequenceFurther))))
      (EnterLink (FixedName names.Data) text_link (Consume (Answer (next state_block.HeadingAtxData))))))

  -- in a further sequence
  abbrev pub heading_atx_sequence_further : Body M
  heading_atx_sequence_further =
      On (λ b. b == number_sign) (Consume (Answer (next state_block.HeadingAtxSequenceFurther)))
      (Exit (FixedName names.HeadingAtxSequence) (Answer (retry state_block.HeadingAtxAtBreak)))

  -- in text
  abbrev pub heading_atx_data : Body M
  heading_atx_data =
      Byte (Exit (FixedName names.Data) (Answer (retry state_block.HeadingAtxAtBreak)))
      (On is_white (Exit (FixedName names.Data) (Answer (retry state_block.HeadingAtxAtBreak)))
      (Consume (Answer (next state_block.HeadingAtxData))))
