-- What the states of `definition` do.
use Rattle.std.specs.Prelude.{false, refl, ◌==◌}
use Rattle.markdown_options.specs.declared.configuration.Constructs.{Constructs}
use Rattle.engine_events.specs.declared.event.Name.TheVariants as names
use Rattle.engine_states.specs.declared.state.Block.TheVariants as state_block
use Rattle.engine_states.specs.declared.state.Inline.TheVariants as state_inline
use Rattle.engine_states.specs.declared.state.State.TheVariants as states
use Rattle.engine_programs.specs.Bodies.{FixedName, Body, Answer, Enter, Exit, Keep, Hold, Tries, On, Test, around}
use Rattle.definition_text.specs.Ascii.{colon, left_bracket}
use Rattle.state_table.specs.BlockWords.{over_white, at_line_end, no_limit, is_white, next, retry, part}

module _ {M : Type 0} where
  -- at the start of a line
  abbrev pub definition_start : Constructs → Body M
  definition_start constructs =
      Test (λ c. constructs.definition)
      (Enter (FixedName names.Definition) (over_white no_limit state_block.DefinitionBefore))
      (Answer states.Nok)

  -- at the `[`
  abbrev pub definition_before : Body M
  definition_before =
      On (λ b. b == left_bracket)
      (Hold 1 names.DefinitionLabel
      (Hold 2 names.DefinitionLabelMarker
      (Hold 3 names.DefinitionLabelString
      (Tries false (next state_block.DefinitionLabelAfter) (next state_block.DefinitionLabelNok) (part state_inline.LabelStart)))))
      (Answer states.Nok)

  -- after the label
  abbrev pub definition_label_after : Body M
  definition_label_after =
      On (λ b. b == colon)
      (around (FixedName names.DefinitionMarker) (Answer (next state_block.DefinitionMarkerAfter)))
      (Answer states.Nok)

  -- where no label is
  abbrev pub definition_label_nok : Body M
  definition_label_nok =
      Answer states.Nok

  -- after the `:`
  abbrev pub definition_marker_after : Body M
  definition_marker_after =
      On is_white
      (Tries false (next state_block.DefinitionDestinationBefore) states.Nok (part state_inline.SpaceOrTabEolStart))
      (Answer (retry state_block.DefinitionDestinationBefore))

  -- before the destination
  abbrev pub definition_destination_before : Body M
  definition_destination_before =
      Hold 1 names.DefinitionDestination
      (Hold 2 names.DefinitionDestinationLiteral
      (Hold 3 names.DefinitionDestinationLiteralMarker
      (Hold 4 names.DefinitionDestinationRaw
      (Hold 5 names.DefinitionDestinationString
      (Keep (λ c. record c.tokenize_state { size_b = no_limit }) (λ c i. refl)
      (Tries false (next state_block.DefinitionDestinationAfter) (next state_block.DefinitionDestinationMissing) (part state_inline.DestinationStart)))))))

  -- after the destination
  abbrev pub definition_destination_after : Body M
  definition_destination_after =
      On is_white
      (Tries false (next state_block.DefinitionAfter) (next state_block.DefinitionAfter) (retry state_block.DefinitionTitleBefore))
      (Answer (retry state_block.DefinitionAfter))

  -- where no destination is
  abbrev pub definition_destination_missing : Body M
  definition_destination_missing =
      Answer states.Nok

  -- after it all
  abbrev pub definition_after : Body M
  definition_after =
      over_white no_limit state_block.DefinitionAfterWhitespace

  -- after spaces and tabs at the end
  abbrev pub definition_after_whitespace : Body M
  definition_after_whitespace =
      at_line_end (Exit (FixedName names.Definition) (Answer states.Ok)) (Answer states.Nok)

  -- at the white space before a title
  abbrev pub definition_title_before : Body M
  definition_title_before =
      On is_white
      (Tries false (next state_block.DefinitionTitleBeforeMarker) states.Nok (part state_inline.SpaceOrTabEolStart))
      (Answer states.Nok)

  -- at the title
  abbrev pub definition_title_before_marker : Body M
  definition_title_before_marker =
      Hold 1 names.DefinitionTitle
      (Hold 2 names.DefinitionTitleMarker
      (Hold 3 names.DefinitionTitleString
      (Tries false (next state_block.DefinitionTitleAfter) states.Nok (part state_inline.TitleStart))))

  -- after the title
  abbrev pub definition_title_after : Body M
  definition_title_after =
      over_white no_limit state_block.DefinitionTitleAfterOptionalWhitespace

  -- after spaces and tabs
  abbrev pub definition_title_after_optional_whitespace : Body M
  definition_title_after_optional_whitespace =
      at_line_end (Answer states.Ok) (Answer states.Nok)
