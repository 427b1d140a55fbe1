-- What the states of `gfm_footnote_definition` do.
use Rattle.std.specs.Prelude.{true, false, nat_lt, refl, ◌==◌, ◌||◌}
use Rattle.markdown_options.specs.declared.configuration.Constructs.{Constructs}
use Rattle.engine_events.specs.declared.event.Name.TheVariants as names
use Rattle.engine_states.specs.declared.state.Block.TheVariants as state_block
use Rattle.engine_states.specs.declared.state.State.TheVariants as states
use Rattle.engine_programs.specs.Bodies.{FixedName, Body, Answer, Consume, Enter, EnterLink, Exit, Keep, Tries, Byte, On, AfterFeed, Test, around}
use Rattle.definition_text.specs.Ascii.{colon, left_bracket, backslash, right_bracket, caret}
use Rattle.state_table.specs.BlockWords.{over_indent, white_to, no_limit, is_white, next, retry, string_link}
use Rattle.state_table.specs.Words.{count_one, is_space_or_tab}
use Rattle.state_containers.specs.Open.{go_on_blank, go_on_indented}

module _ {M : Type 0} where
  -- at the start
  abbrev pub gfm_footnote_definition_start : Constructs → Body M
  gfm_footnote_definition_start constructs =
      Test (λ c. constructs.gfm_footnote_definition)
      (over_indent constructs state_block.GfmFootnoteDefinitionLabelBefore)
      (Answer states.Nok)

  -- at the `[`
  abbrev pub gfm_footnote_definition_label_before : Body M
  gfm_footnote_definition_label_before =
      On (λ b. b == left_bracket)
      (Enter (FixedName names.GfmFootnoteDefinitionPrefix)
      (Enter (FixedName names.GfmFootnoteDefinitionLabel)
      (around (FixedName names.GfmFootnoteDefinitionLabelMarker)
      (Answer (next state_block.GfmFootnoteDefinitionLabelAtMarker)))))
      (Answer states.Nok)

  -- at the `^`
  abbrev pub gfm_footnote_definition_label_at_marker : Body M
  gfm_footnote_definition_label_at_marker =
      On (λ b. b == caret)
      (Keep (λ c. record c.tokenize_state { size = 0 }) (λ c i. refl)
      (around (FixedName names.GfmFootnoteDefinitionMarker)
      (Enter (FixedName names.GfmFootnoteDefinitionLabelString)
      (EnterLink (FixedName names.Data) string_link (Answer (next state_block.GfmFootnoteDefinitionLabelInside))))))
      (Answer states.Nok)

  -- one more byte of the label, which has at most 999
  abbrev pub count_label : Body M → Body M
  count_label b = Test (λ c. nat_lt c.tokenize_state.size 999) (count_one b) (Answer states.Nok)

  -- in the label
  abbrev pub gfm_footnote_definition_label_inside : Body M
  gfm_footnote_definition_label_inside =
      Byte (Answer states.Nok)
      (On (λ b. b == right_bracket)
      (Test (λ c. c.tokenize_state.size == 0) (Answer states.Nok)
      (AfterFeed (Answer states.Nok)
      (Exit (FixedName names.Data)
      (Exit (FixedName names.GfmFootnoteDefinitionLabelString)
      (around (FixedName names.GfmFootnoteDefinitionLabelMarker)
      (Exit (FixedName names.GfmFootnoteDefinitionLabel)
      (Answer (next state_block.GfmFootnoteDefinitionLabelAfter))))))))
      (On (λ b. is_white b || (b == left_bracket)) (Answer states.Nok)
      (count_label
      (On (λ b. b == backslash) (Consume (Answer (next state_block.GfmFootnoteDefinitionLabelEscape)))
      (Consume (Answer (next state_block.GfmFootnoteDefinitionLabelInside)))))))

  -- after a backslash
  abbrev pub gfm_footnote_definition_label_escape : Body M
  gfm_footnote_definition_label_escape =
      On (λ b. (b == left_bracket) || (b == backslash) || (b == right_bracket))
      (count_label (Consume (Answer (next state_block.GfmFootnoteDefinitionLabelInside))))
      (Answer (retry state_block.GfmFootnoteDefinitionLabelInside))

  -- after the label
  abbrev pub gfm_footnote_definition_label_after : Body M
  gfm_footnote_definition_label_after =
      On (λ b. b == colon)
      (around (FixedName names.DefinitionMarker) (Answer (next state_block.GfmFootnoteDefinitionWhitespaceAfter)))
      (Answer states.Nok)

  -- after the `:`
  abbrev pub gfm_footnote_definition_whitespace_after : Body M
  gfm_footnote_definition_whitespace_after =
      On is_space_or_tab (white_to no_limit state_block.GfmFootnoteDefinitionWhitespaceAfter)
      (Keep (λ c. record c.tokenize_state { start = 4; space_or_tab_eol_ok = false }) (λ c i. refl)
      (Exit (FixedName names.GfmFootnoteDefinitionPrefix) (Answer states.Ok)))

  -- at the start of a further line
  abbrev pub gfm_footnote_definition_cont_start : Body M
  gfm_footnote_definition_cont_start =
      Tries true (next state_block.GfmFootnoteDefinitionContBlank) (next state_block.GfmFootnoteDefinitionContFilled) (retry state_block.BlankLineStart)

  -- at a blank line
  abbrev pub gfm_footnote_definition_cont_blank : Body M
  gfm_footnote_definition_cont_blank = go_on_blank

  -- at a line with content
  abbrev pub gfm_footnote_definition_cont_filled : Body M
  gfm_footnote_definition_cont_filled = go_on_indented
