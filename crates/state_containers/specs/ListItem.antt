-- What the states of `list_item` do.
use Rattle.std.specs.Prelude.{true, false, not, nat_lt, refl, ◌==◌, ◌&&◌, ◌||◌}
use Rattle.std.specs.Char.{is_ascii_digit}
use Rattle.markdown_options.specs.declared.configuration.Constructs.{Constructs}
use Rattle.engine_events.specs.declared.event.Name.TheVariants as names
use Rattle.engine_states.specs.declared.state.Block.TheVariants as state_block
use Rattle.engine_states.specs.declared.state.State.TheVariants as states
use Rattle.engine_programs.specs.Bodies.{FixedName, Body, Answer, Consume, Enter, Exit, Keep, Tries, Byte, On, Test, around}
use Rattle.definition_text.specs.Ascii.{right_parenthesis, asterisk, plus, hyphen, dot}
use Rattle.state_table.specs.BlockWords.{over_indent, white_to, next, retry}
use Rattle.state_table.specs.Words.{more, is_space_or_tab}
use Rattle.state_containers.specs.Open.{filled, go_on_blank, go_on_indented, item_width, value_with}

module _ {M : Type 0} where
  -- at the start
  abbrev pub list_item_start : Constructs → Body M
  list_item_start constructs =
      Test (λ c. constructs.list_item) (over_indent constructs state_block.ListItemBefore) (Answer states.Nok)

  -- at the marker or the number
  abbrev pub list_item_before : Body M
  list_item_before =
      On (λ b. (b == asterisk) || (b == hyphen))
      (Tries true states.Nok (next state_block.ListItemBeforeUnordered) (retry state_block.ThematicBreakStart))
      (On (λ b. b == plus) (Answer (retry state_block.ListItemBeforeUnordered))
      (On is_ascii_digit (Answer (retry state_block.ListItemBeforeOrdered)) (Answer states.Nok)))

  -- at the marker
  abbrev pub list_item_before_unordered : Body M
  list_item_before_unordered =
      Enter (FixedName names.ListItemPrefix) (Answer (retry state_block.ListItemMarker))

  -- at the number
  abbrev pub list_item_before_ordered : Body M
  list_item_before_ordered =
      Byte (Answer states.Nok)
      (Enter (FixedName names.ListItemPrefix)
      (Enter (FixedName names.ListItemValue)
      (Keep (λ c. record c.tokenize_state { size = 1; size_b = value_with 0 c.current }) (λ c i. refl)
      (Consume (Answer (next state_block.ListItemValue))))))

  -- in the number
  abbrev pub list_item_value : Body M
  list_item_value =
      On (λ b. (b == right_parenthesis) || (b == dot))
      (Test (λ c. c.interrupt && not (c.tokenize_state.size_b == 1)) (Answer states.Nok)
      (Exit (FixedName names.ListItemValue) (Answer (retry state_block.ListItemMarker))))
      (On is_ascii_digit
      (Test (λ c. nat_lt c.tokenize_state.size 9)
      (Keep (λ c. record c.tokenize_state { size = more c.tokenize_state.size; size_b = value_with c.tokenize_state.size_b c.current }) (λ c i. refl)
      (Consume (Answer (next state_block.ListItemValue))))
      (Answer states.Nok))
      (Answer states.Nok))

  -- at the marker
  abbrev pub list_item_marker : Body M
  list_item_marker =
      Byte (Answer states.Nok)
      (around (FixedName names.ListItemMarker) (Answer (next state_block.ListItemMarkerAfter)))

  -- after the marker
  abbrev pub list_item_marker_after : Body M
  list_item_marker_after =
      Keep (λ c. record c.tokenize_state { size = 1 }) (λ c i. refl)
      (Tries true (next state_block.ListItemAfter) (next state_block.ListItemMarkerAfterFilled) (retry state_block.BlankLineStart))

  -- after the marker of an item that begins with content
  abbrev pub list_item_marker_after_filled : Body M
  list_item_marker_after_filled =
      Keep (λ c. record c.tokenize_state { size = 0 }) (λ c i. refl)
      (Tries false (next state_block.ListItemAfter) (next state_block.ListItemPrefixOther) (retry state_block.ListItemWhitespace))

  -- at the white space
  abbrev pub list_item_whitespace : Body M
  list_item_whitespace =
      On is_space_or_tab
      (Keep (λ c. record c.tokenize_state { seen = false }) (λ c i. refl) (white_to 4 state_block.ListItemWhitespaceAfter))
      (Answer states.Nok)

  -- after up to four columns of a first line, or up to the width of a further one
  abbrev pub list_item_whitespace_after : Body M
  list_item_whitespace_after =
      Test (λ c. c.tokenize_state.seen)
      (Test (λ c. c.tokenize_state.size_c == 0)
      (Keep (λ c. record c.tokenize_state { containers = filled c.tokenize_state }) (λ c i. refl) (Answer states.Ok))
      (Answer states.Nok))
      (On is_space_or_tab (Answer states.Nok) (Answer states.Ok))

  -- at more white space
  abbrev pub list_item_prefix_other : Body M
  list_item_prefix_other =
      On is_space_or_tab (around (FixedName names.SpaceOrTab) (Answer (next state_block.ListItemAfter)))
      (Answer states.Nok)

  -- at the content
  abbrev pub list_item_after : Body M
  list_item_after =
      Test (λ c. c.interrupt && (c.tokenize_state.size == 1)) (Answer states.Nok)
      (Keep (λ c. record c.tokenize_state
      { start = item_width c.point.column c.tokenize_state; space_or_tab_eol_ok = c.tokenize_state.size == 1 }) (λ c i. refl)
      (Test (λ c. c.tokenize_state.size == 1)
      (On is_space_or_tab
      (around (FixedName names.SpaceOrTab) (Exit (FixedName names.ListItemPrefix) (Answer states.Ok)))
      (Exit (FixedName names.ListItemPrefix) (Answer states.Ok)))
      (Exit (FixedName names.ListItemPrefix) (Answer states.Ok))))

  -- at the start of a further line
  abbrev pub list_item_cont_start : Body M
  list_item_cont_start =
      Tries true (next state_block.ListItemContBlank) (next state_block.ListItemContFilled) (retry state_block.BlankLineStart)

  -- at a blank line
  abbrev pub list_item_cont_blank : Body M
  list_item_cont_blank = go_on_blank

  -- at a line with content
  abbrev pub list_item_cont_filled : Body M
  list_item_cont_filled = go_on_indented
