-- What the states of `thematic_break` do.
use Rattle.std.specs.Prelude.{ℕ, nat_lt, refl, ◌==◌}
use Rattle.markdown_options.specs.declared.configuration.Constructs.{Constructs}
use Rattle.engine_events.specs.declared.event.Name.TheVariants as names
use Rattle.engine_states.specs.declared.state.Block.TheVariants as state_block
use Rattle.engine_states.specs.declared.state.State.TheVariants as states
use Rattle.engine_programs.specs.Bodies.{FixedName, Body, Answer, Consume, Enter, Exit, Keep, Byte, On, Test}
use Rattle.definition_text.specs.Ascii.{line_feed, asterisk, hyphen, underscore}
use Rattle.state_table.specs.BlockWords.{over_white, no_limit, next, retry, free}
use Rattle.state_table.specs.Words.{at_marker, count_one}

module _ {M : Type 0} where
  -- at the first marker of a break
  abbrev pub thematic_break_open : ℕ → Body M
  thematic_break_open marker =
      Keep (λ c. record c.tokenize_state { marker = marker; size = 1 }) (λ c i. refl)
      (Enter (FixedName names.ThematicBreakSequence) (Consume (Answer (next state_block.ThematicBreakSequence))))

  -- at the end: there are at least three markers
  abbrev pub thematic_break_end : Body M
  thematic_break_end =
      Test (λ c. nat_lt c.tokenize_state.size 3) (Answer states.Nok)
      (Exit (FixedName names.ThematicBreak) (free (Answer states.Ok)))

  -- at the first byte after the indent
  abbrev pub thematic_break_start : Constructs → Body M
  thematic_break_start constructs =
      Test (λ c. constructs.thematic_break)
      (Enter (FixedName names.ThematicBreak) (Answer (retry state_block.ThematicBreakBefore)))
      (Answer states.Nok)

  -- at the first marker
  abbrev pub thematic_break_before : Body M
  thematic_break_before =
      On (λ b. b == asterisk) (thematic_break_open asterisk)
      (On (λ b. b == hyphen) (thematic_break_open hyphen)
      (On (λ b. b == underscore) (thematic_break_open underscore) (Answer states.Nok)))

  -- before a run, or at the end
  abbrev pub thematic_break_at_break : Body M
  thematic_break_at_break =
      Byte thematic_break_end
      (Test at_marker
      (Enter (FixedName names.ThematicBreakSequence)
      (count_one (Consume (Answer (next state_block.ThematicBreakSequence)))))
      (On (λ b. b == line_feed) thematic_break_end (Answer states.Nok)))

  -- in a run
  abbrev pub thematic_break_sequence : Body M
  thematic_break_sequence =
      Byte (Exit (FixedName names.ThematicBreakSequence) (Answer (retry state_block.ThematicBreakAtBreak)))
      (Test at_marker (count_one (Consume (Answer (next state_block.ThematicBreakSequence))))
      (Exit (FixedName names.ThematicBreakSequence) (over_white no_limit state_block.ThematicBreakAtBreak)))
