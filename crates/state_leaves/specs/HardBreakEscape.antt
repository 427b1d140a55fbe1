-- What the states of `hard_break_escape` do.
use Rattle.std.specs.Prelude.{Bool, ◌==◌}
use Rattle.engine_events.specs.declared.event.Name.TheVariants as names
use Rattle.engine_states.specs.declared.state.Inline.TheVariants as state_inline
use Rattle.engine_states.specs.declared.state.State.TheVariants as states
use Rattle.engine_programs.specs.Bodies.{FixedName, Body, Answer, Consume, Enter, Exit, Byte, On, Test}
use Rattle.state_table.specs.Words.{next}
use Rattle.definition_text.specs.Ascii.{line_feed, backslash}

module _ {M : Type 0} where
  -- at a backslash
  abbrev pub hard_break_escape_start : Bool → Body M
  hard_break_escape_start on =
      Byte (Answer states.Nok)
      (On (λ b. b == backslash)
      (Test (λ c. on) (Enter (FixedName names.HardBreakEscape) (Consume (Answer (next state_inline.HardBreakEscapeAfter)))) (Answer states.Nok))
      (Answer states.Nok))

  -- after the backslash
  abbrev pub hard_break_escape_after : Body M
  hard_break_escape_after =
      Byte (Answer states.Nok) (On (λ b. b == line_feed) (Exit (FixedName names.HardBreakEscape) (Answer states.Ok)) (Answer states.Nok))
