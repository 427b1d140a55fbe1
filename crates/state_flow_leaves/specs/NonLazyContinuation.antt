-- What the states of `partial_non_lazy_continuation` do.
use Rattle.std.specs.Prelude.{Bool, nat_lt, ◌==◌}
use Rattle.engine_events.specs.declared.event.Name.TheVariants as names
use Rattle.engine_states.specs.declared.state.Block.TheVariants as state_block
use Rattle.engine_states.specs.declared.state.State.TheVariants as states
use Rattle.markdown_engine.specs.Reading.{Config}
use Rattle.engine_programs.specs.Bodies.{FixedName, Body, Answer, Byte, On, Test, around}
use Rattle.definition_text.specs.Ascii.{line_feed}
use Rattle.state_table.specs.BlockWords.{next}

module _ {M : Type 0} where
  -- a fence keeps its byte in `marker`, an HTML block its kind, which is 1 to 7
  abbrev pub is_in_html : Config M → Bool
  is_in_html c = nat_lt c.tokenize_state.marker 8

  -- at a line ending
  abbrev pub non_lazy_continuation_start : Body M
  non_lazy_continuation_start =
      On (λ b. b == line_feed)
      (around (FixedName names.LineEnding) (Answer (next state_block.NonLazyContinuationAfter)))
      (Answer states.Nok)

  -- at the start of the next line, or at the end of the text, where only a fence goes on
  abbrev pub non_lazy_continuation_after : Body M
  non_lazy_continuation_after =
      Byte (Test is_in_html (Answer states.Nok) (Answer states.Ok))
      (Test (λ c. c.lazy) (Answer states.Nok) (Answer states.Ok))
