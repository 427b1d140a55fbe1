-- What the states of `partial_bom` do.
use Rattle.std.specs.Prelude.{refl, ◌==◌}
use Rattle.engine_events.specs.declared.event.Name.TheVariants as names
use Rattle.engine_states.specs.declared.state.Block.TheVariants as state_block
use Rattle.engine_states.specs.declared.state.State.TheVariants as states
use Rattle.engine_programs.specs.Bodies.{FixedName, Body, Answer, Consume, Enter, Exit, Keep, Byte, On, Test, has}
use Rattle.state_table.specs.BlockWords.{next}
use Rattle.state_table.specs.Words.{count_one}
use Rattle.state_containers.specs.Open.{is_mark}

module _ {M : Type 0} where
  -- at the start of a text
  abbrev pub bom_start : Body M
  bom_start =
      On (λ b. b == 239)
      (Enter (FixedName names.ByteOrderMark)
      (Keep (λ c. record c.tokenize_state { size = 1 }) (λ c i. refl) (Consume (Answer (next state_block.BomInside)))))
      (Answer states.Nok)

  -- in the mark
  abbrev pub bom_inside : Body M
  bom_inside =
      Byte (Answer states.Nok)
      (Test (λ c. has (is_mark c.tokenize_state.size) c.current)
      (count_one
      (Test (λ c. c.tokenize_state.size == 3) (Consume (Exit (FixedName names.ByteOrderMark) (Answer states.Ok)))
      (Consume (Answer (next state_block.BomInside)))))
      (Answer states.Nok))
