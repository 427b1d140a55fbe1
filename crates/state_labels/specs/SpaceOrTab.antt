-- What the states of `partial_space_or_tab` do.
use Rattle.std.specs.Prelude.{nat_lt, refl, ◌&&◌}
use Rattle.engine_events.specs.declared.event.Name.TheVariants as names
use Rattle.engine_states.specs.declared.state.Inline.TheVariants as state_inline
use Rattle.engine_states.specs.declared.state.State.TheVariants as states
use Rattle.engine_programs.specs.Bodies.{FixedName, Body, Answer, Consume, EnterLink, Exit, Keep, Byte, Test, has}
use Rattle.state_table.specs.Words.{next, retry, less, is_space_or_tab}
use Rattle.state_labels.specs.Chunk.{part_link}

module _ {M : Type 0} where
  -- at the first
  abbrev pub space_or_tab_start : Body M
  space_or_tab_start =
      Byte (Answer states.Nok)
      (Test (λ c. nat_lt 0 c.tokenize_state.size_c && has is_space_or_tab c.current)
      (EnterLink (FixedName names.SpaceOrTab) part_link
      (Keep (λ c. record c.tokenize_state { size_c = less c.tokenize_state.size_c }) (λ c i. refl)
      (Consume (Answer (next state_inline.SpaceOrTabInside)))))
      (Answer states.Nok))

  -- at the next
  abbrev pub space_or_tab_inside : Body M
  space_or_tab_inside =
      Byte (Exit (FixedName names.SpaceOrTab) (Answer (retry state_inline.SpaceOrTabAfter)))
      (Test (λ c. nat_lt 0 c.tokenize_state.size_c && has is_space_or_tab c.current)
      (Keep (λ c. record c.tokenize_state { size_c = less c.tokenize_state.size_c }) (λ c i. refl)
      (Consume (Answer (next state_inline.SpaceOrTabInside))))
      (Exit (FixedName names.SpaceOrTab) (Answer (retry state_inline.SpaceOrTabAfter))))

  -- after them
  abbrev pub space_or_tab_after : Body M
  space_or_tab_after =
      Answer states.Ok
