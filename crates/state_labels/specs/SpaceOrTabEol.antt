-- What the states of `partial_space_or_tab_eol` do.
use Rattle.std.specs.Prelude.{false, refl, ◌==◌, ◌||◌, ◌-◌, ◌^◌}
use Rattle.engine_events.specs.declared.event.Name.TheVariants as names
use Rattle.engine_states.specs.declared.state.Inline.TheVariants as state_inline
use Rattle.engine_states.specs.declared.state.State.TheVariants as states
use Rattle.engine_programs.specs.Bodies.{FixedName, Body, Answer, Consume, EnterLink, Exit, Keep, Tries, On}
use Rattle.state_table.specs.Words.{next, retry}
use Rattle.state_labels.specs.Chunk.{part_link}
use Rattle.definition_text.specs.Ascii.{tab, line_feed, space}

-- over a line ending
abbrev pub over_eol : {M : Type 0} → Body M
over_eol = EnterLink (FixedName names.LineEnding) part_link (Consume (Exit (FixedName names.LineEnding) (Answer (next state_inline.SpaceOrTabEolAfterEol))))

module _ {M : Type 0} where
  -- at the first byte
  abbrev pub space_or_tab_eol_start : Body M
  space_or_tab_eol_start =
      On (λ b. (b == tab) || (b == space))
      (Keep (λ c. record c.tokenize_state { size_c = 2 ^ 64 - 1 }) (λ c i. refl)
      (Tries false (next state_inline.SpaceOrTabEolAfterFirst) (next state_inline.SpaceOrTabEolAtEol) (retry state_inline.SpaceOrTabStart)))
      (Answer (retry state_inline.SpaceOrTabEolAtEol))

  -- after spaces and tabs
  abbrev pub space_or_tab_eol_after_first : Body M
  space_or_tab_eol_after_first =
      On (λ b. b == line_feed) over_eol (Answer states.Ok)

  -- where there are none
  abbrev pub space_or_tab_eol_at_eol : Body M
  space_or_tab_eol_at_eol =
      On (λ b. b == line_feed) over_eol (Answer states.Nok)

  -- after the line ending
  abbrev pub space_or_tab_eol_after_eol : Body M
  space_or_tab_eol_after_eol =
      On (λ b. (b == tab) || (b == space))
      (Keep (λ c. record c.tokenize_state { size_c = 2 ^ 64 - 1 }) (λ c i. refl)
      (Tries false (next state_inline.SpaceOrTabEolAfterMore) (next state_inline.SpaceOrTabEolAfterMore) (retry state_inline.SpaceOrTabStart)))
      (Answer (retry state_inline.SpaceOrTabEolAfterMore))

  -- after it all
  abbrev pub space_or_tab_eol_after_more : Body M
  space_or_tab_eol_after_more =
      Answer states.Ok
