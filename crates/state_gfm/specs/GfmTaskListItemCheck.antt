-- What the states of `gfm_task_list_item_check` do.
use Rattle.std.specs.Prelude.{Bool, true, false, refl, nat_lt, ◌==◌, ◌||◌, ◌-◌, ◌^◌}
use Rattle.engine_events.specs.declared.event.Name.TheVariants as names
use Rattle.engine_states.specs.declared.state.Inline.TheVariants as state_inline
use Rattle.engine_states.specs.declared.state.State.TheVariants as states
use Rattle.engine_programs.specs.Bodies.{FixedName, Body, Answer, Consume, Enter, Exit, Keep, Tries, Byte, On, AfterFeed, Test, around}
use Rattle.state_table.specs.Words.{next, retry}
use Rattle.definition_text.specs.Ascii.{tab, line_feed, space, capital_x, left_bracket, right_bracket, small_x}

module _ {M : Type 0} where
  -- at a `[`
  abbrev pub gfm_task_list_item_check_start : Bool → Body M
  gfm_task_list_item_check_start on =
      Byte (Answer states.Nok)
      (On (λ b. b == left_bracket)
      (Test (λ c. on)
      (Enter (FixedName names.GfmTaskListItemCheck)
      (around (FixedName names.GfmTaskListItemMarker) (Answer (next state_inline.GfmTaskListItemCheckInside))))
      (Answer states.Nok))
      (Answer states.Nok))

  -- after the `[`
  abbrev pub gfm_task_list_item_check_inside : Body M
  gfm_task_list_item_check_inside =
      On (λ b. (b == tab) || (b == line_feed) || (b == space))
      (around (FixedName names.GfmTaskListItemValueUnchecked) (Answer (next state_inline.GfmTaskListItemCheckClose)))
      (On (λ b. (b == small_x) || (b == capital_x)) (around (FixedName names.GfmTaskListItemValueChecked)
      (Answer (next state_inline.GfmTaskListItemCheckClose)))
      (Answer states.Nok))

  -- at the `]`, or at a further column of the tab before it
  abbrev pub gfm_task_list_item_check_close : Body M
  gfm_task_list_item_check_close =
      On (λ b. b == right_bracket)
      (around (FixedName names.GfmTaskListItemMarker) (Exit (FixedName names.GfmTaskListItemCheck) (Answer (next state_inline.GfmTaskListItemCheckAfter))))
      (On (λ b. b == space) (Test (λ c. nat_lt 0 c.point.vs) (AfterFeed (Answer states.Nok) (Consume (Answer (next state_inline.GfmTaskListItemCheckClose))))
      (Answer states.Nok))
      (Answer states.Nok))

  -- after the `]`: looks ahead
  abbrev pub gfm_task_list_item_check_after : Body M
  gfm_task_list_item_check_after =
      On (λ b. b == line_feed) (Answer states.Ok)
      (On (λ b. (b == tab) || (b == space)) (Tries true states.Ok states.Nok (retry state_inline.GfmTaskListItemCheckAfterSpaceOrTab)) (Answer states.Nok))

  -- before or after spaces and tabs, which something follows
  abbrev pub gfm_task_list_item_check_after_space_or_tab : Body M
  gfm_task_list_item_check_after_space_or_tab =
      Byte (Answer states.Nok)
      (On (λ b. (b == tab) || (b == space))
      (Keep (λ c. record c.tokenize_state { size_c = 2 ^ 64 - 1 }) (λ c i. refl)
      (Tries false (next state_inline.GfmTaskListItemCheckAfterSpaceOrTab) states.Nok (retry state_inline.SpaceOrTabStart)))
      (Answer states.Ok))
