-- What the states of `label_start_image` do.
use Rattle.std.specs.Prelude.{Bool, ◌==◌}
use Rattle.engine_events.specs.declared.event.Name.TheVariants as names
use Rattle.engine_states.specs.declared.state.Inline.TheVariants as state_inline
use Rattle.engine_states.specs.declared.state.State.TheVariants as states
use Rattle.engine_programs.specs.Bodies.{FixedName, Body, Answer, Enter, Exit, Byte, On, Test, around}
use Rattle.state_table.specs.Words.{next}
use Rattle.engine_states.specs.declared.label.LabelKind.TheVariants as kinds
use Rattle.state_labels.specs.Start.{begin_label}
use Rattle.definition_text.specs.Ascii.{exclamation_mark, left_bracket, caret}

module _ {M : Type 0} where
  -- at a `!`
  abbrev pub label_start_image_start : Bool → Body M
  label_start_image_start on =
      Byte (Answer states.Nok)
      (On (λ b. b == exclamation_mark)
      (Test (λ c. on) (Enter (FixedName names.LabelImage) (around (FixedName names.LabelImageMarker) (Answer (next state_inline.LabelStartImageOpen))))
      (Answer states.Nok))
      (Answer states.Nok))

  -- after the `!`
  abbrev pub label_start_image_open : Body M
  label_start_image_open =
      Byte (Answer states.Nok)
      (On (λ b. b == left_bracket) (around (FixedName names.LabelMarker) (Exit (FixedName names.LabelImage) (Answer (next state_inline.LabelStartImageAfter))))
      (Answer states.Nok))

  -- after the `[`: while footnotes are called, no `^` follows
  abbrev pub label_start_image_after : Bool → Body M
  label_start_image_after footnotes =
      On (λ b. b == caret) (Test (λ c. footnotes) (Answer states.Nok) (begin_label kinds.Image 6)) (begin_label kinds.Image 6)
