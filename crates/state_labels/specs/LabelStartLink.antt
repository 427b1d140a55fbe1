-- What the states of `label_start_link` do.
use Rattle.std.specs.Prelude.{Bool, ◌==◌}
use Rattle.engine_events.specs.declared.event.Name.TheVariants as names
use Rattle.engine_states.specs.declared.state.State.TheVariants as states
use Rattle.engine_programs.specs.Bodies.{FixedName, Body, Answer, Enter, Exit, Byte, On, Test, around}
use Rattle.engine_states.specs.declared.label.LabelKind.TheVariants as kinds
use Rattle.state_labels.specs.Start.{begin_label}
use Rattle.definition_text.specs.Ascii.{left_bracket}

module _ {M : Type 0} where
  -- at a `[`
  abbrev pub label_start_link_start : Bool → Body M
  label_start_link_start on =
      Byte (Answer states.Nok)
      (On (λ b. b == left_bracket)
      (Test (λ c. on) (Enter (FixedName names.LabelLink) (around (FixedName names.LabelMarker) (Exit (FixedName names.LabelLink) (begin_label kinds.Link 4))))
      (Answer states.Nok))
      (Answer states.Nok))
