-- What the states of `gfm_label_start_footnote` do.
use Rattle.std.specs.Prelude.{Bool, ◌==◌}
use Rattle.engine_events.specs.declared.event.Name.TheVariants as names
use Rattle.engine_states.specs.declared.state.Inline.TheVariants as state_inline
use Rattle.engine_states.specs.declared.state.State.TheVariants as states
use Rattle.engine_programs.specs.Bodies.{FixedName, Body, Answer, Enter, Exit, Byte, On, Test, around}
use Rattle.state_table.specs.Words.{next}
use Rattle.engine_states.specs.declared.label.LabelKind.TheVariants as kinds
use Rattle.state_labels.specs.Start.{begin_label}
use Rattle.definition_text.specs.Ascii.{left_bracket, caret}

module _ {M : Type 0} where
  -- at a `[`
  abbrev pub gfm_label_start_footnote_start : Bool → Body M
  gfm_label_start_footnote_start on =
      Byte (Answer states.Nok)
      (On (λ b. b == left_bracket)
      (Test (λ c. on)
      (Enter (FixedName names.GfmFootnoteCallLabel) (around (FixedName names.LabelMarker) (Answer (next state_inline.GfmLabelStartFootnoteOpen))))
      (Answer states.Nok))
      (Answer states.Nok))

  -- after the `[`
  abbrev pub gfm_label_start_footnote_open : Body M
  gfm_label_start_footnote_open =
      Byte (Answer states.Nok)
      (On (λ b. b == caret) (around (FixedName names.GfmFootnoteCallMarker) (Exit (FixedName names.GfmFootnoteCallLabel) (begin_label kinds.GfmFootnote 6)))
      (Answer states.Nok))
