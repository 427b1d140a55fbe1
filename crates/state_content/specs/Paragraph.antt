-- What the states of `paragraph` do.
use Rattle.std.specs.Prelude.{◌==◌}
use Rattle.engine_events.specs.declared.event.Name.TheVariants as names
use Rattle.engine_states.specs.declared.state.Block.TheVariants as state_block
use Rattle.engine_states.specs.declared.state.State.TheVariants as states
use Rattle.engine_programs.specs.Bodies.{FixedName, Body, Answer, Consume, Enter, EnterLink, Exit, Byte, On}
use Rattle.definition_text.specs.Ascii.{line_feed}
use Rattle.state_table.specs.BlockWords.{next, text_after}

module _ {M : Type 0} where
  -- at the first byte
  abbrev pub paragraph_start : Body M
  paragraph_start =
      Byte (Answer states.Ok)
      (Enter (FixedName names.Paragraph)
      (EnterLink (FixedName names.Data) text_after (Consume (Answer (next state_block.ParagraphInside)))))

  -- at the start of a further line
  abbrev pub paragraph_line_start : Body M
  paragraph_line_start =
      Byte (Exit (FixedName names.Paragraph) (Answer states.Ok))
      (EnterLink (FixedName names.Data) text_after (Consume (Answer (next state_block.ParagraphInside))))

  -- in a line
  abbrev pub paragraph_inside : Body M
  paragraph_inside =
      Byte (Exit (FixedName names.Data) (Exit (FixedName names.Paragraph) (Answer states.Ok)))
      (On (λ b. b == line_feed) (Consume (Exit (FixedName names.Data) (Answer (next state_block.ParagraphLineStart))))
      (Consume (Answer (next state_block.ParagraphInside))))
