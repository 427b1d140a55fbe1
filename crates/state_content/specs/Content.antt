-- What the states of `content` do.
use Rattle.std.specs.Prelude.{false, ◌==◌}
use Rattle.engine_events.specs.declared.event.Name.TheVariants as names
use Rattle.engine_states.specs.declared.resolve.Name.TheVariants as resolvers
use Rattle.engine_states.specs.declared.state.Block.TheVariants as state_block
use Rattle.engine_states.specs.declared.state.State.TheVariants as states
use Rattle.engine_programs.specs.Bodies.{FixedName, Body, Answer, Consume, EnterLink, Exit, RegisterFirst, Tries, Byte, On, around}
use Rattle.definition_text.specs.Ascii.{line_feed}
use Rattle.state_table.specs.BlockWords.{at_line_end, next, retry, interrupting, content_link}

module _ {M : Type 0} where
  -- at the start of a line that may begin a definition
  abbrev pub content_definition_before : Body M
  content_definition_before =
      Byte (Answer states.Ok)
      (Tries false (next state_block.ContentDefinitionAfter) (next state_block.ParagraphStart) (retry state_block.DefinitionStart))

  -- after a definition
  abbrev pub content_definition_after : Body M
  content_definition_after =
      On (λ b. b == line_feed)
      (around (FixedName names.LineEnding) (Answer (next state_block.ContentDefinitionBefore)))
      (Answer states.Ok)

  -- at the start of a line of content
  abbrev pub content_chunk_start : Body M
  content_chunk_start =
      EnterLink (FixedName names.Content) content_link (Consume (Answer (next state_block.ContentChunkInside)))

  -- in a line of content
  abbrev pub content_chunk_inside : Body M
  content_chunk_inside =
      at_line_end (Exit (FixedName names.Content) (RegisterFirst resolvers.Content (interrupting (Answer states.Ok))))
      (Consume (Answer (next state_block.ContentChunkInside)))
