-- What the states of `frontmatter` do.
use Rattle.std.specs.Prelude.{false, refl, ◌==◌}
use Rattle.markdown_options.specs.declared.configuration.Constructs.{Constructs}
use Rattle.engine_events.specs.declared.event.Name.TheVariants as names
use Rattle.engine_states.specs.declared.state.Block.TheVariants as state_block
use Rattle.engine_states.specs.declared.state.State.TheVariants as states
use Rattle.engine_programs.specs.Bodies.{FixedName, Body, Answer, Consume, Enter, Exit, Keep, Tries, Byte, On, Test, around}
use Rattle.definition_text.specs.Ascii.{line_feed, plus, hyphen}
use Rattle.state_table.specs.BlockWords.{over_white, at_line_end, no_limit, next, retry}
use Rattle.state_table.specs.Words.{at_marker, count_one}

abbrev pub frontmatter_closed : {M : Type 0} → Body M
frontmatter_closed = Test (λ c. c.tokenize_state.size == 3)
    (Exit (FixedName names.FrontmatterSequence) (over_white no_limit state_block.FrontmatterCloseAfter))
    (Answer states.Nok)

module _ {M : Type 0} where
  -- at the start of a text
  abbrev pub frontmatter_start : Constructs → Body M
  frontmatter_start constructs =
      Test (λ c. constructs.frontmatter)
      (On (λ b. b == hyphen)
      (Keep (λ c. record c.tokenize_state { marker = hyphen; size = 1 }) (λ c i. refl)
      (Enter (FixedName names.Frontmatter)
      (Enter (FixedName names.FrontmatterFence)
      (Enter (FixedName names.FrontmatterSequence) (Consume (Answer (next state_block.FrontmatterOpenSequence)))))))
      (On (λ b. b == plus)
      (Keep (λ c. record c.tokenize_state { marker = plus; size = 1 }) (λ c i. refl)
      (Enter (FixedName names.Frontmatter)
      (Enter (FixedName names.FrontmatterFence)
      (Enter (FixedName names.FrontmatterSequence) (Consume (Answer (next state_block.FrontmatterOpenSequence)))))))
      (Answer states.Nok)))
      (Answer states.Nok)

  -- in the opening fence
  abbrev pub frontmatter_open_sequence : Body M
  frontmatter_open_sequence =
      Byte (Answer states.Nok)
      (Test at_marker (count_one (Consume (Answer (next state_block.FrontmatterOpenSequence))))
      (Test (λ c. c.tokenize_state.size == 3)
      (Exit (FixedName names.FrontmatterSequence) (over_white no_limit state_block.FrontmatterOpenAfter))
      (Answer states.Nok)))

  -- after the opening fence
  abbrev pub frontmatter_open_after : Body M
  frontmatter_open_after =
      On (λ b. b == line_feed)
      (Exit (FixedName names.FrontmatterFence) (Answer (retry state_block.FrontmatterContentEnd)))
      (Answer states.Nok)

  -- at the end of a line
  abbrev pub frontmatter_content_end : Body M
  frontmatter_content_end =
      On (λ b. b == line_feed)
      (around (FixedName names.LineEnding)
      (Tries false (next state_block.FrontmatterAfter) (next state_block.FrontmatterContentStart) (next state_block.FrontmatterCloseStart)))
      (Answer states.Nok)

  -- at a closing fence
  abbrev pub frontmatter_close_start : Body M
  frontmatter_close_start =
      Byte (Answer states.Nok)
      (Test at_marker
      (Keep (λ c. record c.tokenize_state { size = 1 }) (λ c i. refl)
      (Enter (FixedName names.FrontmatterFence)
      (Enter (FixedName names.FrontmatterSequence) (Consume (Answer (next state_block.FrontmatterCloseSequence))))))
      (Answer states.Nok))

  -- in a closing fence
  abbrev pub frontmatter_close_sequence : Body M
  frontmatter_close_sequence =
      Byte frontmatter_closed
      (Test at_marker (count_one (Consume (Answer (next state_block.FrontmatterCloseSequence)))) frontmatter_closed)

  -- after a closing fence
  abbrev pub frontmatter_close_after : Body M
  frontmatter_close_after =
      at_line_end (Exit (FixedName names.FrontmatterFence) (Answer states.Ok)) (Answer states.Nok)

  -- at the start of a line
  abbrev pub frontmatter_content_start : Body M
  frontmatter_content_start =
      Byte (Answer states.Nok)
      (On (λ b. b == line_feed) (Answer (retry state_block.FrontmatterContentEnd))
      (Enter (FixedName names.FrontmatterChunk) (Consume (Answer (next state_block.FrontmatterContentInside)))))

  -- in a line
  abbrev pub frontmatter_content_inside : Body M
  frontmatter_content_inside =
      Byte (Answer states.Nok)
      (On (λ b. b == line_feed)
      (Exit (FixedName names.FrontmatterChunk) (Answer (retry state_block.FrontmatterContentEnd)))
      (Consume (Answer (next state_block.FrontmatterContentInside))))

  -- at the end
  abbrev pub frontmatter_after : Body M
  frontmatter_after =
      Exit (FixedName names.Frontmatter)
      (On (λ b. b == line_feed) (around (FixedName names.LineEnding) (Answer states.Ok)) (Answer states.Ok))
