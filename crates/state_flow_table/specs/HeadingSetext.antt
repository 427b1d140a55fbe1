-- What the states of `heading_setext` do.
use Rattle.std.specs.Prelude.{ℕ, List, refl, length, ◌==◌}
use Rattle.markdown_options.specs.declared.configuration.Constructs.{Constructs}
use Rattle.engine_events.specs.declared.event.Name.TheVariants as names
use Rattle.engine_states.specs.declared.resolve.Name.TheVariants as resolvers
use Rattle.engine_states.specs.declared.state.Block.TheVariants as state_block
use Rattle.engine_states.specs.declared.state.State.TheVariants as states
use Rattle.engine_programs.specs.Bodies.{FixedName, Body, Answer, Consume, Enter, Exit, Keep, Register, Byte, On, Test}
use Rattle.definition_text.specs.Ascii.{hyphen, equals}
use Rattle.state_table.specs.BlockWords.{over_white, at_line_end, no_limit, next, retry, free}
use Rattle.state_table.specs.Words.{at_marker}
use Rattle.state_left.specs.Before.{is_after_content}
use Rattle.state_left.specs.Left.{is_paragraph_left}

abbrev pub heading_setext_end : {M : Type 0} → List ℕ → Constructs → Body M
heading_setext_end bytes constructs = Test (λ c. is_paragraph_left bytes constructs.definition c)
    (Exit (FixedName names.HeadingSetextUnderline) (Register resolvers.HeadingSetext (free (Answer states.Ok))))
    (Answer states.Nok)

module _ {M : Type 0} where
  -- at the first byte after the indent
  abbrev pub heading_setext_start : Constructs → Body M
  heading_setext_start constructs =
      Test (λ c. constructs.heading_setext)
      (Test (λ c. c.lazy) (Answer states.Nok)
      (Test (λ c. is_after_content c.events)
      (Keep (λ c. record c.tokenize_state { start = length c.events }) (λ c i. refl)
      (Enter (FixedName names.HeadingSetextUnderline) (Answer (retry state_block.HeadingSetextBefore))))
      (Answer states.Nok)))
      (Answer states.Nok)

  -- at the first marker
  abbrev pub heading_setext_before : Body M
  heading_setext_before =
      On (λ b. b == hyphen)
      (Keep (λ c. record c.tokenize_state { marker = hyphen }) (λ c i. refl)
      (Enter (FixedName names.HeadingSetextUnderlineSequence)
      (Consume (Answer (next state_block.HeadingSetextInside)))))
      (On (λ b. b == equals)
      (Keep (λ c. record c.tokenize_state { marker = equals }) (λ c i. refl)
      (Enter (FixedName names.HeadingSetextUnderlineSequence)
      (Consume (Answer (next state_block.HeadingSetextInside)))))
      (Answer states.Nok))

  -- in the underline
  abbrev pub heading_setext_inside : Body M
  heading_setext_inside =
      Byte (Exit (FixedName names.HeadingSetextUnderlineSequence) (Answer (retry state_block.HeadingSetextAfter)))
      (Test at_marker (Consume (Answer (next state_block.HeadingSetextInside)))
      (Exit (FixedName names.HeadingSetextUnderlineSequence) (over_white no_limit state_block.HeadingSetextAfter)))

  -- after spaces and tabs
  abbrev pub heading_setext_after : List ℕ → Constructs → Body M
  heading_setext_after bytes constructs =
      at_line_end (heading_setext_end bytes constructs) (Answer states.Nok)
