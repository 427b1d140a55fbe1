-- What the states of `block_quote` do.
use Rattle.std.specs.Prelude.{◌==◌}
use Rattle.markdown_options.specs.declared.configuration.Constructs.{Constructs}
use Rattle.engine_events.specs.declared.event.Name.TheVariants as names
use Rattle.engine_states.specs.declared.state.Block.TheVariants as state_block
use Rattle.engine_states.specs.declared.state.State.TheVariants as states
use Rattle.engine_programs.specs.Bodies.{FixedName, Body, Answer, Enter, Exit, On, Test, around}
use Rattle.definition_text.specs.Ascii.{greater_than}
use Rattle.state_table.specs.BlockWords.{over_indent, next}
use Rattle.state_table.specs.Words.{is_space_or_tab}

module _ {M : Type 0} where
  -- at the start
  abbrev pub block_quote_start : Constructs → Body M
  block_quote_start constructs =
      Test (λ c. constructs.block_quote) (over_indent constructs state_block.BlockQuoteContBefore) (Answer states.Nok)

  -- at the start of a further line
  abbrev pub block_quote_cont_start : Constructs → Body M
  block_quote_cont_start constructs =
      over_indent constructs state_block.BlockQuoteContBefore

  -- at the `>`
  abbrev pub block_quote_cont_before : Body M
  block_quote_cont_before =
      On (λ b. b == greater_than)
      (Enter (FixedName names.BlockQuotePrefix)
      (around (FixedName names.BlockQuoteMarker) (Answer (next state_block.BlockQuoteContAfter))))
      (Answer states.Nok)

  -- after the `>`
  abbrev pub block_quote_cont_after : Body M
  block_quote_cont_after =
      On is_space_or_tab
      (around (FixedName names.SpaceOrTab) (Exit (FixedName names.BlockQuotePrefix) (Answer states.Ok)))
      (Exit (FixedName names.BlockQuotePrefix) (Answer states.Ok))
