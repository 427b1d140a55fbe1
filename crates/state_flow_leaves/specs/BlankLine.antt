-- What the states of `blank_line` do.
use Rattle.engine_states.specs.declared.state.Block.TheVariants as state_block
use Rattle.engine_states.specs.declared.state.State.TheVariants as states
use Rattle.engine_programs.specs.Bodies.{Body, Answer}
use Rattle.state_table.specs.BlockWords.{over_white, at_line_end, no_limit}

module _ {M : Type 0} where
  -- at the start of a line
  abbrev pub blank_line_start : Body M
  blank_line_start =
      over_white no_limit state_block.BlankLineAfter

  -- after spaces and tabs
  abbrev pub blank_line_after : Body M
  blank_line_after =
      at_line_end (Answer states.Ok) (Answer states.Nok)
