-- The first line of a row is in all open containers, but for later lines of a paragraph (CommonMark 5.1).
use Rattle.std.specs.Prelude.{◌≡◌, ◌⊎◌, false, List}
use Rattle.markdown_options.specs.declared.configuration.Constructs.{Constructs}
use Rattle.definition_block.specs.Container.{Container}
use Rattle.block_rows.specs.Rows.{BlockRow}
use Rattle.parse_laid.specs.Places.{Place, IsInAll}
use Rattle.parse_laid.specs.Leaves.{FollowsText}
use Rattle.parse_laid.specs.Laid.{IsRowLaid}
use Rattle.parse_laid.specs.Begun.{ends_line}

-- Where a row begins that isn't the ending of a block's last line, a line is begun, or the next one is in all open containers, or a line of text is right
-- before it: then both are lines of one paragraph, of which definitions or a table are made.
pub record FirstLinesAreIn : Type 0 where
  pub first : (on : Constructs) (around inner : List Container) (row : BlockRow) (from to : Place) → ends_line row ≡ false
      → IsRowLaid on around row from inner to → IsInAll on around from ⊎ FollowsText on around from
