-- A heading is told by its first line (CommonMark 4.2 and 4.3).
use Rattle.std.specs.Prelude.{ℕ, List}
use Rattle.markdown_options.specs.declared.configuration.Constructs.{Constructs}
use Rattle.definition_text.specs.BlockLines.{BlockLine}
use Rattle.definition_block.specs.Container.{Container}
use Rattle.parse_laid.specs.Places.{Place}
use Rattle.parse_laid.specs.Leaves.{IsAtxLaid, IsSetextLaid}

-- At no place there are both a heading by `#` and one by an underline.
pub record HeadingsAreTold : Type 0 where
  pub never_both : (on : Constructs) (around : List Container) (rank other : ℕ) (ls others : List BlockLine) (from to end : Place)
      → IsAtxLaid on around rank ls from to → IsSetextLaid on around other others from end → ⊥
