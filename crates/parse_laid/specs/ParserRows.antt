-- The rows of the block parser, which take their lines from a list beside them, are laid in the lines of the text.
use Rattle.std.specs.Prelude.{◌≡◌, ℕ, ◌<◌, List, [], ◌∷◌, drop, get_or}
use Rattle.markdown_options.specs.declared.configuration.Constructs.{Constructs}
use Rattle.markdown_options.specs.declared.beside.Kind.{Kind}
use Rattle.definition_text.specs.BlockLines.{BlockLine}
use Rattle.definition_block.specs.Container.{Container}
use Rattle.definition_block.specs.Tree.{blocks}
use Rattle.block_rows.specs.declared.row.Row.{Row}
use Rattle.block_rows.specs.Rows.{rows_of, row_size, row_value, rows_value, value_with}
use Rattle.parse_laid.specs.Places.{Place, Between}
use Rattle.parse_laid.specs.Laid.{IsRowLaid, unread_lines}

-- rows one after another, each with its lines at the front of those that are left, up to the end of the text
abbrev pub AreRowsLaid : Constructs → List Container → Place → List Row → List BlockLine → Type 0
AreRowsLaid on around from [] ls = (around ≡ []) × (from ≡ Between [])
AreRowsLaid on around from (row ∷ rows) ls =
    (inner : List Container) × (to : Place) × IsRowLaid on around (row_value row ls) from inner to × AreRowsLaid on inner to rows (drop (row_size row) ls)

-- Rows that are those of the blocks of a text of bytes are laid in its lines.
pub record ParserRowsAreLaid : Type 0 where
  pub laid : (on : Constructs) (before : Kind) (text : List ℕ) (rows : List Row) (ls left : List BlockLine) → ((k : ℕ) → get_or text k 0 < 256)
      → rows_value rows ls ≡ value_with (rows_of (blocks on before text)) left → AreRowsLaid on [] (Between (unread_lines on before text)) rows ls
