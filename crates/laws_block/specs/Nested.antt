-- How the rows of blocks are nested.
use Rattle.std.specs.Prelude.{◌≡◌, ℕ, suc, zero, List, [], ◌∷◌, Option, None, Some}
use Rattle.markdown_options.specs.declared.configuration.Constructs.{Constructs}
use Rattle.markdown_options.specs.declared.beside.Kind.{Kind}
use Rattle.definition_block.specs.Tree.{Blocks, blocks}
use Rattle.block_rows.specs.Rows.{BlockRow, Single, EnterQuote, EnterItem, EnterFootnote, Exit, rows_of}

-- how many containers are open after these rows, where so many are open before them; no number where one ends that isn't open
abbrev pub depth_after : ℕ → List BlockRow → Option ℕ
depth_after depth [] = Some depth
depth_after depth (Single b ∷ rows) = depth_after depth rows
depth_after depth (EnterQuote ∷ rows) = depth_after (suc depth) rows
depth_after depth (EnterItem marker number ∷ rows) = depth_after (suc depth) rows
depth_after depth (EnterFootnote label ∷ rows) = depth_after (suc depth) rows
depth_after zero (Exit ∷ rows) = None
depth_after (suc depth) (Exit ∷ rows) = depth_after depth rows

-- the rows of any blocks end only what they entered, and all of it
abbrev pub RowsAreNested : Type 0
RowsAreNested = (bs : Blocks) → depth_after 0 (rows_of bs) ≡ Some 0

-- and so the rows of any text
abbrev pub RowsOfTextAreNested : Type 0
RowsOfTextAreNested = (on : Constructs) (before : Kind) (text : List ℕ) → depth_after 0 (rows_of (blocks on before text)) ≡ Some 0
