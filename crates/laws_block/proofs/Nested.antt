-- How the rows of blocks are nested.
use Rattle.std.proofs.Common.{◌≡◌, ℕ, suc, List, [], ◌∷◌, ◌++◌, sym, refl, ap, ◌∙◌, append_assoc}
use Rattle.std.proofs.lemmas.List.{append-nil}
use Rattle.definition_block.specs.Container.{Container, Quote}
use Rattle.definition_block.specs.Tree.{Block, Holds, Items, Blocks, Nil, Cons, blocks}
use Rattle.block_rows.specs.Rows.{BlockRow, Exit, start_row, block_rows, rows_of}
use Rattle.laws_block.specs.Nested.{depth_after, RowsAreNested, RowsOfTextAreNested}

-- rows that leave the depth as it was, whatever follows them
abbrev LeavesDepth : List BlockRow → Type 0
LeavesDepth rows = (depth : ℕ) (others : List BlockRow) → depth_after depth (rows ++ others) ≡ depth_after depth others

-- a container's start adds one
enters : (c : Container) (depth : ℕ) (rows : List BlockRow) → depth_after depth (start_row c ∷ rows) ≡ depth_after (suc depth) rows
enters Quote depth rows = refl
enters c depth rows = refl

mutual
  block_leaves : (b : Block) → LeavesDepth (block_rows b)
  block_leaves (Holds c kids) depth others =
      enters c depth ((rows_of kids ++ Exit ∷ []) ++ others)
      ∙ ap (depth_after (suc depth)) (append_assoc (rows_of kids) (Exit ∷ []) others)
      ∙ rows_leave kids (suc depth) (Exit ∷ others)
  block_leaves (Items items) depth others = rows_leave items depth others
  block_leaves b depth others = refl

  rows_leave : (bs : Blocks) → LeavesDepth (rows_of bs)
  rows_leave Nil depth others = refl
  rows_leave (Cons b bs) depth others =
      ap (depth_after depth) (append_assoc (block_rows b) (rows_of bs) others)
      ∙ block_leaves b depth (rows_of bs ++ others)
      ∙ rows_leave bs depth others

pub rows_are_nested : RowsAreNested
rows_are_nested bs = sym (ap (depth_after 0) (append-nil (rows_of bs))) ∙ rows_leave bs 0 []

pub rows_of_text_are_nested : RowsOfTextAreNested
rows_of_text_are_nested on before text = rows_are_nested (blocks on before text)
