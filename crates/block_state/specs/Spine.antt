-- A tree that is being read, seen from its innermost container.
use Rattle.std.specs.Prelude.{List, [], ◌∷◌, ◌++◌}
use Rattle.definition_block.specs.Container.{Container}
use Rattle.definition_block.specs.Tree.{Blocks, join, container_block, OpenLeaf, Opening, At, Inside, Tree}
use Rattle.block_rows.specs.Rows.{BlockRow, start_row, rows_of}

-- a container that is open, and the children of its parent before it
pub record Level : Type 0 where
  pub container : Container
  pub before : Blocks

abbrev pub level : Container → Blocks → Level
level container before = record { container = container; before = before }

-- the containers that are open, the innermost first; the children of the innermost so far; the open leaf
pub record Spine : Type 0 where
  pub around : List Level
  pub kids : Blocks
  pub leaf : OpenLeaf

abbrev pub spine : List Level → Blocks → OpenLeaf → Spine
spine around kids leaf = record { around = around; kids = kids; leaf = leaf }

abbrev pub spine_at : List Level → Blocks → Opening → Spine
spine_at around kids (At leaf) = spine around kids leaf
spine_at around kids (Inside c inner_kids inner) = spine_at (level c kids ∷ around) inner_kids inner

abbrev pub spine_of : Tree → Spine
spine_of t = spine_at [] t.done t.now

-- the same where a line adds children and leaves something open
abbrev pub spine_after : List Level → Blocks → Tree → Spine
spine_after around kids more = spine_at around (join kids more.done) more.now

-- the rows up to the start of the innermost container
abbrev pub rows_around : List Level → List BlockRow
rows_around [] = []
rows_around (l ∷ ls) = (rows_around ls ++ rows_of l.before) ++ start_row l.container ∷ []

-- the containers, the outermost first
abbrev pub containers_of : List Level → List Container
containers_of [] = []
containers_of (l ∷ ls) = containers_of ls ++ l.container ∷ []

-- the innermost container is closed
abbrev pub without_innermost_at : List Level → Blocks → OpenLeaf → Spine
without_innermost_at [] kids leaf = spine [] kids leaf
without_innermost_at (l ∷ ls) kids leaf = spine ls (join l.before (container_block l.container kids)) leaf

abbrev pub without_innermost : Spine → Spine
without_innermost s = without_innermost_at s.around s.kids s.leaf
