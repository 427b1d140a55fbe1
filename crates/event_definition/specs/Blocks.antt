-- The blocks of a text, one after another over its lines (CommonMark 3 and 5).
use Rattle.std.specs.Prelude.{ℕ, List, [], ◌∷◌, ◌++◌, Option, None, Some}
use Rattle.definition_block.specs.Blocks as tree
use Rattle.definition_block.specs.Container.{Container}
use Rattle.definition_page.specs.Read.{Reading, Standing, in_container, list_number, next_standing, standing_in}
use Rattle.engine_events.specs.declared.event.Name.{Name}
use Rattle.engine_events.specs.declared.event.Name.TheVariants as n
use Rattle.event_definition.specs.Pieces.{Nil}
use Rattle.event_definition.specs.Context.{on_of}
use Rattle.event_definition.specs.Containers.{begun, container_name, started}
use Rattle.event_definition.specs.Leaves.{leaf_written}
use Rattle.event_definition.specs.Written.{Left, Written, and_then, ended, inside, white, whole_rest, written}

-- a list with the number of its first item, or without one (CommonMark 5.3)
abbrev pub list_name : Option ℕ → Name
list_name None = n.ListUnordered
list_name (Some number) = n.ListOrdered

-- the prefixes of the line, unless it is begun, and the white space after them
abbrev pub begun_after_white : Reading → List Container → Left → Written
begun_after_white r outer left = and_then (begun (on_of r) outer left) white

-- a blank line and its ending
abbrev pub blank_written : Reading → List Container → Left → Written
blank_written r outer left = and_then (begun (on_of r) outer left) (λ l. and_then (whole_rest n.SpaceOrTab l) (ended n.BlankLineEnding))

abbrev mutual
  -- a block that stands here, in these containers, the outermost first
  pub block_written : Reading → List Container → Standing → tree.Block → Left → Written
  block_written r outer standing (tree.Leaf leaf) left = and_then (begun (on_of r) outer left) (leaf_written r outer standing.first leaf)
  block_written r outer standing (tree.Holds c kids) left =
      let inner = outer ++ c ∷ [] in
      and_then (begun_after_white r outer left) (λ l. inside (container_name c) (and_then
      (and_then (started (on_of r) l) (blocks_written r inner (standing_in c) kids))
      (begun (on_of r) inner)))
  block_written r outer standing (tree.Items items) left =
      and_then (begun_after_white r outer left) (λ l. inside (list_name (list_number items)) (blocks_written r outer in_container items l))
  block_written r outer standing (tree.Ending ending) left = ended n.LineEnding left
  block_written r outer standing (tree.Blank ending) left = blank_written r outer left

  -- blocks one after another
  pub blocks_written : Reading → List Container → Standing → tree.Blocks → Left → Written
  blocks_written r outer standing tree.Nil left = written Nil left
  blocks_written r outer standing (tree.Cons b bs) left =
      and_then (block_written r outer standing b left) (blocks_written r outer (next_standing standing b) bs)
