-- What an underline makes of the open paragraph.
use Rattle.std.specs.Prelude.{◌≡◌, ℕ, Bool, true, false, List, Option, None, Some}
use Rattle.markdown_options.specs.declared.configuration.Constructs.{Constructs}
use Rattle.markdown_options.specs.declared.line_ending.LineEnding.{LineEnding}
use Rattle.definition_block.specs.Definitions.{definition_cut}
use Rattle.definition_text.specs.BlockLines.{BlockLine, own_lines}
use Rattle.definition_block.specs.Tree.{Blocks, Leaf, Heading, join, block_and_ending, Text, Opening, At, Tree, tree}
use Rattle.definition_block.specs.Tree.{nothing, text_here}

-- the definitions at the front of a paragraph, and a heading of what is left of it
abbrev pub heading_blocks : Constructs → ℕ → List BlockLine → Option LineEnding → Blocks
heading_blocks on rank ls ending =
    let parts = definition_cut on ls in
    join parts.definitions (block_and_ending (Leaf (Heading rank (own_lines parts.left))) ending)

-- a heading of a rank, if there is one
abbrev pub heading_tree : Constructs → Option ℕ → Opening → Option LineEnding → Option Tree
heading_tree on None away ending = None
heading_tree on (Some rank) away ending = Some (tree (heading_blocks on rank (text_here away) ending) nothing)

-- whether no container is open, and no leaf but a paragraph
abbrev pub is_text : Opening → Bool
is_text (At (Text ls)) = true
is_text away = false

abbrev pub IsText : Opening → Type 0
IsText away = is_text away ≡ true
