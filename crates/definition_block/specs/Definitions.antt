-- Link reference definitions at the front of a paragraph (CommonMark 4.7), and the definitions of a whole document.
use Rattle.std.specs.Prelude.{ℕ, suc, zero, ◌+◌, ◌-◌, if◌then◌else◌, List, [], ◌∷◌, ◌++◌, Option, None, Some, take, drop, length, map}
use Rattle.std.specs.List.{count_by}
use Rattle.std.specs.Option.{option_map}
use Rattle.markdown_options.specs.declared.configuration.Constructs.{Constructs}
use Rattle.definition_text.specs.Columns.{Code, code_byte}
use Rattle.definition_text.specs.BlockLines.{BlockLine, last_ending, own_lines}
use Rattle.definition_block.specs.Container.{Container, Footnote}
use Rattle.definition_block.specs.Blocks.{LeafBlock, Definition, Block, Leaf, Holds, Items, Blocks, Nil, Cons, join, block_and_ending}
use Rattle.definition_text.specs.Content.{is_eol, content_of}
use Rattle.definition_inline.specs.Definition.{Definition as LinkDefinition, definition, definition_at}
use Rattle.definition_inline.specs.Targets.{Targets, targets}

-- the definitions at the front of a paragraph, each with the ending of its last line, and the lines after them
pub record DefinitionCut : Type 0 where
  pub definitions : Blocks
  pub left : List BlockLine

abbrev pub cut_into : Blocks → List BlockLine → DefinitionCut
cut_into definitions left = record { definitions = definitions; left = left }

-- how many lines a content has
abbrev pub line_count : List Code → ℕ
line_count [] = 0
line_count (c ∷ cs) = 1 + count_by is_eol (c ∷ cs)

-- how many of these lines stand before the rest of their content
abbrev pub lines_before : List Code → List BlockLine → ℕ
lines_before rest ls = length ls - line_count rest

-- a definition on these lines, and the ending of the last one
abbrev pub definition_lines : LinkDefinition → List BlockLine → Blocks
definition_lines d ls = block_and_ending (Leaf (Definition (own_lines ls) d.label d.destination d.title)) (last_ending ls)

-- a definition before what more cuts of the lines after it give
abbrev pub cut_after : Option LinkDefinition → List BlockLine → (List BlockLine → DefinitionCut) → DefinitionCut
cut_after None ls more = cut_into Nil ls
cut_after (Some d) ls more =
    let count = lines_before d.rest ls in
    let others = more (drop count ls) in
    cut_into (join (definition_lines d (take count ls)) others.definitions) others.left

-- at most so many definitions, one after another
abbrev pub cut_most : ℕ → List BlockLine → DefinitionCut
cut_most zero ls = cut_into Nil ls
cut_most (suc most) ls = cut_after (definition_at (content_of (own_lines ls))) ls (cut_most most)

-- a paragraph's lines, cut after all definitions at its front, each of which has a line at least (CommonMark 4.7)
abbrev pub definition_cut : Constructs → List BlockLine → DefinitionCut
definition_cut on ls = if on.definition then cut_most (length ls) ls else cut_into Nil ls

-- a leaf that is a definition; it is alone, so that nothing follows it
abbrev pub leaf_definitions : LeafBlock → List LinkDefinition
leaf_definitions (Definition ls label destination title) = definition label destination title [] ∷ []
leaf_definitions leaf = []

-- the definitions in a document, in the order of the text, repeats kept (CommonMark 4.7)
abbrev mutual
  pub block_definitions : Block → List LinkDefinition
  block_definitions (Leaf leaf) = leaf_definitions leaf
  block_definitions (Holds c kids) = definitions kids
  block_definitions (Items items) = definitions items
  block_definitions b = []

  pub definitions : Blocks → List LinkDefinition
  definitions Nil = []
  definitions (Cons b bs) = block_definitions b ++ definitions bs

-- the label of a footnote definition
abbrev pub container_footnotes : Container → List (List Code)
container_footnotes (Footnote label) = label ∷ []
container_footnotes c = []

-- the labels of the footnote definitions in a document, as they are written, in the order in which these end, repeats kept: one ends after those in it
abbrev mutual
  pub block_footnotes : Block → List (List Code)
  block_footnotes (Holds c kids) = footnotes kids ++ container_footnotes c
  block_footnotes (Items items) = footnotes items
  block_footnotes b = []

  pub footnotes : Blocks → List (List Code)
  footnotes Nil = []
  footnotes (Cons b bs) = block_footnotes b ++ footnotes bs

-- a definition whose columns that are left of a tab are spaces
abbrev pub with_spaces : LinkDefinition → LinkDefinition
with_spaces d = definition (map code_byte d.label) (map code_byte d.destination) (option_map (map code_byte) d.title) (map code_byte d.rest)

-- the definitions of a document, as labels lead to them (CommonMark 4.7)
abbrev pub document_definitions : Blocks → List LinkDefinition
document_definitions bs = map with_spaces (definitions bs)

-- what the labels of a document lead to; those of footnotes have no white space, and so no columns left of a tab
abbrev pub document_targets : Blocks → Targets
document_targets bs = targets (document_definitions bs) (footnotes bs)
