-- What a row of delimiters makes of the open paragraph.
use Rattle.std.specs.Prelude.{Bool, false, if◌then◌else◌, List, [], ◌∷◌, Option, None, Some, length}
use Rattle.std.specs.Option.{option_and_then}
use Rattle.markdown_options.specs.declared.configuration.Constructs.{Constructs}
use Rattle.definition_text.specs.BlockLines.{BlockLine}
use Rattle.markdown_options.specs.declared.align_kind.AlignKind.{AlignKind}
use Rattle.definition_block.specs.Definitions.{DefinitionCut, definition_cut}
use Rattle.definition_block.specs.GfmTable.{is_head}
use Rattle.definition_block.specs.Tree.{Opening, Tree, text_here, table_of, tabled}

-- whether there are columns, and the last of these lines has a cell for each
abbrev pub fits : List AlignKind → List BlockLine → Bool
fits [] ls = false
fits (align ∷ aligns) ls = is_head (length (align ∷ aligns)) ls

-- a table, where a paragraph was cut after its definitions
abbrev pub table_from_cut : DefinitionCut → BlockLine → Tree
table_from_cut parts row = table_of parts.definitions parts.left row

-- what a row of delimiters makes of a paragraph's lines, where there is one
abbrev pub table_if : Constructs → Option (List AlignKind) → List BlockLine → BlockLine → Option Tree
table_if on columns ls row = option_and_then (tabled on ls row) columns

-- a table of the open paragraph, if it is one
abbrev pub table_tree : Constructs → Bool → Opening → BlockLine → Option Tree
table_tree on made away row = if made then Some (table_from_cut (definition_cut on (text_here away)) row) else None
