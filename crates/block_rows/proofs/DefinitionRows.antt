-- The definitions of a document are those of its rows.
use Rattle.std.proofs.Common.{◌≡◌, [], ◌∷◌, ◌++◌, refl, sym, ap, ap₂, ◌∙◌}
use Rattle.std.specs.Prelude.{map}
use Rattle.std.specs.List.{flat_map}
use Rattle.std.proofs.lemmas.List.{append-nil, map-append}
use Rattle.std.proofs.lemmas.List.Concat.{flat_map-append}
use Rattle.definition_block.specs.Container.{Container, Quote, Item, Footnote}
use Rattle.definition_text.specs.Columns.{code_byte}
use Rattle.definition_block.specs.Blocks.{LeafBlock, Definition, Block, Leaf, Holds, Items, Ending, Blank, Blocks, Nil, Cons}
use Rattle.definition_block.specs.Definitions.{leaf_definitions, block_definitions, definitions}
use Rattle.block_rows.specs.Rows.{Exit, start_row, row_definitions, spaced_leaf, block_rows, rows_of}
use Rattle.definition_inline.proofs.LinkRenaming.{renamed_definition}

-- where a container starts there is none
none_entered : (c : Container) → row_definitions (start_row c) ≡ []
none_entered Quote = refl
none_entered (Item item) = refl
none_entered (Footnote label) = refl

definitions_in_leaf : (leaf : LeafBlock) → leaf_definitions (spaced_leaf leaf) ++ [] ≡ map (renamed_definition code_byte) (leaf_definitions leaf)
definitions_in_leaf (Definition ls label destination title) = refl
definitions_in_leaf leaf = refl

mutual
  pub definitions_in : (b : Block) → flat_map row_definitions (block_rows b) ≡ map (renamed_definition code_byte) (block_definitions b)
  definitions_in (Leaf leaf) = definitions_in_leaf leaf
  definitions_in (Holds c kids) =
      ap (λ x. x ++ flat_map row_definitions (rows_of kids ++ Exit ∷ [])) (none_entered c)
      ∙ flat_map-append row_definitions (rows_of kids) (Exit ∷ []) ∙ append-nil (flat_map row_definitions (rows_of kids)) ∙ definitions_of kids
  definitions_in (Items items) = definitions_of items
  definitions_in (Ending ending) = refl
  definitions_in (Blank ending) = refl

  -- but for columns that are left of a tab
  pub definitions_of : (bs : Blocks) → flat_map row_definitions (rows_of bs) ≡ map (renamed_definition code_byte) (definitions bs)
  definitions_of Nil = refl
  definitions_of (Cons b bs) =
      flat_map-append row_definitions (block_rows b) (rows_of bs)
      ∙ ap₂ (λ xs ys. xs ++ ys) (definitions_in b) (definitions_of bs)
      ∙ sym (map-append (renamed_definition code_byte) (block_definitions b) (definitions bs))
