-- Labels and definitions with another ending in place of each LF.
use Rattle.std.proofs.Common.{◌≡◌, ℕ, List, [], ◌∷◌, ◌++◌, None, Some, Option, Bool, true, false, cond, eqb, refl, sym, ap, ◌∙◌, map}
use Rattle.laws_endings.proofs.Prelude.{block_definitions, block_footnotes, block_with, blocks, blocks_with, both_ways, code_byte, code_with, codes_with}
use Rattle.laws_endings.proofs.Prelude.{definition_with, definitions, document_definitions, eqb-true, false_from_ne_true, filter, footnotes, is_space}
use Rattle.laws_endings.proofs.Prelude.{is_tab_column, leaf_block_with, leaf_definitions, line_ending_code, LineEnding, LinkDefinition, map-append}
use Rattle.laws_endings.proofs.Prelude.{normal_label, option_map, place_of, with_spaces}
use Rattle.std.specs.List.{join_by, slice_split, onto_first}
use Rattle.markdown_options.specs.declared.line_ending.LineEnding.TheVariants.{CarriageReturnLineFeed, CarriageReturn, LineFeed}
use Rattle.definition_inline.specs.Definition.{definition}
use Rattle.definition_inline.specs.LabelMatch.{is_word, fold_word}
use Rattle.definition_block.specs.Blocks.{LeafBlock, Definition, Block, Leaf, Holds, Items, Blocks, Nil, Cons}
use Rattle.definition_block.specs.Definitions.{container_footnotes}
use Rattle.laws_endings.specs.Laws.{LabelsLaw, DefinitionsLaw, FootnotesLaw}
use Rattle.laws_endings.proofs.Codes.{same_code}
use Rattle.laws_endings.proofs.Leaves.{same_byte}
use Rattle.laws_endings.proofs.Blocks.{blocks_law}

-- what is no space is no LF
apart : (c : ℕ) → is_space c ≡ false → eqb c 10 ≡ false
apart c h = false_from_ne_true (eqb c 10) (λ is. both_ways (is_space c) h (ap is_space (eqb-true c 10 is)))

module _ (e : LineEnding) where
  -- ---- labels

  abbrev parts : List ℕ → List (List ℕ)
  parts cs = slice_split is_space cs

  part_either : (c : ℕ) (cs : List ℕ) (space : Bool) → is_space c ≡ space
      → cond space ([] ∷ parts cs) (onto_first (code_with e c) (parts cs)) ≡ cond space ([] ∷ parts cs) (onto_first c (parts cs))
  part_either c cs true h = refl
  part_either c cs false h = ap (λ code. onto_first code (parts cs)) (same_byte e c (apart c h))

  -- line endings stand between the words of a label, and in none of them
  parts-with : (cs : List ℕ) → parts (codes_with e cs) ≡ parts cs
  parts-with [] = refl
  parts-with (c ∷ cs) =
      let either : Bool → List (List ℕ) → List (List ℕ) = λ space others. cond space ([] ∷ others) (onto_first (code_with e c) others) in
      ap (λ space. either space (parts (codes_with e cs))) (same_code e is_space c refl refl)
      ∙ ap (either (is_space c)) (parts-with cs)
      ∙ part_either c cs (is_space c) refl

  pub normal_label-with : (label : List ℕ) → normal_label (codes_with e label) ≡ normal_label label
  normal_label-with label = ap (λ all. join_by fold_word (32 ∷ []) (filter is_word all)) (parts-with label)

  pub normal_labels-with : (labels : List (List ℕ)) → map normal_label (map (codes_with e) labels) ≡ map normal_label labels
  normal_labels-with [] = refl
  normal_labels-with (label ∷ labels) =
      ap (λ normal. normal ∷ map normal_label (map (codes_with e) labels)) (normal_label-with label)
      ∙ ap (λ others. normal_label label ∷ others) (normal_labels-with labels)

  -- ---- definitions

  code_byte_either : (c : ℕ) (column : Bool) → eqb c 10 ≡ false → cond column 32 c ≡ code_with e (cond column 32 c)
  code_byte_either c true h = refl
  code_byte_either c false h = sym (same_byte e c h)

  ending_byte : (ending : LineEnding) → code_byte (line_ending_code ending) ≡ line_ending_code ending
  ending_byte LineFeed = refl
  ending_byte CarriageReturn = refl
  ending_byte CarriageReturnLineFeed = refl

  byte_either : (c : ℕ) (feed : Bool) → eqb c 10 ≡ feed → code_byte (cond feed (line_ending_code e) c) ≡ code_with e (code_byte c)
  byte_either c true h = ending_byte e ∙ sym (ap (λ code. code_with e (code_byte code)) (eqb-true c 10 h))
  byte_either c false h = code_byte_either c (is_tab_column c) h

  pub bytes-with : (cs : List ℕ) → map code_byte (codes_with e cs) ≡ codes_with e (map code_byte cs)
  bytes-with [] = refl
  bytes-with (c ∷ cs) =
      ap (λ code. code ∷ map code_byte (codes_with e cs)) (byte_either c (eqb c 10) refl)
      ∙ ap (λ more. code_with e (code_byte c) ∷ more) (bytes-with cs)

  title-with : (title : Option (List ℕ))
      → option_map (map code_byte) (option_map (codes_with e) title) ≡ option_map (codes_with e) (option_map (map code_byte) title)
  title-with None = refl
  title-with (Some title) = ap Some (bytes-with title)

  spaced-with : (d : LinkDefinition) → with_spaces (definition_with e d) ≡ definition_with e (with_spaces d)
  spaced-with d =
      let destination = map code_byte (codes_with e d.destination) in
      let title = option_map (map code_byte) (option_map (codes_with e) d.title) in
      let rest = map code_byte (codes_with e d.rest) in
      let label = codes_with e (map code_byte d.label) in
      let to = codes_with e (map code_byte d.destination) in
      ap (λ l. definition l destination title rest) (bytes-with d.label)
      ∙ ap (λ t. definition label t title rest) (bytes-with d.destination)
      ∙ ap (λ t. definition label to t rest) (title-with d.title)
      ∙ ap (definition label to (option_map (codes_with e) (option_map (map code_byte) d.title))) (bytes-with d.rest)

  all_spaced-with : (ds : List LinkDefinition) → map with_spaces (map (definition_with e) ds) ≡ map (definition_with e) (map with_spaces ds)
  all_spaced-with [] = refl
  all_spaced-with (d ∷ ds) =
      ap (λ first. first ∷ map with_spaces (map (definition_with e) ds)) (spaced-with d)
      ∙ ap (λ others. definition_with e (with_spaces d) ∷ others) (all_spaced-with ds)

  leaf_definitions-with : (leaf : LeafBlock) → leaf_definitions (leaf_block_with e leaf) ≡ map (definition_with e) (leaf_definitions leaf)
  leaf_definitions-with (Definition ls label destination title) = refl
  leaf_definitions-with leaf = refl

  mutual
    block_definitions-with : (b : Block) → block_definitions (block_with e b) ≡ map (definition_with e) (block_definitions b)
    block_definitions-with (Leaf leaf) = leaf_definitions-with leaf
    block_definitions-with (Holds c kids) = definitions-with kids
    block_definitions-with (Items items) = definitions-with items
    block_definitions-with b = refl

    definitions-with : (bs : Blocks) → definitions (blocks_with e bs) ≡ map (definition_with e) (definitions bs)
    definitions-with Nil = refl
    definitions-with (Cons b bs) =
        ap (λ ds. ds ++ definitions (blocks_with e bs)) (block_definitions-with b)
        ∙ ap (λ ds. map (definition_with e) (block_definitions b) ++ ds) (definitions-with bs)
        ∙ sym (map-append (definition_with e) (block_definitions b) (definitions bs))

  -- ---- footnotes

  mutual
    block_footnotes-with : (b : Block) → block_footnotes (block_with e b) ≡ block_footnotes b
    block_footnotes-with (Holds c kids) = ap (λ labels. labels ++ container_footnotes c) (footnotes-with kids)
    block_footnotes-with (Items items) = footnotes-with items
    block_footnotes-with b = refl

    footnotes-with : (bs : Blocks) → footnotes (blocks_with e bs) ≡ footnotes bs
    footnotes-with Nil = refl
    footnotes-with (Cons b bs) =
        ap (λ labels. labels ++ footnotes (blocks_with e bs)) (block_footnotes-with b) ∙ ap (λ labels. block_footnotes b ++ labels) (footnotes-with bs)

pub footnotes_law : FootnotesLaw
footnotes_law e on before text p = ap footnotes (blocks_law e on before text p) ∙ footnotes-with e (blocks on before text)

pub labels_law : LabelsLaw
labels_law e label labels =
    ap (λ normal. place_of normal (map normal_label (map (codes_with e) labels))) (normal_label-with e label)
    ∙ ap (place_of (normal_label label)) (normal_labels-with e labels)

pub definitions_law : DefinitionsLaw
definitions_law e on before text p =
    ap document_definitions (blocks_law e on before text p)
    ∙ ap (map with_spaces) (definitions-with e (blocks on before text))
    ∙ all_spaced-with e (definitions (blocks on before text))
