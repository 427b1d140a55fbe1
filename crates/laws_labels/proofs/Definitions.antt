-- Which definition a label leads to.
use Rattle.std.proofs.Common.{◌≡◌, ℕ, ◌+◌, Bool, true, false, ◌⊎◌, inl, inr, List, [], ◌∷◌, ◌++◌, map, Option, Some, length, refl, sym, ◌∙◌, ap}
use Rattle.std.specs.List.{position_from}
use Rattle.std.specs.Option.{is_some, option_map}
use Rattle.std.specs.Str.{bytes_eq}
use Rattle.std.proofs.lemmas.Bool.{both_ways, cond_both, cond-true}
use Rattle.std.proofs.lemmas.Iterator.Adapters.{position_from-zero}
use Rattle.std.proofs.lemmas.List.{map-append, length-map, get_or_at}
use Rattle.std.proofs.lemmas.Slice.Eq.{bytes_eq-Decides}
use Rattle.definition_inline.specs.Definition.{Definition as LinkDefinition}
use Rattle.definition_inline.specs.Inline.{link_texts}
use Rattle.definition_inline.specs.LabelMatch.{normal_label, first_match}
use Rattle.definition_block.specs.Blocks.{LeafBlock, Definition, Block, Leaf, Holds, Items, Blocks, Nil, Cons}
use Rattle.definition_block.specs.Definitions.{leaf_definitions, block_definitions, definitions}
use Rattle.definition_inline.specs.Targets.{labels_of, no_definition, linked_at, linked_by}
use Rattle.definition_block.specs.Definitions.{document_definitions, with_spaces}
use Rattle.laws_inline.proofs.Matching.{first_label_matches}
use Rattle.laws_quote.proofs.Quotes.{quote_definitions_law}
use Rattle.laws_list.proofs.Items.{list_definitions_law}
use Rattle.laws_labels.specs.Definition.{LeafDefines, BlockDefines, Define, Matches, DefinedLabelLaw, FirstDefinitionLaw, QuotedLabelLaw, ListedLabelLaw}

-- ---- some element of a list

abbrev Some_of : (LinkDefinition → Type 0) → List LinkDefinition → Type 0
Some_of P [] = ⊥
Some_of P (d ∷ ds) = P d ⊎ Some_of P ds

module _ (P : LinkDefinition → Type 0) where
  in_first : (ds others : List LinkDefinition) → Some_of P ds → Some_of P (ds ++ others)
  in_first [] others h = absurd h
  in_first (d ∷ ds) others (inl h) = inl h
  in_first (d ∷ ds) others (inr h) = inr (in_first ds others h)

  in_others : (ds others : List LinkDefinition) → Some_of P others → Some_of P (ds ++ others)
  in_others [] others h = h
  in_others (d ∷ ds) others h = inr (in_others ds others h)

  in_more : (d : LinkDefinition) (ds others : List LinkDefinition) → Some_of P ds ⊎ Some_of P others → Some_of P (d ∷ ds) ⊎ Some_of P others
  in_more d ds others (inl h) = inl (inr h)
  in_more d ds others (inr h) = inr h

  in_either : (ds others : List LinkDefinition) → Some_of P (ds ++ others) → Some_of P ds ⊎ Some_of P others
  in_either [] others h = inr h
  in_either (d ∷ ds) others (inl h) = inl (inl h)
  in_either (d ∷ ds) others (inr h) = in_more d ds others (in_either ds others h)

  -- ---- the definitions of blocks

  define_either : (b : Block) (bs : Blocks) → (Some_of P (block_definitions b) → BlockDefines P b) → (Some_of P (definitions bs) → Define P bs)
      → Some_of P (block_definitions b) ⊎ Some_of P (definitions bs) → Define P (Cons b bs)
  define_either b bs first others (inl h) = inl (first h)
  define_either b bs first others (inr h) = inr (others h)

  leaf_defines : (leaf : LeafBlock) → Some_of P (leaf_definitions leaf) → LeafDefines P leaf
  leaf_defines (Definition ls label destination title) (inl h) = h
  leaf_defines (Definition ls label destination title) (inr h) = absurd h
  leaf_defines leaf h = absurd h

  mutual
    block_defines : (b : Block) → Some_of P (block_definitions b) → BlockDefines P b
    block_defines (Leaf leaf) h = leaf_defines leaf h
    block_defines (Holds c kids) h = define kids h
    block_defines (Items items) h = define items h
    block_defines b h = absurd h

    define : (bs : Blocks) → Some_of P (definitions bs) → Define P bs
    define Nil h = absurd h
    define (Cons b bs) h =
        define_either b bs (λ k. block_defines b k) (λ k. define bs k) (in_either (block_definitions b) (definitions bs) h)

  leaf_defined : (leaf : LeafBlock) → LeafDefines P leaf → Some_of P (leaf_definitions leaf)
  leaf_defined (Definition ls label destination title) h = inl h
  leaf_defined leaf h = absurd h

  mutual
    block_defined : (b : Block) → BlockDefines P b → Some_of P (block_definitions b)
    block_defined (Leaf leaf) h = leaf_defined leaf h
    block_defined (Holds c kids) h = defined kids h
    block_defined (Items items) h = defined items h
    block_defined b h = absurd h

    defined : (bs : Blocks) → Define P bs → Some_of P (definitions bs)
    defined Nil h = absurd h
    defined (Cons b bs) (inl h) = in_first (block_definitions b) (definitions bs) (block_defined b h)
    defined (Cons b bs) (inr h) = in_others (block_definitions b) (definitions bs) (defined bs h)

-- ---- labels

module _ (label : List ℕ) where
  abbrev is_same : List ℕ → Bool
  is_same normal = bytes_eq (normal_label label) normal

  -- the place of the first definition of these that matches, where the first of them has this place
  abbrev place_from : ℕ → List LinkDefinition → Option ℕ
  place_from i ds = position_from is_same i (map normal_label (labels_of (map with_spaces ds)))

  matches_in : (i : ℕ) (ds : List LinkDefinition) → is_some (place_from i ds) ≡ true → Some_of (Matches label) ds
  matches_in i [] h = absurd (both_ways false refl h)
  matches_in i (d ∷ ds) found =
      let normal = normal_label (with_spaces d).label in
      cond_both (is_same normal) (Some i) (place_from (i + 1) ds) (λ place. is_some place ≡ true → Some_of (Matches label) (d ∷ ds))
      (λ e h. inl ((bytes_eq-Decides (normal_label label) normal).0 e)) (λ e h. inr (matches_in (i + 1) ds h)) found

  is_found : (i : ℕ) (ds : List LinkDefinition) → Some_of (Matches label) ds → is_some (place_from i ds) ≡ true
  is_found i [] h = absurd h
  is_found i (d ∷ ds) (inl e) =
      let normal = normal_label (with_spaces d).label in
      ap is_some (cond-true (is_same normal) (Some i) (place_from (i + 1) ds) ((bytes_eq-Decides (normal_label label) normal).1 e))
  is_found i (d ∷ ds) (inr h) =
      cond_both (is_same (normal_label (with_spaces d).label)) (Some i) (place_from (i + 1) ds) (λ place. is_some place ≡ true)
      (λ e. refl) (λ e. is_found (i + 1) ds h)

  place-of : (bs : Blocks) → first_match label (labels_of (document_definitions bs)) ≡ place_from 0 (definitions bs)
  place-of bs = position_from-zero is_same (map normal_label (labels_of (document_definitions bs)))

pub defined_label_law : DefinedLabelLaw
defined_label_law bs label = (
  λ h. define (Matches label) bs (matches_in label 0 (definitions bs) (sym (ap is_some (place-of label bs)) ∙ h)),
  λ h. ap is_some (place-of label bs) ∙ is_found label 0 (definitions bs) (defined (Matches label) bs h),
)

-- ---- where a label leads

abbrev label_of : LinkDefinition → List ℕ
label_of d = d.label

leads : (label : List ℕ) (ds earlier later : List LinkDefinition) (d : LinkDefinition) → ds ≡ earlier ++ d ∷ later
    → first_match label (labels_of (earlier ++ d ∷ later)) ≡ Some (length earlier) → linked_by ds label ≡ Some (link_texts d.destination d.title)
leads label ds earlier later d same found =
    ap (λ all. linked_by all label) same
    ∙ ap (option_map (linked_at (earlier ++ d ∷ later))) found
    ∙ ap (λ (at : LinkDefinition). Some (link_texts at.destination at.title)) (get_or_at earlier d later no_definition (length earlier) refl)

pub first_definition_law : FirstDefinitionLaw
first_definition_law bs label earlier later d same others is =
    leads label (document_definitions bs) earlier later d same
    (ap (first_match label) (map-append label_of earlier (d ∷ later))
    ∙ first_label_matches label d.label (labels_of earlier) (labels_of later) others is
    ∙ ap Some (length-map earlier label_of))

pub quoted_label_law : QuotedLabelLaw
quoted_label_law on before text label quotes off no_tab =
    ap (λ ds. linked_by (map with_spaces ds) label) (quote_definitions_law on before text quotes off no_tab)

pub listed_label_law : ListedLabelLaw
listed_label_law on before text label items off dark no_tab =
    ap (λ ds. linked_by (map with_spaces ds) label) (list_definitions_law on before text items off dark no_tab)
