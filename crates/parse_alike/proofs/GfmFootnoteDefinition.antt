-- The labels of the footnotes of a page are those of the footnotes among its blocks.
use Rattle.std.proofs.Common.{◌≡◌, ◌⊎◌, inl, inr, ℕ, Bool, true, false, eqb, ◌&&◌, not, List, [], ◌∷◌, ◌++◌, None, Some, map, refl, sym, ap, ◌∙◌}
use Rattle.parse_alike.proofs.Prelude.{after_leaf, append-nil, AreAlikeAfterFront, AreBlocksAlike, AreContainersAlike, AreFootnotesAlike, Code, cond_both}
use Rattle.parse_alike.proofs.Prelude.{in_container, IsBlockAlike, map-append, Meaning, next_standing, normal_label, read, read_block, read_blocks}
use Rattle.parse_alike.proofs.Prelude.{read_container, Reading, Standing, standing_in, TextTables, true≢false, without_ending, without_mark}
use Rattle.std.proofs.lemmas.Bool.{eqb-true}
use Rattle.std.proofs.lemmas.List.{append_assoc}
use Rattle.markdown_options.specs.declared.configuration.ParseOptions.{ParseOptions}
use Rattle.definition_text.specs.Lines.{kind_before_text}
use Rattle.definition_block.specs.Blocks as tree
use Rattle.definition_block.specs.Container.{Container, Quote, Item, Footnote}
use Rattle.definition_block.specs.Definitions.{container_footnotes, block_footnotes, footnotes, document_targets}
use Rattle.definition_block.specs.Lists.{endings_of, after_endings, item_marker, list_marker, list_items, rest_of, before_list, put_before, grouped_block}
use Rattle.definition_block.specs.Lists.{group_items}
use Rattle.definition_block.specs.Tree.{blocks}
use Rattle.definition_page.specs.Page as page
use Rattle.definition_page.specs.Read.{reading, on_page}
use Rattle.event_meaning.specs.Spelled as events
use Rattle.parse_alike.specs.GfmFootnoteDefinition.{FootnotesAreThoseOfBlocks}
use Rattle.parse_alike.proofs.Said.{both}

-- ---- items put into lists

join_footnotes : (bs cs : tree.Blocks) → footnotes (tree.join bs cs) ≡ footnotes bs ++ footnotes cs
join_footnotes tree.Nil cs = refl
join_footnotes (tree.Cons b bs) cs =
    ap (λ labels. block_footnotes b ++ labels) (join_footnotes bs cs) ∙ sym (append_assoc (block_footnotes b) (footnotes bs) (footnotes cs))

endings_footnotes : (bs : tree.Blocks) → footnotes (endings_of bs) ≡ []
endings_footnotes tree.Nil = refl
endings_footnotes (tree.Cons (tree.Ending ending) bs) = endings_footnotes bs
endings_footnotes (tree.Cons (tree.Blank ending) bs) = endings_footnotes bs
endings_footnotes (tree.Cons b bs) = refl

after_footnotes : (bs : tree.Blocks) → footnotes (after_endings bs) ≡ footnotes bs
after_footnotes tree.Nil = refl
after_footnotes (tree.Cons (tree.Ending ending) bs) = after_footnotes bs
after_footnotes (tree.Cons (tree.Blank ending) bs) = after_footnotes bs
after_footnotes (tree.Cons b bs) = refl

-- no list has the marker 0
no_marker : {A : Type 0} (marker : ℕ) → eqb 0 marker ≡ true → eqb marker 0 ≡ false → A
no_marker marker h k = absurd (true≢false (sym (ap (λ n. eqb n 0) (sym (eqb-true 0 marker h))) ∙ k))

list_footnotes : (bs : tree.Blocks) (marker : ℕ) → eqb (list_marker bs) marker ≡ true → eqb marker 0 ≡ false
    → footnotes (list_items bs) ++ footnotes (rest_of bs) ≡ footnotes bs
list_footnotes tree.Nil marker h k = refl
list_footnotes (tree.Cons (tree.Items items) bs) marker h k = refl
list_footnotes (tree.Cons b bs) marker h k = no_marker marker h k

before_footnotes : (marker : ℕ) (item : tree.Block) (bs : tree.Blocks) → eqb marker 0 ≡ false
    → footnotes (before_list marker item bs) ≡ block_footnotes item ++ footnotes bs
before_footnotes marker item bs k =
    let others = after_endings bs in
    let ends = endings_of bs in
    cond_both (eqb (list_marker others) marker) (tree.Cons (tree.Items (tree.Cons item (tree.join ends (list_items others)))) (rest_of others))
    (tree.Cons (tree.Items (tree.one item)) bs) (λ all. footnotes all ≡ block_footnotes item ++ footnotes bs)
    (λ h.
    append_assoc (block_footnotes item) (footnotes (tree.join ends (list_items others))) (footnotes (rest_of others))
    ∙ ap (λ labels. block_footnotes item ++ (labels ++ footnotes (rest_of others)))
    (join_footnotes ends (list_items others) ∙ ap (λ labels. labels ++ footnotes (list_items others)) (endings_footnotes bs))
    ∙ ap (λ labels. block_footnotes item ++ labels) (list_footnotes others marker h k ∙ after_footnotes bs))
    (λ h. ap (λ labels. labels ++ footnotes bs) (append-nil (block_footnotes item)))

put_footnotes : (b : tree.Block) (bs : tree.Blocks) → footnotes (put_before b bs) ≡ block_footnotes b ++ footnotes bs
put_footnotes b bs =
    cond_both (eqb (item_marker b) 0) (tree.Cons b bs) (before_list (item_marker b) b bs) (λ all. footnotes all ≡ block_footnotes b ++ footnotes bs)
    (λ h. refl) (λ h. before_footnotes (item_marker b) b bs h)

mutual
  grouped_block_footnotes : (b : tree.Block) → block_footnotes (grouped_block b) ≡ block_footnotes b
  grouped_block_footnotes (tree.Holds c kids) = ap (λ labels. labels ++ container_footnotes c) (grouped_footnotes kids)
  grouped_block_footnotes b = refl

  grouped_footnotes : (bs : tree.Blocks) → footnotes (group_items bs) ≡ footnotes bs
  grouped_footnotes tree.Nil = refl
  grouped_footnotes (tree.Cons b bs) =
      put_footnotes (grouped_block b) (group_items bs)
      ∙ both (block_footnotes (grouped_block b)) (footnotes (group_items bs)) (block_footnotes b) (footnotes bs)
      (grouped_block_footnotes b) (grouped_footnotes bs)

-- ---- blocks as they are read

container_labels : (c : Container) → events.own_label (read_container c) ≡ container_footnotes c
container_labels Quote = refl
container_labels (Item item) = refl
container_labels (Footnote label) = refl

without_ending_footnotes : (bs : page.Blocks) → events.footnotes (without_ending bs) ≡ events.footnotes bs
without_ending_footnotes (page.Cons (page.Ending ending) bs) = refl
without_ending_footnotes bs = refl

after_leaf_footnotes : (top : Bool) (leaf : tree.LeafBlock) (bs : page.Blocks) → events.footnotes (after_leaf top leaf bs) ≡ events.footnotes bs
after_leaf_footnotes top (tree.FencedCode info is_closed ls) bs =
    cond_both (top && not is_closed) (without_ending bs) bs (λ all. events.footnotes all ≡ events.footnotes bs) (λ h. without_ending_footnotes bs) (λ h. refl)
after_leaf_footnotes top leaf bs = refl

module _ (r : Reading) where
  mutual
    read_block_footnotes : (standing : Standing) (b : tree.Block) (others : page.Blocks)
        → events.footnotes (read_block r standing b others) ≡ block_footnotes b ++ events.footnotes others
    read_block_footnotes standing (tree.Leaf leaf) others = after_leaf_footnotes standing.top leaf others
    read_block_footnotes standing (tree.Holds c kids) others =
        let held = read_blocks r (standing_in c) kids in
        ap (λ labels. labels ++ events.footnotes others)
        (both (events.footnotes held) (events.own_label (read_container c)) (footnotes kids) (container_footnotes c)
        (read_footnotes (standing_in c) kids) (container_labels c))
    read_block_footnotes standing (tree.Items items) others = ap (λ labels. labels ++ events.footnotes others) (read_footnotes in_container items)
    read_block_footnotes standing (tree.Ending None) others = refl
    read_block_footnotes standing (tree.Ending (Some ending)) others = refl
    read_block_footnotes standing (tree.Blank None) others = refl
    read_block_footnotes standing (tree.Blank (Some ending)) others = refl

    read_footnotes : (standing : Standing) (bs : tree.Blocks) → events.footnotes (read_blocks r standing bs) ≡ footnotes bs
    read_footnotes standing tree.Nil = refl
    read_footnotes standing (tree.Cons b bs) =
        read_block_footnotes standing b (read_blocks r (next_standing standing b) bs)
        ∙ ap (λ labels. block_footnotes b ++ labels) (read_footnotes (next_standing standing b) bs)

pub footnotes_read : (tables : TextTables) (options : ParseOptions) (text : List ℕ)
    → events.footnotes (read tables options text).blocks ≡ (read tables options text).footnotes
footnotes_read tables options text =
    let bs = blocks options.constructs (kind_before_text text) (without_mark text) in
    read_footnotes (reading tables options (document_targets bs)) on_page (group_items bs) ∙ grouped_footnotes bs

-- ---- blocks that are alike

abbrev labels_of : List (List Code) → List (List ℕ)
labels_of labels = map normal_label labels

own_labels : (c d : page.PageContainer) → AreContainersAlike c d → labels_of (events.own_label c) ≡ labels_of (events.own_label d)
own_labels page.Quote page.Quote p = refl
own_labels page.Item page.Item p = refl
own_labels (page.Footnote label) (page.Footnote label') p = ap (λ normal. normal ∷ []) p
own_labels c d p = absurd p

both_labels : (xs ys xs' ys' : List (List Code)) → labels_of xs ≡ labels_of xs' → labels_of ys ≡ labels_of ys' → labels_of (xs ++ ys) ≡ labels_of (xs' ++ ys')
both_labels xs ys xs' ys' p q =
    map-append normal_label xs ys ∙ both (labels_of xs) (labels_of ys) (labels_of xs') (labels_of ys') p q ∙ sym (map-append normal_label xs' ys')

module _ (m m' : Meaning) where
  mutual
    block_labels : (b c : page.Block) → IsBlockAlike m m' b c → labels_of (events.block_footnotes b) ≡ labels_of (events.block_footnotes c)
    block_labels (page.Leaf l) (page.Leaf l') p = refl
    block_labels (page.Holds c kids) (page.Holds d kids') p =
        both_labels (events.footnotes kids) (events.own_label c) (events.footnotes kids') (events.own_label d)
        (blocks_labels kids kids' p.1) (own_labels c d p.0)
    block_labels (page.ItemList number loose items) (page.ItemList number' loose' items') p = blocks_labels items items' p.2
    block_labels (page.Ending ending) (page.Ending ending') p = refl
    block_labels (page.Blank ending) (page.Blank ending') p = refl
    block_labels b c p = absurd p

    blocks_labels : (bs cs : page.Blocks) → AreBlocksAlike m m' bs cs → AreFootnotesAlike (events.footnotes bs) (events.footnotes cs)
    blocks_labels page.Nil page.Nil p = refl
    blocks_labels page.Nil (page.Cons c cs) p = absurd p
    blocks_labels (page.Cons b bs) page.Nil p = absurd p
    blocks_labels (page.Cons b bs) (page.Cons c cs) p =
        both_labels (events.block_footnotes b) (events.footnotes bs) (events.block_footnotes c) (events.footnotes cs)
        (block_labels b c p.0) (blocks_labels bs cs p.1)

  after_front_labels : (bs cs : page.Blocks) → AreAlikeAfterFront m m' bs cs → AreFootnotesAlike (events.footnotes bs) (events.footnotes cs)
  after_front_labels bs (page.Cons (page.Leaf page.Definition) cs) p =
      blocks_labels bs (without_ending cs) p ∙ ap labels_of (without_ending_footnotes cs)
  after_front_labels bs cs p = absurd p

  pub front_footnotes : (bs cs : page.Blocks) → AreBlocksAlike m m' bs cs ⊎ AreAlikeAfterFront m m' bs cs
      → AreFootnotesAlike (events.footnotes bs) (events.footnotes cs)
  front_footnotes bs cs (inl p) = blocks_labels bs cs p
  front_footnotes bs cs (inr p) = after_front_labels bs cs p

pub footnotes_are_those_of_blocks : FootnotesAreThoseOfBlocks
footnotes_are_those_of_blocks = record { of_text = footnotes_read; of_alike = blocks_labels }
