-- Blocks as their rows have them are put into the same lists.
use Rattle.std.proofs.Common.{◌≡◌, ℕ, Bool, true, false, ◌==◌, refl, sym, ap, ap₂, ◌∙◌}
use Rattle.parse_open.proofs.Prelude.{after_endings, bare_block, bare_blocks, bare_container, before_list, Blank, Block, Blocks, Ending, endings_of, Footnote}
use Rattle.parse_open.proofs.Prelude.{group_items, grouped_block, Holds, if◌then◌else◌, Item, item_marker, Items, join, Leaf, list_items, list_marker}
use Rattle.parse_open.proofs.Prelude.{put_before, Quote, rest_of}
use Rattle.definition_block.specs.Tree.{Nil, Cons, one}

pub bare_join : (xs ys : Blocks) → bare_blocks (join xs ys) ≡ join (bare_blocks xs) (bare_blocks ys)
bare_join Nil ys = refl
bare_join (Cons b xs) ys = ap (Cons (bare_block b)) (bare_join xs ys)

bare_endings : (gs : Blocks) → bare_blocks (endings_of gs) ≡ endings_of (bare_blocks gs)
bare_endings Nil = refl
bare_endings (Cons (Leaf leaf) gs) = refl
bare_endings (Cons (Holds c kids) gs) = refl
bare_endings (Cons (Items items) gs) = refl
bare_endings (Cons (Ending e) gs) = ap (Cons (Ending e)) (bare_endings gs)
bare_endings (Cons (Blank e) gs) = ap (Cons (Blank e)) (bare_endings gs)

bare_after : (gs : Blocks) → bare_blocks (after_endings gs) ≡ after_endings (bare_blocks gs)
bare_after Nil = refl
bare_after (Cons (Leaf leaf) gs) = refl
bare_after (Cons (Holds c kids) gs) = refl
bare_after (Cons (Items items) gs) = refl
bare_after (Cons (Ending e) gs) = bare_after gs
bare_after (Cons (Blank e) gs) = bare_after gs

bare_items : (gs : Blocks) → bare_blocks (list_items gs) ≡ list_items (bare_blocks gs)
bare_items Nil = refl
bare_items (Cons (Leaf leaf) gs) = refl
bare_items (Cons (Holds c kids) gs) = refl
bare_items (Cons (Items items) gs) = refl
bare_items (Cons (Ending e) gs) = refl
bare_items (Cons (Blank e) gs) = refl

bare_rest : (gs : Blocks) → bare_blocks (rest_of gs) ≡ rest_of (bare_blocks gs)
bare_rest Nil = refl
bare_rest (Cons b gs) = refl

own_marker : (b : Block) → item_marker (bare_block b) ≡ item_marker b
own_marker (Leaf leaf) = refl
own_marker (Holds Quote kids) = refl
own_marker (Holds (Item item) kids) = refl
own_marker (Holds (Footnote label) kids) = refl
own_marker (Items items) = refl
own_marker (Ending e) = refl
own_marker (Blank e) = refl

first_marker : (gs : Blocks) → list_marker (bare_blocks gs) ≡ list_marker gs
first_marker Nil = refl
first_marker (Cons (Leaf leaf) gs) = refl
first_marker (Cons (Holds c kids) gs) = refl
first_marker (Cons (Items Nil) gs) = refl
first_marker (Cons (Items (Cons item items)) gs) = own_marker item
first_marker (Cons (Ending e) gs) = refl
first_marker (Cons (Blank e) gs) = refl

pub bare_marker : (gs : Blocks) → list_marker (after_endings (bare_blocks gs)) ≡ list_marker (after_endings gs)
bare_marker gs = ap list_marker (sym (bare_after gs)) ∙ first_marker (after_endings gs)

-- ---- an item before a list

-- blocks by a choice
chosen : (t : Bool) (xs ys : Blocks) → bare_blocks (if t then xs else ys) ≡ (if t then bare_blocks xs else bare_blocks ys)
chosen true xs ys = refl
chosen false xs ys = refl

joined : (item : Block) (gs : Blocks)
    → bare_blocks (Cons (Items (Cons item (join (endings_of gs) (list_items (after_endings gs))))) (rest_of (after_endings gs)))
    ≡ Cons (Items (Cons (bare_block item) (join (endings_of (bare_blocks gs)) (list_items (after_endings (bare_blocks gs))))))
    (rest_of (after_endings (bare_blocks gs)))
joined item gs =
    let items = bare_items (after_endings gs) ∙ ap list_items (bare_after gs) in
    let rest = bare_rest (after_endings gs) ∙ ap rest_of (bare_after gs) in
    ap₂ (λ inside others. Cons (Items (Cons (bare_block item) inside)) others)
    (bare_join (endings_of gs) (list_items (after_endings gs)) ∙ ap₂ join (bare_endings gs) items) rest

bare_list : (marker : ℕ) (item : Block) (gs : Blocks) → bare_blocks (before_list marker item gs) ≡ before_list marker (bare_block item) (bare_blocks gs)
bare_list marker item gs =
    let bare = bare_blocks gs in
    let b = bare_block item in
    let listed = Cons (Items (Cons item (join (endings_of gs) (list_items (after_endings gs))))) (rest_of (after_endings gs)) in
    let alone = Cons (Items (one item)) gs in
    let among = Cons (Items (Cons b (join (endings_of bare) (list_items (after_endings bare))))) (rest_of (after_endings bare)) in
    chosen (list_marker (after_endings gs) == marker) listed alone
    ∙ ap₂ (λ (t : Bool) xs. if t then xs else bare_blocks alone) (ap (λ (m : ℕ). m == marker) (sym (bare_marker gs))) (joined item gs)

bare_before : (b : Block) (gs : Blocks) → bare_blocks (put_before b gs) ≡ put_before (bare_block b) (bare_blocks gs)
bare_before b gs =
    chosen (item_marker b == 0) (Cons b gs) (before_list (item_marker b) b gs)
    ∙ ap (λ xs. if item_marker b == 0 then Cons (bare_block b) (bare_blocks gs) else xs) (bare_list (item_marker b) b gs)
    ∙ ap (λ (m : ℕ). if m == 0 then Cons (bare_block b) (bare_blocks gs) else before_list m (bare_block b) (bare_blocks gs)) (sym (own_marker b))

-- ---- all blocks

mutual
  bare_grouped : (b : Block) → bare_block (grouped_block b) ≡ grouped_block (bare_block b)
  bare_grouped (Leaf leaf) = refl
  bare_grouped (Holds c kids) = ap (Holds (bare_container c)) (bare_groups kids)
  bare_grouped (Items items) = refl
  bare_grouped (Ending e) = refl
  bare_grouped (Blank e) = refl

  pub bare_groups : (bs : Blocks) → bare_blocks (group_items bs) ≡ group_items (bare_blocks bs)
  bare_groups Nil = refl
  bare_groups (Cons b bs) = bare_before (grouped_block b) (group_items bs) ∙ ap₂ put_before (bare_grouped b) (bare_groups bs)
