-- Blocks as their rows have them, put into lists, are read as the blocks are.
use Rattle.std.proofs.Common.{◌≡◌, ℕ, Bool, true, false, not, ◌==◌, ◌&&◌, ◌||◌, leb, [], ◌++◌, map, refl, sym, ap, ap₂, ◌∙◌, append_assoc, None, Some, suc}
use Rattle.parse_open.proofs.Prelude.{after_endings, after_leaf, append-nil, bare_block, bare_blocks, bare_container, before_list, Blank, Block}
use Rattle.parse_open.proofs.Prelude.{block_definitions, Blocks, Break, Container, definitions, Ending, endings_at_front, endings_of, ends_blank, eqb-true}
use Rattle.parse_open.proofs.Prelude.{FencedCode, Footnote, group_items, grouped_block, has_gap, has_gap_inside, Heading, Holds, Html, if◌then◌else◌}
use Rattle.parse_open.proofs.Prelude.{in_container, IndentedCode, is_blank_ending, is_ending, is_loose, is_some_block, Item, item_marker, Items, join, Leaf}
use Rattle.parse_open.proofs.Prelude.{leaf_definitions, LeafBlock, list_items, list_marker, list_number, map-append, next_standing, on_page, Paragraph}
use Rattle.parse_open.proofs.Prelude.{put_before, Quote, read_blocks, read_container, read_leaf, Reading, rest_of, spaced_leaf, Standing, standing_in, Table}
use Rattle.std.proofs.lemmas.Bool.{cond_both, eqb-false}
use Rattle.definition_block.specs.Definitions.{with_spaces}
use Rattle.definition_block.specs.Tree.{Definition}
use Rattle.definition_block.specs.Tree.{Nil, Cons, one}
use Rattle.definition_page.specs.Page as page
use Rattle.definition_page.specs.Read.{read_block}
use Rattle.parse_open.specs.BlockLaws.{BareBlocksReadTheSame}
use Rattle.parse_open.proofs.Bare.{bare_groups}

-- ---- looseness

ending_same : (b : Block) → is_ending (bare_block b) ≡ is_ending b
ending_same (Leaf leaf) = refl
ending_same (Holds c kids) = refl
ending_same (Items items) = refl
ending_same (Ending e) = refl
ending_same (Blank e) = refl

front_same : (bs : Blocks) → endings_at_front (bare_blocks bs) ≡ endings_at_front bs
front_same Nil = refl
front_same (Cons b bs) = ap₂ (λ (t : Bool) (n : ℕ). if t then suc n else 0) (ending_same b) (front_same bs)

some_same : (bs : Blocks) → is_some_block (bare_blocks bs) ≡ is_some_block bs
some_same Nil = refl
some_same (Cons b bs) = ap₂ (λ (t s : Bool). not t || s) (ending_same b) (some_same bs)

gap_same : (bs : Blocks) → has_gap (bare_blocks bs) ≡ has_gap bs
gap_same Nil = refl
gap_same (Cons b bs) =
    ap₂ (λ (t : Bool) (n : ℕ). (not t && leb 2 n && is_some_block (bare_blocks bs)) || has_gap (bare_blocks bs)) (ending_same b) (front_same bs)
    ∙ ap₂ (λ (s g : Bool). (not (is_ending b) && leb 2 (endings_at_front bs) && s) || g) (some_same bs) (gap_same bs)

inside_same : (bs : Blocks) → has_gap_inside (bare_blocks bs) ≡ has_gap_inside bs
inside_same Nil = refl
inside_same (Cons (Leaf leaf) bs) = inside_same bs
inside_same (Cons (Holds c kids) bs) = ap₂ (λ (g h : Bool). g || h) (gap_same kids) (inside_same bs)
inside_same (Cons (Items items) bs) = inside_same bs
inside_same (Cons (Ending e) bs) = inside_same bs
inside_same (Cons (Blank e) bs) = inside_same bs

loose_same : (bs : Blocks) → is_loose (bare_blocks bs) ≡ is_loose bs
loose_same bs = ap₂ (λ (g h : Bool). g || h) (gap_same bs) (inside_same bs)

-- ---- reading

module _ (r : Reading) where
  leaf_same : (standing : Standing) (leaf : LeafBlock) → read_leaf r standing (spaced_leaf leaf) ≡ read_leaf r standing leaf
  leaf_same standing (Paragraph ls) = refl
  leaf_same standing (Heading rank ls) = refl
  leaf_same standing Break = refl
  leaf_same standing (IndentedCode ls) = refl
  leaf_same standing (FencedCode info is_closed ls) = refl
  leaf_same standing (Html ls) = refl
  leaf_same standing (Table ls) = refl
  leaf_same standing (Definition ls label destination title) = refl

  after_same : (top : Bool) (leaf : LeafBlock) (others : page.Blocks) → after_leaf top (spaced_leaf leaf) others ≡ after_leaf top leaf others
  after_same top (Paragraph ls) others = refl
  after_same top (Heading rank ls) others = refl
  after_same top Break others = refl
  after_same top (IndentedCode ls) others = refl
  after_same top (FencedCode info is_closed ls) others = refl
  after_same top (Html ls) others = refl
  after_same top (Table ls) others = refl
  after_same top (Definition ls label destination title) others = refl

  container_same : (c : Container) (inner : page.Blocks) → page.Holds (read_container (bare_container c)) inner ≡ page.Holds (read_container c) inner
  container_same Quote inner = refl
  container_same (Item item) inner = refl
  container_same (Footnote label) inner = refl

  standing_same : (c : Container) → standing_in (bare_container c) ≡ standing_in c
  standing_same Quote = refl
  standing_same (Item item) = refl
  standing_same (Footnote label) = refl

  number_same : (items : Blocks) → list_number (bare_blocks items) ≡ list_number items
  number_same Nil = refl
  number_same (Cons (Leaf leaf) bs) = refl
  number_same (Cons (Holds Quote kids) bs) = refl
  number_same (Cons (Holds (Item item) kids) bs) = refl
  number_same (Cons (Holds (Footnote label) kids) bs) = refl
  number_same (Cons (Items items) bs) = refl
  number_same (Cons (Ending e) bs) = refl
  number_same (Cons (Blank e) bs) = refl

  mutual
    block_read : (standing : Standing) (b : Block) (others : page.Blocks) → read_block r standing (bare_block b) others ≡ read_block r standing b others
    block_read standing (Leaf leaf) others = ap₂ (λ l more. page.Cons (page.Leaf l) more) (leaf_same standing leaf) (after_same standing.top leaf others)
    block_read standing (Holds c kids) others =
        ap (λ s. page.Cons (page.Holds (read_container (bare_container c)) (read_blocks r s (bare_blocks kids))) others) (standing_same c)
        ∙ ap (λ inner. page.Cons (page.Holds (read_container (bare_container c)) inner) others) (blocks_read (standing_in c) kids)
        ∙ ap (λ b. page.Cons b others) (container_same c (read_blocks r (standing_in c) kids))
    block_read standing (Items items) others =
        ap₂ (λ number loose. page.Cons (page.ItemList number loose (read_blocks r in_container (bare_blocks items))) others)
        (number_same items) (loose_same items)
        ∙ ap (λ inner. page.Cons (page.ItemList (list_number items) (is_loose items) inner) others) (blocks_read in_container items)
    block_read standing (Ending e) others = refl
    block_read standing (Blank e) others = refl

    blocks_read : (standing : Standing) (bs : Blocks) → read_blocks r standing (bare_blocks bs) ≡ read_blocks r standing bs
    blocks_read standing Nil = refl
    blocks_read standing (Cons b bs) =
        block_read standing b (read_blocks r (next_standing standing (bare_block b)) (bare_blocks bs))
        ∙ ap (read_block r standing b)
        (ap (λ (t : Bool). read_blocks r (record { top = standing.top; first = standing.first && t }) (bare_blocks bs)) (ending_same b)
        ∙ blocks_read (next_standing standing b) bs)

-- ---- definitions

leaf_defined : (leaf : LeafBlock) → leaf_definitions (spaced_leaf leaf) ≡ map with_spaces (leaf_definitions leaf)
leaf_defined (Paragraph ls) = refl
leaf_defined (Heading rank ls) = refl
leaf_defined Break = refl
leaf_defined (IndentedCode ls) = refl
leaf_defined (FencedCode info is_closed ls) = refl
leaf_defined (Html ls) = refl
leaf_defined (Table ls) = refl
leaf_defined (Definition ls label destination title) = refl

mutual
  block_defined : (b : Block) → block_definitions (bare_block b) ≡ map with_spaces (block_definitions b)
  block_defined (Leaf leaf) = leaf_defined leaf
  block_defined (Holds c kids) = bare_defined kids
  block_defined (Items items) = bare_defined items
  block_defined (Ending e) = refl
  block_defined (Blank e) = refl

  bare_defined : (bs : Blocks) → definitions (bare_blocks bs) ≡ map with_spaces (definitions bs)
  bare_defined Nil = refl
  bare_defined (Cons b bs) = ap₂ ◌++◌ (block_defined b) (bare_defined bs) ∙ sym (map-append with_spaces (block_definitions b) (definitions bs))

joined_defined : (xs ys : Blocks) → definitions (join xs ys) ≡ definitions xs ++ definitions ys
joined_defined Nil ys = refl
joined_defined (Cons b xs) ys =
    ap (λ ds. block_definitions b ++ ds) (joined_defined xs ys) ∙ sym (append_assoc (block_definitions b) (definitions xs) (definitions ys))

-- endings define nothing
endings_defined : (gs : Blocks) → definitions (endings_of gs) ≡ []
endings_defined Nil = refl
endings_defined (Cons (Leaf leaf) gs) = refl
endings_defined (Cons (Holds c kids) gs) = refl
endings_defined (Cons (Items items) gs) = refl
endings_defined (Cons (Ending e) gs) = endings_defined gs
endings_defined (Cons (Blank e) gs) = endings_defined gs

-- ---- a list after endings

-- what comes first after endings is a list, or has no marker
pub record ListedSame (gs : Blocks) : Type 0 where
  pub defined : definitions (list_items (after_endings gs)) ++ definitions (rest_of (after_endings gs)) ≡ definitions gs
  pub blank : (before : Bool) → ends_blank false (rest_of (after_endings gs)) ≡ ends_blank before gs

listed_same : (gs : Blocks) → (list_marker (after_endings gs) ≡ 0 → ⊥) → ListedSame gs
listed_same Nil h = absurd (h refl)
listed_same (Cons (Leaf leaf) gs) h = absurd (h refl)
listed_same (Cons (Holds c kids) gs) h = absurd (h refl)
listed_same (Cons (Items items) gs) h = record { defined = refl; blank = λ before. refl }
listed_same (Cons (Ending e) gs) h = let f = listed_same gs h in record { defined = f.defined; blank = λ before. f.blank (is_blank_ending (Ending e)) }
listed_same (Cons (Blank e) gs) h = let f = listed_same gs h in record { defined = f.defined; blank = λ before. f.blank (is_blank_ending (Blank e)) }

-- ---- an item before others

no_blank : (b : Block) → (item_marker b ≡ 0 → ⊥) → is_blank_ending b ≡ false
no_blank (Leaf leaf) h = refl
no_blank (Holds c kids) h = refl
no_blank (Items items) h = refl
no_blank (Ending e) h = refl
no_blank (Blank e) h = absurd (h refl)

-- an item, by whether a list of its kind comes first
module _ (b : Block) (gs : Blocks) (some : item_marker b ≡ 0 → ⊥) where
  next_some : (list_marker (after_endings gs) == item_marker b) ≡ true → list_marker (after_endings gs) ≡ 0 → ⊥
  next_some is none = some (sym (eqb-true (list_marker (after_endings gs)) (item_marker b) is) ∙ none)

  list_defined : definitions (before_list (item_marker b) b gs) ≡ block_definitions b ++ definitions gs
  list_defined =
      let inside = join (endings_of gs) (list_items (after_endings gs)) in
      let rest = rest_of (after_endings gs) in
      cond_both (list_marker (after_endings gs) == item_marker b) (Cons (Items (Cons b inside)) rest) (Cons (Items (one b)) gs)
      (λ xs. definitions xs ≡ block_definitions b ++ definitions gs)
      (λ is. append_assoc (block_definitions b) (definitions inside) (definitions rest)
      ∙ ap (λ ds. block_definitions b ++ (ds ++ definitions rest)) (joined_defined (endings_of gs) (list_items (after_endings gs))
      ∙ ap (λ ds. ds ++ definitions (list_items (after_endings gs))) (endings_defined gs))
      ∙ ap (λ ds. block_definitions b ++ ds) (listed_same gs (next_some is)).defined)
      (λ _. ap (λ ds. ds ++ definitions gs) (append-nil (block_definitions b)))

  list_blank : (before : Bool) → ends_blank before (before_list (item_marker b) b gs) ≡ ends_blank (is_blank_ending b) gs
  list_blank before =
      cond_both (list_marker (after_endings gs) == item_marker b)
      (Cons (Items (Cons b (join (endings_of gs) (list_items (after_endings gs))))) (rest_of (after_endings gs))) (Cons (Items (one b)) gs)
      (λ xs. ends_blank before xs ≡ ends_blank (is_blank_ending b) gs)
      (λ is. (listed_same gs (next_some is)).blank (is_blank_ending b))
      (λ _. ap (λ t. ends_blank t gs) (sym (no_blank b some)))

put_defined : (b : Block) (gs : Blocks) → definitions (put_before b gs) ≡ block_definitions b ++ definitions gs
put_defined b gs =
    cond_both (item_marker b == 0) (Cons b gs) (before_list (item_marker b) b gs) (λ xs. definitions xs ≡ block_definitions b ++ definitions gs)
    (λ _. refl) (λ e. list_defined b gs (eqb-false (item_marker b) 0 e))

put_blank : (b : Block) (gs : Blocks) (before : Bool) → ends_blank before (put_before b gs) ≡ ends_blank (is_blank_ending b) gs
put_blank b gs before =
    cond_both (item_marker b == 0) (Cons b gs) (before_list (item_marker b) b gs) (λ xs. ends_blank before xs ≡ ends_blank (is_blank_ending b) gs)
    (λ _. refl) (λ e. list_blank b gs (eqb-false (item_marker b) 0 e) before)

-- ---- all blocks

mutual
  own_defined : (b : Block) → block_definitions (grouped_block b) ≡ block_definitions b
  own_defined (Leaf leaf) = refl
  own_defined (Holds c kids) = grouped_defined kids
  own_defined (Items items) = refl
  own_defined (Ending e) = refl
  own_defined (Blank e) = refl

  grouped_defined : (bs : Blocks) → definitions (group_items bs) ≡ definitions bs
  grouped_defined Nil = refl
  grouped_defined (Cons b bs) = put_defined (grouped_block b) (group_items bs) ∙ ap₂ ◌++◌ (own_defined b) (grouped_defined bs)

own_blank : (b : Block) → is_blank_ending (grouped_block b) ≡ is_blank_ending b
own_blank (Leaf leaf) = refl
own_blank (Holds c kids) = refl
own_blank (Items items) = refl
own_blank (Ending e) = refl
own_blank (Blank e) = refl

grouped_blank : (before : Bool) (bs : Blocks) → ends_blank before (group_items bs) ≡ ends_blank before bs
grouped_blank before Nil = refl
grouped_blank before (Cons b bs) =
    put_blank (grouped_block b) (group_items bs) before
    ∙ grouped_blank (is_blank_ending (grouped_block b)) bs
    ∙ ap (λ t. ends_blank t bs) (own_blank b)

bare_own : (b : Block) → is_blank_ending (bare_block b) ≡ is_blank_ending b
bare_own (Leaf leaf) = refl
bare_own (Holds c kids) = refl
bare_own (Items items) = refl
bare_own (Ending e) = refl
bare_own (Blank None) = refl
bare_own (Blank (Some e)) = refl

bare_blank : (before : Bool) (bs : Blocks) → ends_blank before (bare_blocks bs) ≡ ends_blank before bs
bare_blank before Nil = refl
bare_blank before (Cons b bs) = bare_blank (is_blank_ending (bare_block b)) bs ∙ ap (λ t. ends_blank t bs) (bare_own b)

pub bare_blocks_read : BareBlocksReadTheSame
bare_blocks_read = record {
  read = λ r bs. ap (read_blocks r on_page) (sym (bare_groups bs)) ∙ blocks_read r on_page (group_items bs);
  defined = λ bs. grouped_defined (bare_blocks bs) ∙ bare_defined bs;
  blank = λ bs. grouped_blank false (bare_blocks bs) ∙ bare_blank false bs;
}
