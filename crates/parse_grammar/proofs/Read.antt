-- Blocks whose constructs are on: those of a text, in lists, and as they are read.
use Rattle.std.proofs.Common.{◌≡◌, ℕ, Bool, true, false, ◌&&◌, ◌==◌, List, [], ◌∷◌, Option, None, Some, drop, map, ◌++◌, refl, ap₂}
use Rattle.std.proofs.lemmas.Bool.{and_parts, both_ways, cond_both}
use Rattle.markdown_options.specs.declared.configuration.Constructs.{Constructs}
use Rattle.definition_text.specs.BlockLines.{BlockLine}
use Rattle.definition_text.specs.Columns.{Code, code_byte}
use Rattle.definition_text.specs.InlineCode.{InlineCode, codes_of, with_kinds}
use Rattle.definition_block.specs.Blocks as tree
use Rattle.definition_block.specs.Container.{Container, Quote, Item, Footnote}
use Rattle.definition_block.specs.Definitions.{block_definitions, definitions}
use Rattle.definition_block.specs.GfmTable.{Cell, line_cells}
use Rattle.definition_block.specs.Lists.{after_endings, before_list, endings_of, group_items, grouped_block, item_marker, list_items, list_marker, put_before, rest_of}
use Rattle.definition_block.specs.Tree.{is_ending, join, one}
use Rattle.definition_inline.specs.Definition.{Definition as LinkDefinition}
use Rattle.definition_inline.specs.GfmTaskListItem.{check_at, check_of, check_size}
use Rattle.definition_inline.specs.Scan.{inlines, without_indent}
use Rattle.definition_page.specs.GfmTable.{body_lines, head_line}
use Rattle.definition_page.specs.Page as page
use Rattle.definition_page.specs.Read.{Reading, Standing, checked_text, context_of, in_container, next_standing, read_block, read_blocks, read_cell, read_container}
use Rattle.definition_page.specs.Read.{read_leaf, read_row, standing_in, text_content}
use Rattle.laws_block.proofs.Occurs.{BlockMayStand, ContainerMayStand, LeafBlockMayStand, MayStand}
use Rattle.parse_grammar.proofs.Leaves.{AllLeaves, leaves_after}
use Rattle.parse_grammar.proofs.Tables.{CellsHave, RowsHave}
use Rattle.parse_grammar.proofs.Parts.{cell_is_on, content_is_on, TextIsOn}

module _ (on : Constructs) where
  -- ---- on a page

  -- a leaf, with its text; which construct made a heading, or fenced code, isn't told
  abbrev pub IsLeafOn : page.PageLeaf → Type 0
  IsLeafOn (page.Paragraph is) = TextIsOn on is
  IsLeafOn (page.Heading rank is) = TextIsOn on is
  IsLeafOn page.Break = on.thematic_break ≡ true
  IsLeafOn (page.IndentedCode ls) = on.code_indented ≡ true
  IsLeafOn (page.FencedCode info is_closed ls) = Unit {0}
  IsLeafOn (page.Html ls) = on.html_flow ≡ true
  IsLeafOn (page.Table t) = (on.gfm_table ≡ true) × CellsHave (TextIsOn on) t.head.cells × RowsHave (TextIsOn on) t.rows
  IsLeafOn page.Definition = Unit {0}

  abbrev pub IsContainerOn : page.PageContainer → Type 0
  IsContainerOn page.Quote = on.block_quote ≡ true
  IsContainerOn page.Item = on.list_item ≡ true
  IsContainerOn (page.Footnote label) = on.gfm_footnote_definition ≡ true

  -- ---- in lists

  abbrev mutual
    pub IsGroupedOn : tree.Block → Type 0
    IsGroupedOn (tree.Leaf leaf) = LeafBlockMayStand on leaf
    IsGroupedOn (tree.Holds c kids) = ContainerMayStand on c × AreGroupedOn kids
    IsGroupedOn (tree.Items items) = (on.list_item ≡ true) × AreGroupedOn items
    IsGroupedOn b = Unit {0}

    pub AreGroupedOn : tree.Blocks → Type 0
    AreGroupedOn tree.Nil = Unit {0}
    AreGroupedOn (tree.Cons b bs) = IsGroupedOn b × AreGroupedOn bs

  join_on : (bs cs : tree.Blocks) → AreGroupedOn bs → AreGroupedOn cs → AreGroupedOn (join bs cs)
  join_on tree.Nil cs first second = second
  join_on (tree.Cons b bs) cs first second = (first.0, join_on bs cs first.1 second)

  endings_on : (bs : tree.Blocks) → AreGroupedOn bs → AreGroupedOn (endings_of bs)
  endings_on tree.Nil h = tt
  endings_on (tree.Cons b bs) h = cond_both (is_ending b) (tree.Cons b (endings_of bs)) tree.Nil AreGroupedOn (λ _. (h.0, endings_on bs h.1)) (λ _. tt)

  after_on : (bs : tree.Blocks) → AreGroupedOn bs → AreGroupedOn (after_endings bs)
  after_on tree.Nil h = tt
  after_on (tree.Cons b bs) h = cond_both (is_ending b) (after_endings bs) (tree.Cons b bs) AreGroupedOn (λ _. after_on bs h.1) (λ _. h)

  items_on : (bs : tree.Blocks) → AreGroupedOn bs → AreGroupedOn (list_items bs)
  items_on (tree.Cons (tree.Items items) bs) h = h.0.1
  items_on bs h = tt

  rest_on : (bs : tree.Blocks) → AreGroupedOn bs → AreGroupedOn (rest_of bs)
  rest_on tree.Nil h = tt
  rest_on (tree.Cons b bs) h = h.1

  before_on : (marker : ℕ) (item : tree.Block) (bs : tree.Blocks) → on.list_item ≡ true → IsGroupedOn item → AreGroupedOn bs
      → AreGroupedOn (before_list marker item bs)
  before_on marker item bs is first others =
      let after = after_on bs others in
      cond_both (list_marker (after_endings bs) == marker)
      (tree.Cons (tree.Items (tree.Cons item (join (endings_of bs) (list_items (after_endings bs))))) (rest_of (after_endings bs)))
      (tree.Cons (tree.Items (one item)) bs) AreGroupedOn
      (λ _. (
        (is, (first, join_on (endings_of bs) (list_items (after_endings bs)) (endings_on bs others) (items_on (after_endings bs) after))),
        rest_on (after_endings bs) after,
      ))
      (λ _. ((is, (first, tt)), others))

  put_on : (b : tree.Block) (bs : tree.Blocks) → IsGroupedOn b → AreGroupedOn bs → AreGroupedOn (put_before b bs)
  put_on (tree.Holds (Item item) kids) bs own others =
      let b = tree.Holds (Item item) kids in
      cond_both (item_marker b == 0) (tree.Cons b bs) (before_list (item_marker b) b bs) AreGroupedOn (λ _. (own, others))
      (λ _. before_on (item_marker b) b bs own.0.0 own others)
  put_on (tree.Holds Quote kids) bs own others = (own, others)
  put_on (tree.Holds (Footnote label) kids) bs own others = (own, others)
  put_on (tree.Leaf leaf) bs own others = (own, others)
  put_on (tree.Items items) bs own others = (own, others)
  put_on (tree.Ending ending) bs own others = (own, others)
  put_on (tree.Blank ending) bs own others = (own, others)

  mutual
    grouped_on : (b : tree.Block) → BlockMayStand on b → IsGroupedOn (grouped_block b)
    grouped_on (tree.Holds c kids) h = (h.0, group_on kids h.1)
    grouped_on (tree.Leaf leaf) h = h
    grouped_on (tree.Items items) h = absurd h
    grouped_on (tree.Ending ending) h = tt
    grouped_on (tree.Blank ending) h = tt

    pub group_on : (bs : tree.Blocks) → MayStand on bs → AreGroupedOn (group_items bs)
    group_on tree.Nil h = tt
    group_on (tree.Cons b bs) h = put_on (grouped_block b) (group_items bs) (grouped_on b h.0) (group_on bs h.1)

  -- ---- definitions

  module _ (off : on.definition ≡ false) where
    leaf_defines_none : (leaf : tree.LeafBlock) → LeafBlockMayStand on leaf → block_definitions (tree.Leaf leaf) ≡ []
    leaf_defines_none (tree.Definition ls label destination title) h = absurd (both_ways on.definition off h)
    leaf_defines_none leaf h = refl

    mutual
      block_defines_none : (b : tree.Block) → BlockMayStand on b → block_definitions b ≡ []
      block_defines_none (tree.Leaf leaf) h = leaf_defines_none leaf h
      block_defines_none (tree.Holds c kids) h = defines_none kids h.1
      block_defines_none (tree.Items items) h = absurd h
      block_defines_none (tree.Ending ending) h = refl
      block_defines_none (tree.Blank ending) h = refl

      pub defines_none : (bs : tree.Blocks) → MayStand on bs → definitions bs ≡ []
      defines_none tree.Nil h = refl
      defines_none (tree.Cons b bs) h = ap₂ (λ (xs ys : List LinkDefinition). xs ++ ys) (block_defines_none b h.0) (defines_none bs h.1)

-- ---- as they are read

module _ (r : Reading) where
  abbrev on : Constructs
  on = r.parse.constructs

  -- a check is read where it is on
  checked_on : (content : List InlineCode) (check : Option Bool) → ((done : Bool) → check ≡ Some done → on.gfm_task_list_item ≡ true)
      → TextIsOn on (checked_text r content check)
  checked_on content None is = content_is_on (context_of r) content
  checked_on content (Some done) is = (is done refl, content_is_on (context_of r) (drop check_size content))

  check_on : (first : Bool) (content : List Code) (done : Bool) → check_at on first content ≡ Some done → on.gfm_task_list_item ≡ true
  check_on first content done is =
      cond_both (first && on.gfm_task_list_item) (check_of content) None (λ (o : Option Bool). o ≡ Some done → on.gfm_task_list_item ≡ true)
      (λ both _. (and_parts first on.gfm_task_list_item both).1) (λ _ none. absurd (let k : None ≡ Some done = none in cc)) is

  text_on : (content : List InlineCode) → TextIsOn on (inlines (context_of r) content)
  text_on content = content_is_on (context_of r) (without_indent content)

  cells_on : (cells : List Cell) → CellsHave (TextIsOn on) (map (read_cell r) cells)
  cells_on [] = tt
  cells_on (c ∷ cs) =
      let content = with_kinds r.tables.is_punctuation None c.before c.after (map code_byte c.codes) in
      (cell_is_on on (inlines (context_of r) content) (text_on content), cells_on cs)

  rows_on : (ls : List BlockLine) → RowsHave (TextIsOn on) (map (read_row r) ls)
  rows_on [] = tt
  rows_on (l ∷ ls) = (cells_on (line_cells l), rows_on ls)

  leaf_on : (standing : Standing) (leaf : tree.LeafBlock) → LeafBlockMayStand on leaf → IsLeafOn on (read_leaf r standing leaf)
  leaf_on standing (tree.Paragraph ls) h =
      let content = without_indent (text_content r ls) in
      let codes = codes_of content in
      checked_on content (check_at on standing.first codes) (check_on standing.first codes)
  leaf_on standing (tree.Heading rank ls) h = text_on (text_content r ls)
  leaf_on standing tree.Break h = h
  leaf_on standing (tree.IndentedCode ls) h = h
  leaf_on standing (tree.FencedCode info is_closed ls) h = tt
  leaf_on standing (tree.Html ls) h = h
  leaf_on standing (tree.Table ls) h = (h, cells_on (line_cells (head_line ls)), rows_on (body_lines ls))
  leaf_on standing (tree.Definition ls label destination title) h = tt

  container_on : (c : Container) → ContainerMayStand on c → IsContainerOn on (read_container c)
  container_on Quote h = h
  container_on (Item item) h = h.0
  container_on (Footnote label) h = h

  mutual
    read_on : (standing : Standing) (b : tree.Block) (others : page.Blocks) → IsGroupedOn on b → AllLeaves (IsLeafOn on) (IsContainerOn on) others
        → AllLeaves (IsLeafOn on) (IsContainerOn on) (read_block r standing b others)
    read_on standing (tree.Leaf l) others own all = (leaf_on standing l own, leaves_after (IsLeafOn on) (IsContainerOn on) standing.top l others all)
    read_on standing (tree.Holds c kids) others own all = ((container_on c own.0, reads_on (standing_in c) kids own.1), all)
    read_on standing (tree.Items items) others own all = ((own.0, reads_on in_container items own.1), all)
    read_on standing (tree.Ending None) others own all = all
    read_on standing (tree.Ending (Some ending)) others own all = (tt, all)
    read_on standing (tree.Blank None) others own all = all
    read_on standing (tree.Blank (Some ending)) others own all = (tt, all)

    pub reads_on : (standing : Standing) (bs : tree.Blocks) → AreGroupedOn on bs → AllLeaves (IsLeafOn on) (IsContainerOn on) (read_blocks r standing bs)
    reads_on standing tree.Nil all = tt
    reads_on standing (tree.Cons b bs) all =
        read_on standing b (read_blocks r (next_standing standing b) bs) all.0 (reads_on (next_standing standing b) bs all.1)
