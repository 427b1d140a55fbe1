-- The page of the blocks of a text with another line ending in place of each LF.
use Rattle.std.proofs.Common.{◌≡◌, ℕ, zero, suc, Bool, false, true≢false, cond, eqb, not, ◌||◌, ◌&&◌, leb, List, [], ◌∷◌, ◌++◌, Option, None, Some, refl, sym}
use Rattle.std.proofs.Common.{ap, ◌∙◌, subst, map, drop}
use Rattle.laws_endings.proofs.Prelude.{AreAlike, block_with, BlockLine, blocks_with, Cell, cells, check_at, code_byte, codes_of, codes_with, cond_both, Cons}
use Rattle.laws_endings.proofs.Prelude.{content_with, delimiter_line, drop-map, ending_code, ending_list, ending_with, ends_blank, group_items, head_line}
use Rattle.laws_endings.proofs.Prelude.{if_ending_with, in_cell, inline_code_with, InlineCode, InlineContext, Inlines, inlines, inlines_from, inlines_with}
use Rattle.laws_endings.proofs.Prelude.{is_ending, is_white, join, Kind, Leaf, leaf_block_with, line_cells, line_codes, line_with, LineEnding, lines_with}
use Rattle.laws_endings.proofs.Prelude.{map-append, one, own_lines, prefix_len, read_blocks, string_text, Table, TableRow, TaskCheck, unwrap_or, with_ending}
use Rattle.laws_endings.proofs.Prelude.{with_kinds, without_indent}
use Rattle.markdown_options.specs.declared.line_ending.LineEnding.TheVariants.{CarriageReturnLineFeed, CarriageReturn, LineFeed}
use Rattle.markdown_options.specs.declared.beside.Kind.TheVariants.{Whitespace}
use Rattle.definition_text.specs.InlineCode.{line_content, inline_content}
use Rattle.definition_inline.specs.GfmTaskListItem.{check_size}
use Rattle.definition_block.specs.Tree as tree
use Rattle.definition_block.specs.Lists.{endings_at_front, endings_of, after_endings, is_some_block, has_gap, has_gap_inside, is_loose, item_marker}
use Rattle.definition_block.specs.Lists.{list_marker, list_items, rest_of, before_list, put_before, grouped_block}
use Rattle.definition_block.specs.GfmTable.{delimiters as delimiters_of}
use Rattle.definition_page.specs.GfmTable.{body_lines, line_aligns}
use Rattle.definition_page.specs.Page as page
use Rattle.definition_page.specs.Page.{cons_ending, cons_blank}
use Rattle.definition_page.specs.Read.{Reading, Standing, context_of, in_container, next_standing, checked_text, read_paragraph, read_cell, read_row}
use Rattle.definition_page.specs.Read.{read_table, read_text, info_text, code_lines, without_ending, after_leaf, read_leaf, read_container, standing_in}
use Rattle.definition_page.specs.Read.{list_number, read_block, is_blank_ending}
use Rattle.definition_page.proofs.ContentCodes.{kinds_codes}
use Rattle.laws_endings.proofs.Codes.{cond-under}
use Rattle.laws_endings.proofs.Cuts.{own_lines-with, line_codes-with, join-with}
use Rattle.laws_endings.proofs.Closing.{is_ending-with}
use Rattle.laws_endings.proofs.Matching.{bytes-with}
use Rattle.laws_endings.proofs.Literals.{codes_of-with}
use Rattle.laws_endings.proofs.Contents.{unindented-with, from-with, inlines-with}
use Rattle.laws_endings.proofs.GfmTaskListItem.{check_at-with}
use Rattle.laws_endings.proofs.AlikeLiterals.{alike_codes, alike_drop, alike_append}
use Rattle.laws_endings.proofs.Each.{Each, each-append, each-drop, each_map}
use Rattle.laws_endings.proofs.Characters.{Begins, continues_one, AreWhole}
use Rattle.laws_endings.proofs.Neighbours.{kinds-with, kinds-kept, alike_unindented, alike_from, alike_inlines}
use Rattle.laws_endings.proofs.Fits.{Single, Plain, space_plain, space_single}
use Rattle.laws_endings.proofs.Parts.{AreFit}
use Rattle.laws_endings.proofs.InlineReads.{dropped_codes, from_fits, inlines_fit}
use Rattle.laws_endings.proofs.BlockReads.{IsFed, WholeBefore, LineFits, LinesFit, LeafBlockFits, BlockFits, BlocksFit, line_singles, own_fit}
use Rattle.laws_endings.proofs.Bytes.{IsNoFeed}
use Rattle.laws_endings.proofs.PrintedTable.{RowFits, TableFits, in_cell_fits, CellFits, cells_fit, head_fits, delimiters_fit, head-with, delimiters-with}
use Rattle.laws_endings.proofs.PrintedTable.{list_fed, list-with, row_with, table_with, in_cell-with}
use Rattle.laws_endings.proofs.Saids.{plains_no_feed, codes-kept, string_text-with}

-- ---- lists

module _ (e : LineEnding) where
  item_marker-with : (b : tree.Block) → item_marker (block_with e b) ≡ item_marker b
  item_marker-with (tree.Holds c kids) = refl
  item_marker-with b = refl

  endings_of-with : (bs : tree.Blocks) → endings_of (blocks_with e bs) ≡ blocks_with e (endings_of bs)
  endings_of-with tree.Nil = refl
  endings_of-with (tree.Cons b bs) =
      ap (λ is. cond is (tree.Cons (block_with e b) (endings_of (blocks_with e bs))) tree.Nil) (is_ending-with e b)
      ∙ cond-under (blocks_with e) (is_ending b) (ap (tree.Cons (block_with e b)) (endings_of-with bs)) refl

  after_endings-with : (bs : tree.Blocks) → after_endings (blocks_with e bs) ≡ blocks_with e (after_endings bs)
  after_endings-with tree.Nil = refl
  after_endings-with (tree.Cons b bs) =
      ap (λ is. cond is (after_endings (blocks_with e bs)) (tree.Cons (block_with e b) (blocks_with e bs))) (is_ending-with e b)
      ∙ cond-under (blocks_with e) (is_ending b) (after_endings-with bs) refl

  list_marker-with : (bs : tree.Blocks) → list_marker (blocks_with e bs) ≡ list_marker bs
  list_marker-with (tree.Cons (tree.Items tree.Nil) bs) = refl
  list_marker-with (tree.Cons (tree.Items (tree.Cons item items)) bs) = item_marker-with item
  list_marker-with bs = refl

  list_items-with : (bs : tree.Blocks) → list_items (blocks_with e bs) ≡ blocks_with e (list_items bs)
  list_items-with (tree.Cons (tree.Items items) bs) = refl
  list_items-with bs = refl

  rest_of-with : (bs : tree.Blocks) → rest_of (blocks_with e bs) ≡ blocks_with e (rest_of bs)
  rest_of-with tree.Nil = refl
  rest_of-with (tree.Cons b bs) = refl

  before_list-with : (marker : ℕ) (item : tree.Block) (bs : tree.Blocks)
      → before_list marker (block_with e item) (blocks_with e bs) ≡ blocks_with e (before_list marker item bs)
  before_list-with marker item bs =
      let others = after_endings bs in
      let item' = block_with e item in
      let bs' = blocks_with e bs in
      let made : tree.Blocks → tree.Blocks → tree.Blocks =
      λ ends rest. cond (eqb (list_marker rest) marker) (tree.Cons (tree.Items (tree.Cons item' (join ends (list_items rest)))) (rest_of rest))
      (tree.Cons (tree.Items (one item')) bs') in
      let first : tree.Blocks → tree.Blocks → tree.Blocks = λ items rest. tree.Cons (tree.Items (tree.Cons item' items)) rest in
      let ends' = blocks_with e (endings_of bs) in
      let rest' = blocks_with e others in
      ap (λ ends. made ends (after_endings bs')) (endings_of-with bs)
      ∙ ap (made ends') (after_endings-with bs)
      ∙ ap (λ m. cond (eqb m marker) (first (join ends' (list_items rest')) (rest_of rest')) (tree.Cons (tree.Items (one item')) bs')) (list_marker-with others)
      ∙ cond-under (blocks_with e) (eqb (list_marker others) marker)
      (ap (λ items. first (join ends' items) (rest_of rest')) (list_items-with others)
      ∙ ap (λ items. first items (rest_of rest')) (join-with e (endings_of bs) (list_items others))
      ∙ ap (first (blocks_with e (join (endings_of bs) (list_items others)))) (rest_of-with others))
      refl

  before-with : (b : tree.Block) (bs : tree.Blocks) → put_before (block_with e b) (blocks_with e bs) ≡ blocks_with e (put_before b bs)
  before-with b bs =
      ap (λ m. cond (eqb m 0) (tree.Cons (block_with e b) (blocks_with e bs)) (before_list m (block_with e b) (blocks_with e bs))) (item_marker-with b)
      ∙ cond-under (blocks_with e) (eqb (item_marker b) 0) refl (before_list-with (item_marker b) b bs)

  mutual
    grouped_block-with : (b : tree.Block) → grouped_block (block_with e b) ≡ block_with e (grouped_block b)
    grouped_block-with (tree.Holds c kids) = ap (tree.Holds c) (grouped-with kids)
    grouped_block-with b = refl

    pub grouped-with : (bs : tree.Blocks) → group_items (blocks_with e bs) ≡ blocks_with e (group_items bs)
    grouped-with tree.Nil = refl
    grouped-with (tree.Cons b bs) =
        ap (λ first. put_before first (group_items (blocks_with e bs))) (grouped_block-with b)
        ∙ ap (put_before (block_with e (grouped_block b))) (grouped-with bs)
        ∙ before-with (grouped_block b) (group_items bs)

  -- ---- whether a list is loose

  leading-with : (bs : tree.Blocks) → endings_at_front (blocks_with e bs) ≡ endings_at_front bs
  leading-with tree.Nil = refl
  leading-with (tree.Cons b bs) =
      ap (λ is. cond is (suc (endings_at_front (blocks_with e bs))) 0) (is_ending-with e b) ∙ ap (λ n. cond (is_ending b) (suc n) 0) (leading-with bs)

  is_some_block-with : (bs : tree.Blocks) → is_some_block (blocks_with e bs) ≡ is_some_block bs
  is_some_block-with tree.Nil = refl
  is_some_block-with (tree.Cons b bs) =
      ap (λ is. not is || is_some_block (blocks_with e bs)) (is_ending-with e b) ∙ ap (λ some. not (is_ending b) || some) (is_some_block-with bs)

  has_gap-with : (bs : tree.Blocks) → has_gap (blocks_with e bs) ≡ has_gap bs
  has_gap-with tree.Nil = refl
  has_gap-with (tree.Cons b bs) =
      let bs' = blocks_with e bs in
      ap (λ is. (not is && leb 2 (endings_at_front bs') && is_some_block bs') || has_gap bs') (is_ending-with e b)
      ∙ ap (λ n. (not (is_ending b) && leb 2 n && is_some_block bs') || has_gap bs') (leading-with bs)
      ∙ ap (λ some. (not (is_ending b) && leb 2 (endings_at_front bs) && some) || has_gap bs') (is_some_block-with bs)
      ∙ ap (λ gap. (not (is_ending b) && leb 2 (endings_at_front bs) && is_some_block bs) || gap) (has_gap-with bs)

  has_gap_inside-with : (bs : tree.Blocks) → has_gap_inside (blocks_with e bs) ≡ has_gap_inside bs
  has_gap_inside-with tree.Nil = refl
  has_gap_inside-with (tree.Cons (tree.Holds c kids) bs) =
      ap (λ gap. gap || has_gap_inside (blocks_with e bs)) (has_gap-with kids) ∙ ap (λ inside. has_gap kids || inside) (has_gap_inside-with bs)
  has_gap_inside-with (tree.Cons b bs) = has_gap_inside-with bs

  is_loose-with : (items : tree.Blocks) → is_loose (blocks_with e items) ≡ is_loose items
  is_loose-with items =
      ap (λ gap. gap || has_gap_inside (blocks_with e items)) (has_gap-with items) ∙ ap (λ inside. has_gap items || inside) (has_gap_inside-with items)

  list_number-with : (items : tree.Blocks) → list_number (blocks_with e items) ≡ list_number items
  list_number-with (tree.Cons (tree.Holds c kids) bs) = refl
  list_number-with bs = refl

  -- ---- the content of lines

  -- a line ending after whole characters
  begins_longer : (n : ℕ) (cs more : List ℕ) → Begins n cs → Begins n (cs ++ more)
  begins_longer n cs more h = begins_by n cs more h
    where
      begins_by : (n : ℕ) (cs more : List ℕ) → Begins n cs → Begins n (cs ++ more)
      begins_by zero cs more h = tt
      begins_by (suc n) [] more h = absurd (true≢false h)
      begins_by (suc n) (c ∷ cs) more h = (h.0, begins_by n cs more h.1)

  continues_longer : (cs : List ℕ) → continues_one cs ≡ false → continues_one (cs ++ 10 ∷ []) ≡ false
  continues_longer [] h = refl
  continues_longer (c ∷ cs) h = h

  whole_longer : (cs : List ℕ) → AreWhole cs → AreWhole (cs ++ 10 ∷ [])
  whole_longer [] w = (((λ _. tt), λ marks. absurd (true≢false (sym marks))), tt)
  whole_longer (c ∷ cs) w =
      (((λ starts. begins_longer _ cs (10 ∷ []) (w.0.0 starts)), λ marks. continues_longer cs (w.0.1 marks)), whole_longer cs w.1)

  module _ (p : ℕ → Bool) where
    -- the content of a line with this ending
    abbrev content_here : Kind → List ℕ → List InlineCode
    content_here before cs = with_kinds p None before Whitespace cs

    codes_content : (before : Kind) (cs : List ℕ) (ending : Option LineEnding) → Each Plain cs → IsFed ending
        → (WholeBefore ending cs)
        → AreAlike (content_here before (codes_with e (map code_byte (cs ++ ending_code ending))))
        (content_with e (content_here before (map code_byte (cs ++ ending_code ending))))
    codes_content before cs None h f w =
        let all = map code_byte (cs ++ []) in
        let clear : Each IsNoFeed all =
        plains_no_feed all (each_map Plain Plain code_byte (cs ++ []) space_plain (each-append Plain cs [] h tt)) in
        subst (λ xs. AreAlike (content_here before xs) (content_with e (content_here before all))) (sym (codes-kept e all clear))
        (kinds-kept e p None before Whitespace all refl clear)
    codes_content before cs (Some LineFeed) h f w =
        kinds-with e p None before Whitespace (map code_byte (cs ++ 10 ∷ []))
        (subst AreWhole (sym (map-append code_byte cs (10 ∷ []))) (whole_longer (map code_byte cs) w))
    codes_content before cs (Some CarriageReturn) h f w = absurd (true≢false f)
    codes_content before cs (Some CarriageReturnLineFeed) h f w = absurd (true≢false f)

    line-with : (line : BlockLine) → LineFits line
        → AreAlike (line_content p Whitespace (line_with e line)) (content_with e (line_content p Whitespace line))
    line-with line h =
        subst (λ xs. AreAlike xs (content_with e (line_content p Whitespace line)))
        (sym (ap (λ cs. content_here line.before (map code_byte cs)) (line_codes-with e line) ∙ ap (content_here line.before) (bytes-with e (line_codes line))))
        (codes_content line.before line.codes line.ending h.0 h.1.0 h.1.1)

    content-with : (ls : List BlockLine) → LinesFit ls
        → AreAlike (inline_content p Whitespace (lines_with e ls)) (content_with e (inline_content p Whitespace ls))
    content-with [] h = refl
    content-with (line ∷ ls) h =
        let first = line_content p Whitespace line in
        let more = inline_content p Whitespace ls in
        let other = inline_content p Whitespace (lines_with e ls) in
        subst (AreAlike (line_content p Whitespace (line_with e line) ++ other)) (sym (content-append first more))
        (alike_append (line_content p Whitespace (line_with e line)) (content_with e first) other (content_with e more) (line-with line h.0)
        (content-with ls h.1))
      where
        content-append : (xs ys : List InlineCode) → content_with e (xs ++ ys) ≡ content_with e xs ++ content_with e ys
        content-append xs ys = map-append _ xs ys

    -- its codes
    content_fits : (ls : List BlockLine) → LinesFit ls → Each Single (codes_of (inline_content p Whitespace ls))
    content_fits [] h = tt
    content_fits (line ∷ ls) h =
        let first = line_content p Whitespace line in
        let more = inline_content p Whitespace ls in
        subst (Each Single) (sym (map-append _ first more))
        (each-append Single (codes_of first) (codes_of more)
        (subst (Each Single) (sym (kinds_codes p None line.before Whitespace (map code_byte (line_codes line))))
        (each_map Single Single code_byte (line_codes line) space_single (line_singles line h.0)))
        (content_fits ls h.1))

  -- ---- the blocks of a page

  -- a leaf with this ending in place of each LF of its contents and its lines
  abbrev pub page_leaf_with : page.PageLeaf → page.PageLeaf
  page_leaf_with (page.Paragraph is) = page.Paragraph (inlines_with e is)
  page_leaf_with (page.Heading rank is) = page.Heading rank (inlines_with e is)
  page_leaf_with page.Break = page.Break
  page_leaf_with (page.IndentedCode ls) = page.IndentedCode (lines_with e ls)
  page_leaf_with (page.FencedCode info is_closed ls) = page.FencedCode info is_closed (lines_with e ls)
  page_leaf_with (page.Html ls) = page.Html (lines_with e ls)
  page_leaf_with (page.Table t) = page.Table (table_with e t)
  page_leaf_with page.Definition = page.Definition

  abbrev mutual
    pub page_block_with : page.Block → page.Block
    page_block_with (page.Leaf leaf) = page.Leaf (page_leaf_with leaf)
    page_block_with (page.Holds c kids) = page.Holds c (page_blocks_with kids)
    page_block_with (page.ItemList number loose items) = page.ItemList number loose (page_blocks_with items)
    page_block_with (page.Ending ending) = page.Ending (ending_with e ending)
    page_block_with (page.Blank ending) = page.Blank (ending_with e ending)

    pub page_blocks_with : page.Blocks → page.Blocks
    page_blocks_with page.Nil = page.Nil
    page_blocks_with (page.Cons b bs) = page.Cons (page_block_with b) (page_blocks_with bs)

  -- the text of an info without LF
  abbrev pub InfoFits : Option (List ℕ) → Type 0
  InfoFits None = Unit {0}
  InfoFits (Some info) = with_ending e info ≡ info

  -- a leaf whose contents and lines are fit
  abbrev pub PageLeafFits : page.PageLeaf → Type 0
  PageLeafFits (page.Paragraph is) = AreFit is
  PageLeafFits (page.Heading rank is) = AreFit is
  PageLeafFits (page.IndentedCode ls) = LinesFit ls
  PageLeafFits (page.FencedCode info is_closed ls) = InfoFits info × LinesFit ls
  PageLeafFits (page.Html ls) = LinesFit ls
  PageLeafFits (page.Table t) = TableFits t
  PageLeafFits leaf = Unit {0}

  abbrev mutual
    pub PageBlockFits : page.Block → Type 0
    PageBlockFits (page.Leaf leaf) = PageLeafFits leaf
    PageBlockFits (page.Holds c kids) = PageFits kids
    PageBlockFits (page.ItemList number loose items) = PageFits items
    PageBlockFits (page.Ending ending) = IsFed (Some ending)
    PageBlockFits (page.Blank ending) = IsFed (Some ending)

    pub PageFits : page.Blocks → Type 0
    PageFits page.Nil = Unit {0}
    PageFits (page.Cons b bs) = PageBlockFits b × PageFits bs

  cons_ending-with : (ending : Option LineEnding) (bs : page.Blocks)
      → cons_ending (if_ending_with e ending) (page_blocks_with bs) ≡ page_blocks_with (cons_ending ending bs)
  cons_ending-with None bs = refl
  cons_ending-with (Some ending) bs = refl

  cons_blank-with : (ending : Option LineEnding) (bs : page.Blocks)
      → cons_blank (if_ending_with e ending) (page_blocks_with bs) ≡ page_blocks_with (cons_blank ending bs)
  cons_blank-with None bs = refl
  cons_blank-with (Some ending) bs = refl

  cons_ending_fits : (ending : Option LineEnding) (bs : page.Blocks) → IsFed ending → PageFits bs → PageFits (cons_ending ending bs)
  cons_ending_fits None bs f p = p
  cons_ending_fits (Some ending) bs f p = (f, p)

  cons_blank_fits : (ending : Option LineEnding) (bs : page.Blocks) → IsFed ending → PageFits bs → PageFits (cons_blank ending bs)
  cons_blank_fits None bs f p = p
  cons_blank_fits (Some ending) bs f p = (f, p)

  without_ending-with : (bs : page.Blocks) → without_ending (page_blocks_with bs) ≡ page_blocks_with (without_ending bs)
  without_ending-with (page.Cons (page.Ending ending) bs) = refl
  without_ending-with bs = refl

  without_ending_fits : (bs : page.Blocks) → PageFits bs → PageFits (without_ending bs)
  without_ending_fits (page.Cons (page.Ending ending) bs) p = p.1
  without_ending_fits bs p = p

  after_leaf-with : (top : Bool) (leaf : tree.LeafBlock) (bs : page.Blocks)
      → after_leaf top (leaf_block_with e leaf) (page_blocks_with bs) ≡ page_blocks_with (after_leaf top leaf bs)
  after_leaf-with top (tree.FencedCode info is_closed ls) bs = cond-under page_blocks_with (top && not is_closed) (without_ending-with bs) refl
  after_leaf-with top leaf bs = refl

  after_leaf_fits : (top : Bool) (leaf : tree.LeafBlock) (bs : page.Blocks) → PageFits bs → PageFits (after_leaf top leaf bs)
  after_leaf_fits top (tree.FencedCode info is_closed ls) bs p = cond_both (top && not is_closed) _ _ PageFits (λ _. without_ending_fits bs p) (λ _. p)
  after_leaf_fits top leaf bs p = p

  code_lines-with : (top is_closed : Bool) (ls : List BlockLine) → code_lines top is_closed (lines_with e ls) ≡ lines_with e (code_lines top is_closed ls)
  code_lines-with top is_closed ls = cond-under (lines_with e) (top || is_closed) refl (own_lines-with e ls)

  code_lines_fit : (top is_closed : Bool) (ls : List BlockLine) → LinesFit ls → LinesFit (code_lines top is_closed ls)
  code_lines_fit top is_closed ls p = cond_both (top || is_closed) ls (own_lines ls) LinesFit (λ _. p) (λ _. own_fit ls p)

  module _ (r : Reading) (same : (label : List ℕ) → r.is_defined (codes_with e label) ≡ r.is_defined label)
      (same_call : (label : List ℕ) → r.is_footnote (codes_with e label) ≡ r.is_footnote label) where
    abbrev context : InlineContext
    context = context_of r

    text-with : (ls : List BlockLine) → LinesFit ls → read_text r (lines_with e ls) ≡ inlines_with e (read_text r ls)
    text-with ls h =
        let p = r.tables.is_punctuation in
        let content = inline_content p Whitespace ls in
        alike_inlines context (inline_content p Whitespace (lines_with e ls)) (content_with e content) (content-with p ls h)
        ∙ inlines-with e context same same_call content

    text_fits : (ls : List BlockLine) → LinesFit ls → AreFit (read_text r ls)
    text_fits ls h = inlines_fit context (inline_content r.tables.is_punctuation Whitespace ls) (content_fits r.tables.is_punctuation ls h)

    -- what is read of contents that are the same but for their endings
    from-same : (other content : List InlineCode) → AreAlike other (content_with e content)
        → inlines_from context other ≡ inlines_with e (inlines_from context content)
    from-same other content h = alike_from context other (content_with e content) h ∙ from-with e context same same_call content

    codes-same : (other content : List InlineCode) → AreAlike other (content_with e content) → codes_of other ≡ codes_with e (codes_of content)
    codes-same other content h = alike_codes other (content_with e content) h ∙ codes_of-with e content

    drop-same : (n : ℕ) (other content : List InlineCode) → AreAlike other (content_with e content)
        → AreAlike (drop n other) (content_with e (drop n content))
    drop-same n other content h =
        subst (AreAlike (drop n other)) (drop-map (inline_code_with e) n content) (alike_drop n other (content_with e content) h)

    checked-same : (other content : List InlineCode) → AreAlike other (content_with e content) → (found : Option Bool)
        → checked_text r other found ≡ inlines_with e (checked_text r content found)
    checked-same other content h None = from-same other content h
    checked-same other content h (Some done) =
        ap (Cons (Leaf (TaskCheck done))) (from-same (drop check_size other) (drop check_size content) (drop-same check_size other content h))

    paragraph-with : (first : Bool) (ls : List BlockLine) → LinesFit ls
        → read_paragraph r first (lines_with e ls) ≡ inlines_with e (read_paragraph r first ls)
    paragraph-with first ls h =
        let p = r.tables.is_punctuation in
        let on = r.parse.constructs in
        let other = inline_content p Whitespace (lines_with e ls) in
        let content = inline_content p Whitespace ls in
        let alike : AreAlike (without_indent other) (content_with e (without_indent content)) =
        subst (AreAlike (without_indent other)) (unindented-with e content) (alike_unindented other (content_with e content) (content-with p ls h)) in
        ap (λ codes. checked_text r (without_indent other) (check_at on first codes)) (codes-same (without_indent other) (without_indent content) alike)
        ∙ ap (checked_text r (without_indent other)) (check_at-with e on first (codes_of (without_indent content)))
        ∙ checked-same (without_indent other) (without_indent content) alike (check_at on first (codes_of (without_indent content)))

    checked_fits : (content : List InlineCode) → Each Single (codes_of content) → (found : Option Bool) → AreFit (checked_text r content found)
    checked_fits content p None = from_fits context content p
    checked_fits content p (Some done) = (tt, from_fits context (drop check_size content) (dropped_codes context check_size content p))

    paragraph_fits : (first : Bool) (ls : List BlockLine) → LinesFit ls → AreFit (read_paragraph r first ls)
    paragraph_fits first ls h =
        let content = inline_content r.tables.is_punctuation Whitespace ls in
        checked_fits (without_indent content)
        (dropped_codes context (prefix_len (λ (c : InlineCode). is_white c.code) content) content (content_fits r.tables.is_punctuation ls h))
        (check_at r.parse.constructs first (codes_of (without_indent content)))

    singles_of : (cs : List ℕ) → Each Plain cs → Each Single cs
    singles_of [] p = tt
    singles_of (c ∷ cs) p = (p.0.0, singles_of cs p.1)

    -- cells, rows and tables
    cell-with : (c : Cell) → CellFits c → read_cell r c ≡ inlines_with e (read_cell r c)
    cell-with c h =
        let p = r.tables.is_punctuation in
        let all = map code_byte c.codes in
        let content = with_kinds p None c.before c.after all in
        let kept = kinds-kept e p None c.before c.after all refl (plains_no_feed all (each_map Plain Plain code_byte c.codes space_plain h)) in
        let read = alike_inlines context content (content_with e content) kept ∙ inlines-with e context same same_call content in
        ap in_cell read ∙ in_cell-with e (inlines context content)

    cells-with : (cs : List Cell) → Each CellFits cs → map (read_cell r) cs ≡ map (inlines_with e) (map (read_cell r) cs)
    cells-with [] h = refl
    cells-with (c ∷ cs) h =
        ap (λ x. x ∷ map (read_cell r) cs) (cell-with c h.0) ∙ ap (λ x. inlines_with e (read_cell r c) ∷ x) (cells-with cs h.1)

    row-with : (line : BlockLine) → LineFits line → read_row r (line_with e line) ≡ row_with e (read_row r line)
    row-with line h =
        let made : List Inlines → List LineEnding → TableRow = λ cells endings. record { cells = cells; endings = endings } in
        let ends = ending_list (if_ending_with e line.ending) in
        ap (λ text. made (map (read_cell r) (cells line.before text)) ends) (codes-kept e line.codes (plains_no_feed line.codes h.0))
        ∙ ap (λ own. made own ends) (cells-with (line_cells line) (cells_fit line h))
        ∙ ap (made (map (inlines_with e) (map (read_cell r) (line_cells line)))) (list-with e line.ending)

    rows-with : (ls : List BlockLine) → LinesFit ls → map (read_row r) (lines_with e ls) ≡ map (row_with e) (map (read_row r) ls)
    rows-with [] h = refl
    rows-with (line ∷ ls) h =
        ap (λ x. x ∷ map (read_row r) (lines_with e ls)) (row-with line h.0) ∙ ap (λ x. row_with e (read_row r line) ∷ x) (rows-with ls h.1)

    table-with : (ls : List BlockLine) → LinesFit ls → read_table r (lines_with e ls) ≡ table_with e (read_table r ls)
    table-with ls h =
        let delimiters = delimiter_line ls in
        let made : BlockLine → TableRow → List TableRow → Table =
        λ line head rows. record { aligns = line_aligns line; head = head; endings = ending_list line.ending; rows = rows } in
        let aligned : List ℕ → List LineEnding → Table =
        λ text endings. record {
          aligns = unwrap_or (delimiters_of text) [];
          head = row_with e (read_row r (head_line ls));
          endings = endings;
          rows = map (row_with e) (map (read_row r) (body_lines ls));
        } in
        let body = lines_with e (body_lines ls) in
        ap (λ line. made line (read_row r (head_line (lines_with e ls))) (map (read_row r) (body_lines (lines_with e ls)))) (delimiters-with e ls)
        ∙ ap (λ line. made (line_with e delimiters) (read_row r line) (map (read_row r) (body_lines (lines_with e ls)))) (head-with e ls)
        ∙ ap (λ head. made (line_with e delimiters) head (map (read_row r) (body_lines (lines_with e ls)))) (row-with (head_line ls) (head_fits ls h))
        ∙ ap (λ own. made (line_with e delimiters) (row_with e (read_row r (head_line ls))) (map (read_row r) own)) (drop-map (line_with e) 2 ls)
        ∙ ap (made (line_with e delimiters) (row_with e (read_row r (head_line ls)))) (rows-with (body_lines ls) (each-drop LineFits 2 ls h))
        ∙ ap (λ text. aligned text (ending_list (if_ending_with e delimiters.ending)))
        (codes-kept e delimiters.codes (plains_no_feed delimiters.codes (delimiters_fit ls h).0))
        ∙ ap (aligned delimiters.codes) (list-with e delimiters.ending)

    read_cells_fit : (cs : List Cell) → Each CellFits cs → Each AreFit (map (read_cell r) cs)
    read_cells_fit [] h = tt
    read_cells_fit (c ∷ cs) h =
        let p = r.tables.is_punctuation in
        let all = map code_byte c.codes in
        let content = with_kinds p None c.before c.after all in
        let singles = subst (Each Single) (sym (kinds_codes p None c.before c.after all))
        (each_map Single Single code_byte c.codes space_single (singles_of c.codes h.0)) in
        (in_cell_fits (inlines context content) (inlines_fit context content singles), read_cells_fit cs h.1)

    row_fits : (line : BlockLine) → LineFits line → RowFits (read_row r line)
    row_fits line h = (read_cells_fit (line_cells line) (cells_fit line h), list_fed line.ending h.1.0)

    rows_fit : (ls : List BlockLine) → LinesFit ls → Each RowFits (map (read_row r) ls)
    rows_fit [] h = tt
    rows_fit (line ∷ ls) h = (row_fits line h.0, rows_fit ls h.1)

    table_fits : (ls : List BlockLine) → LinesFit ls → TableFits (read_table r ls)
    table_fits ls h =
        (row_fits (head_line ls) (head_fits ls h), list_fed (delimiter_line ls).ending (delimiters_fit ls h).1.0, rows_fit (body_lines ls) (each-drop LineFits 2 ls h))

    info_fits : (info : List ℕ) → Each Plain info → InfoFits (info_text r info)
    info_fits [] p = tt
    info_fits (b ∷ bs) p =
        let info = b ∷ bs in
        let on = r.parse.constructs in
        sym (string_text-with e on r.tables.names info (singles_of info p))
        ∙ ap (string_text on r.tables.names) (codes-kept e info (plains_no_feed info p))

    read_leaf-with : (s : Standing) (leaf : tree.LeafBlock) → LeafBlockFits leaf → read_leaf r s (leaf_block_with e leaf) ≡ page_leaf_with (read_leaf r s leaf)
    read_leaf-with s (tree.Paragraph ls) p = ap page.Paragraph (paragraph-with s.first ls p)
    read_leaf-with s (tree.Heading rank ls) p = ap (page.Heading rank) (text-with ls p)
    read_leaf-with s (tree.FencedCode info is_closed ls) p = ap (page.FencedCode (info_text r info) is_closed) (code_lines-with s.top is_closed ls)
    read_leaf-with s (tree.Table ls) p = ap page.Table (table-with ls p)
    read_leaf-with s leaf p = refl

    mutual
      read_block-with : (s : Standing) (b : tree.Block) (others' others : page.Blocks) → BlockFits b → others' ≡ page_blocks_with others
          → read_block r s (block_with e b) others' ≡ page_blocks_with (read_block r s b others)
      read_block-with s (tree.Leaf leaf) others' others p q =
          let leaf' = leaf_block_with e leaf in
          ap (λ shown. page.Cons (page.Leaf shown) (after_leaf s.top leaf' others')) (read_leaf-with s leaf p)
          ∙ ap (page.Cons (page.Leaf (page_leaf_with (read_leaf r s leaf)))) (ap (after_leaf s.top leaf') q ∙ after_leaf-with s.top leaf others)
      read_block-with s (tree.Holds c kids) others' others p q =
          let holds : page.Blocks → page.Block = λ inside. page.Holds (read_container c) inside in
          ap (λ inside. page.Cons (holds inside) others') (read_blocks-with (standing_in c) kids p)
          ∙ ap (page.Cons (holds (page_blocks_with (read_blocks r (standing_in c) kids)))) q
      read_block-with s (tree.Items items) others' others p q =
          let items' = read_blocks r in_container (blocks_with e items) in
          ap (λ number. page.Cons (page.ItemList number (is_loose (blocks_with e items)) items') others') (list_number-with items)
          ∙ ap (λ loose. page.Cons (page.ItemList (list_number items) loose items') others') (is_loose-with items)
          ∙ ap (λ inside. page.Cons (page.ItemList (list_number items) (is_loose items) inside) others') (read_blocks-with in_container items p)
          ∙ ap (page.Cons (page.ItemList (list_number items) (is_loose items) (page_blocks_with (read_blocks r in_container items)))) q
      read_block-with s (tree.Ending ending) others' others p q = ap (cons_ending (if_ending_with e ending)) q ∙ cons_ending-with ending others
      read_block-with s (tree.Blank ending) others' others p q = ap (cons_blank (if_ending_with e ending)) q ∙ cons_blank-with ending others

      pub read_blocks-with : (s : Standing) (bs : tree.Blocks) → BlocksFit bs → read_blocks r s (blocks_with e bs) ≡ page_blocks_with (read_blocks r s bs)
      read_blocks-with s tree.Nil p = refl
      read_blocks-with s (tree.Cons b bs) p =
          ap (λ t. read_block r s (block_with e b) (read_blocks r (record { top = s.top; first = s.first && t }) (blocks_with e bs))) (is_ending-with e b)
          ∙ read_block-with s b (read_blocks r (next_standing s b) (blocks_with e bs)) (read_blocks r (next_standing s b) bs) p.0
          (read_blocks-with (next_standing s b) bs p.1)

    read_leaf_fits : (s : Standing) (leaf : tree.LeafBlock) → LeafBlockFits leaf → PageLeafFits (read_leaf r s leaf)
    read_leaf_fits s (tree.Paragraph ls) p = paragraph_fits s.first ls p
    read_leaf_fits s (tree.Heading rank ls) p = text_fits ls p
    read_leaf_fits s (tree.FencedCode info is_closed ls) p = (info_fits info p.0, code_lines_fit s.top is_closed ls p.1)
    read_leaf_fits s (tree.Table ls) p = table_fits ls p
    read_leaf_fits s (tree.Definition ls label destination title) p = tt
    read_leaf_fits s leaf p = p

    mutual
      read_block_fits : (s : Standing) (b : tree.Block) (others : page.Blocks) → BlockFits b → PageFits others → PageFits (read_block r s b others)
      read_block_fits s (tree.Leaf leaf) others p q = (read_leaf_fits s leaf p, after_leaf_fits s.top leaf others q)
      read_block_fits s (tree.Holds c kids) others p q = (read_blocks_fit (standing_in c) kids p, q)
      read_block_fits s (tree.Items items) others p q = (read_blocks_fit in_container items p, q)
      read_block_fits s (tree.Ending ending) others p q = cons_ending_fits ending others p q
      read_block_fits s (tree.Blank ending) others p q = cons_blank_fits ending others p q

      pub read_blocks_fit : (s : Standing) (bs : tree.Blocks) → BlocksFit bs → PageFits (read_blocks r s bs)
      read_blocks_fit s tree.Nil p = tt
      read_blocks_fit s (tree.Cons b bs) p = read_block_fits s b (read_blocks r (next_standing s b) bs) p.0 (read_blocks_fit (next_standing s b) bs p.1)

  -- ---- whether the end is blank

  is_blank_ending-with : (b : tree.Block) → is_blank_ending (block_with e b) ≡ is_blank_ending b
  is_blank_ending-with (tree.Blank None) = refl
  is_blank_ending-with (tree.Blank (Some ending)) = refl
  is_blank_ending-with b = refl

  pub ends_blank-with : (before : Bool) (bs : tree.Blocks) → ends_blank before (blocks_with e bs) ≡ ends_blank before bs
  ends_blank-with before tree.Nil = refl
  ends_blank-with before (tree.Cons b bs) =
      ap (λ blank. ends_blank blank (blocks_with e bs)) (is_blank_ending-with b) ∙ ends_blank-with (is_blank_ending b) bs
