-- If each block that is read is good among good ones, so are all blocks of a page.
use Rattle.std.proofs.Common.{ℕ, Bool, not, ◌&&◌, Option, None, Some}
use Rattle.std.proofs.lemmas.Bool.{cond_both}
use Rattle.markdown_options.specs.declared.line_ending.LineEnding.{LineEnding}
use Rattle.definition_block.specs.Container.{Container}
use Rattle.definition_block.specs.Blocks as tree
use Rattle.definition_block.specs.Lists.{is_loose}
use Rattle.definition_page.specs.Page.{Leaf, Holds, ItemList, Ending, Blank, Blocks, Nil, Cons, cons_ending, cons_blank}
use Rattle.definition_page.specs.Read.{Reading, Standing, in_container, next_standing, list_number, without_ending, after_leaf, read_leaf, read_container}
use Rattle.definition_page.specs.Read.{standing_in, read_block, read_blocks}

module _ (r : Reading) (Good : Blocks → Type 0) (There : tree.Blocks → Type 0) where
  -- what is good of the blocks of a page, where these blocks are there in a text
  pub record Reads : Type 0 where
    pub none : Good Nil
    pub ending : (ending : LineEnding) (bs : Blocks) → Good bs → Good (Cons (Ending ending) bs)
    pub blank : (ending : LineEnding) (bs : Blocks) → Good bs → Good (Cons (Blank ending) bs)
    -- without an ending that stands first
    pub after : (ending : LineEnding) (bs : Blocks) → Good (Cons (Ending ending) bs) → Good bs
    pub others : (b : tree.Block) (bs : tree.Blocks) → There (tree.Cons b bs) → There bs
    pub leaf : (s : Standing) (leaf : tree.LeafBlock) (bs : tree.Blocks) (shown : Blocks) → There (tree.Cons (tree.Leaf leaf) bs) → Good shown
        → Good (Cons (Leaf (read_leaf r s leaf)) shown)
    pub inside : (c : Container) (kids bs : tree.Blocks) → There (tree.Cons (tree.Holds c kids) bs) → There kids
    pub container : (c : Container) (kids bs : tree.Blocks) (held shown : Blocks) → There (tree.Cons (tree.Holds c kids) bs) → Good held → Good shown
        → Good (Cons (Holds (read_container c) held) shown)
    pub listed : (items bs : tree.Blocks) → There (tree.Cons (tree.Items items) bs) → There items
    pub list : (number : Option ℕ) (loose : Bool) (held shown : Blocks) → Good held → Good shown → Good (Cons (ItemList number loose held) shown)

  module _ (reads : Reads) where
    without_good : (bs : Blocks) → Good bs → Good (without_ending bs)
    without_good (Cons (Ending ending) bs) p = reads.after ending bs p
    without_good bs p = p

    after_good : (top : Bool) (leaf : tree.LeafBlock) (bs : Blocks) → Good bs → Good (after_leaf top leaf bs)
    after_good top (tree.FencedCode info is_closed ls) bs p = cond_both (top && not is_closed) _ _ Good (λ _. without_good bs p) (λ _. p)
    after_good top leaf bs p = p

    ending_good : (ending : Option LineEnding) (bs : Blocks) → Good bs → Good (cons_ending ending bs)
    ending_good None bs p = p
    ending_good (Some ending) bs p = reads.ending ending bs p

    blank_good : (ending : Option LineEnding) (bs : Blocks) → Good bs → Good (cons_blank ending bs)
    blank_good None bs p = p
    blank_good (Some ending) bs p = reads.blank ending bs p

    mutual
      block_read : (s : Standing) (b : tree.Block) (bs : tree.Blocks) (shown : Blocks) → There (tree.Cons b bs) → Good shown
          → Good (read_block r s b shown)
      block_read s (tree.Leaf leaf) bs shown h p = reads.leaf s leaf bs (after_leaf s.top leaf shown) h (after_good s.top leaf shown p)
      block_read s (tree.Holds c kids) bs shown h p =
          reads.container c kids bs (read_blocks r (standing_in c) kids) shown h (blocks_read (standing_in c) kids (reads.inside c kids bs h)) p
      block_read s (tree.Items items) bs shown h p =
          reads.list (list_number items) (is_loose items) (read_blocks r in_container items) shown
          (blocks_read in_container items (reads.listed items bs h)) p
      block_read s (tree.Ending ending) bs shown h p = ending_good ending shown p
      block_read s (tree.Blank ending) bs shown h p = blank_good ending shown p

      pub blocks_read : (s : Standing) (bs : tree.Blocks) → There bs → Good (read_blocks r s bs)
      blocks_read s tree.Nil h = reads.none
      blocks_read s (tree.Cons b bs) h =
          block_read s b bs (read_blocks r (next_standing s b) bs) h (blocks_read (next_standing s b) bs (reads.others b bs h))
