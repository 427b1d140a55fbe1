-- Where task list items are off, blocks are read in an item as in any container.
use Rattle.std.proofs.Common.{◌≡◌, Bool, false, ◌&&◌, List, refl, ap, ◌∙◌}
use Rattle.definition_text.specs.BlockLines.{BlockLine}
use Rattle.definition_text.specs.InlineCode.{codes_of}
use Rattle.definition_inline.specs.Scan.{without_indent}
use Rattle.definition_block.specs.Blocks as tree
use Rattle.definition_block.specs.Tree.{is_ending}
use Rattle.definition_page.specs.Page as page
use Rattle.definition_page.specs.Read.{Reading, Standing, in_container, text_content, checked_text, read_paragraph, after_leaf, read_leaf, read_block}
use Rattle.definition_page.specs.Read.{read_blocks}
use Rattle.laws_options.proofs.GfmTaskListItem.{no_check}

-- in a container, as the first block of an item or not
abbrev standing_by : Bool → Standing
standing_by first = record { top = false; first = first }

module _ (r : Reading) (off : r.parse.constructs.gfm_task_list_item ≡ false) where
  same_paragraph : (first : Bool) (ls : List BlockLine) → read_paragraph r first ls ≡ read_paragraph r false ls
  same_paragraph first ls =
      let content = without_indent (text_content r ls) in ap (checked_text r content) (no_check r off first (codes_of content))

  same_leaf : (first : Bool) (leaf : tree.LeafBlock) → read_leaf r (standing_by first) leaf ≡ read_leaf r in_container leaf
  same_leaf first (tree.Paragraph ls) = ap page.Paragraph (same_paragraph first ls)
  same_leaf first leaf = refl

  same_block : (first : Bool) (b : tree.Block) (others : page.Blocks) → read_block r (standing_by first) b others ≡ read_block r in_container b others
  same_block first (tree.Leaf leaf) others = ap (λ x. page.Cons (page.Leaf x) (after_leaf false leaf others)) (same_leaf first leaf)
  same_block first b others = refl

  pub read_in_item : (first : Bool) (bs : tree.Blocks) → read_blocks r (standing_by first) bs ≡ read_blocks r in_container bs
  read_in_item first tree.Nil = refl
  read_in_item first (tree.Cons b bs) =
      ap (read_block r (standing_by first) b) (read_in_item (first && is_ending b) bs) ∙ same_block first b (read_blocks r in_container bs)
