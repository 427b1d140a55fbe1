-- Every text is read to a page whose headings have the ranks 1 to 6, and the codes of whose line endings are those.
use Rattle.std.proofs.Common.{ℕ, Bool, List, [], ◌∷◌, Option, None, Some, drop, map}
use Rattle.markdown_options.specs.declared.configuration.ParseOptions.{ParseOptions}
use Rattle.definition_text.specs.BlockLines.{BlockLine}
use Rattle.definition_text.specs.Columns.{code_byte}
use Rattle.definition_text.specs.InlineCode.{InlineCode, codes_of, with_kinds}
use Rattle.definition_text.specs.Lines.{without_mark, kind_before_text}
use Rattle.definition_inline.specs.Inline.{InlineLeaf, LineEnd, Inline, Leaf, Span, Linked, Call, Inlines, Nil, Cons}
use Rattle.definition_inline.specs.GfmTaskListItem.{check_at, check_size}
use Rattle.definition_inline.specs.Scan.{without_indent}
use Rattle.definition_block.specs.Tree as tree
use Rattle.definition_block.specs.Tree.{blocks}
use Rattle.definition_block.specs.Lists.{group_items}
use Rattle.definition_block.specs.GfmTable.{Cell, line_cells}
use Rattle.definition_block.proofs.ListReads.{grouped_good}
use Rattle.definition_page.specs.GfmTable.{head_line, body_lines, leaf_in_cell, part_in_cell, in_cell}
use Rattle.definition_page.specs.Read.{Reading, Standing, on_page, context_of, text_content, read_text, checked_text}
use Rattle.definition_page.specs.Read.{read_paragraph, read_cell, read_row, read_leaf, read}
use Rattle.definition_page.specs.TextTables.{TextTables}
use Rattle.definition_page.proofs.PageReads.{Reads, blocks_read}
use Rattle.laws_safe_page.proofs.BlockAdds.{CellsEndLines, RowsEndLines, IsReadableLeaf, AreReadable}
use Rattle.laws_safe_page.proofs.BlockReads.{ranks, IsRankedLeaf, AreRanked, blocks_are_ranked}
use Rattle.laws_safe_page.proofs.InlineAdds.{LeafEndsLine, EndsLines, AllEndLines}
use Rattle.laws_safe_page.proofs.InlineReads.{from_ends, inlines_end}

-- ---- from the blocks of a text to those of a page

-- inline structure as it stands in a cell
leaf_in_cell_ends : (part : InlineLeaf) → LeafEndsLine part → LeafEndsLine (leaf_in_cell part)
leaf_in_cell_ends (LineEnd code) h = h
leaf_in_cell_ends part h = tt

mutual
  part_in_cell_ends : (i : Inline) → EndsLines i → EndsLines (part_in_cell i)
  part_in_cell_ends (Leaf part) h = leaf_in_cell_ends part h
  part_in_cell_ends (Span kind kids) h = (tt, in_cell_ends kids h.1)
  part_in_cell_ends (Linked kind target kids) h = (tt, in_cell_ends kids h.1)
  part_in_cell_ends (Call label) h = tt

  pub in_cell_ends : (is : Inlines) → AllEndLines is → AllEndLines (in_cell is)
  in_cell_ends Nil h = tt
  in_cell_ends (Cons i is) h = (part_in_cell_ends i h.0, in_cell_ends is h.1)

module _ (r : Reading) where
  text_ends : (ls : List BlockLine) → AllEndLines (read_text r ls)
  text_ends ls = inlines_end (context_of r) (text_content r ls)

  checked_ends : (content : List InlineCode) (found : Option Bool) → AllEndLines (checked_text r content found)
  checked_ends content None = from_ends (context_of r) content
  checked_ends content (Some done) = (tt, from_ends (context_of r) (drop check_size content))

  paragraph_ends : (first : Bool) (ls : List BlockLine) → AllEndLines (read_paragraph r first ls)
  paragraph_ends first ls =
      let content = without_indent (text_content r ls) in checked_ends content (check_at r.parse.constructs first (codes_of content))

  row_readable : (cells : List Cell) → CellsEndLines (map (read_cell r) cells)
  row_readable [] = tt
  row_readable (c ∷ cs) =
      (in_cell_ends _ (inlines_end (context_of r) (with_kinds r.tables.is_punctuation None c.before c.after (map code_byte c.codes))), row_readable cs)

  rows_readable : (ls : List BlockLine) → RowsEndLines (map (read_row r) ls)
  rows_readable [] = tt
  rows_readable (line ∷ ls) = (row_readable (line_cells line), rows_readable ls)

  readable_leaf : (s : Standing) (leaf : tree.LeafBlock) → IsRankedLeaf leaf → IsReadableLeaf (read_leaf r s leaf)
  readable_leaf s (tree.Paragraph ls) h = paragraph_ends s.first ls
  readable_leaf s (tree.Heading rank ls) h = (h, text_ends ls)
  readable_leaf s (tree.Table ls) h = (row_readable (line_cells (head_line ls)), rows_readable (body_lines ls))
  readable_leaf s leaf h = tt

  readable : Reads r AreReadable AreRanked
  readable =
      record {
        none = tt;
        ending = λ ending bs p. (tt, p);
        blank = λ ending bs p. (tt, p);
        after = λ ending bs p. p.1;
        others = λ b bs h. h.1;
        leaf = λ s leaf bs shown h p. (readable_leaf s leaf h.0, p);
        inside = λ c kids bs h. h.0;
        container = λ c kids bs held shown h q p. (q, p);
        listed = λ items bs h. h.0;
        list = λ number loose held shown q p. (q, p);
      }

pub page_is_readable : (tables : TextTables) (options : ParseOptions) (text : List ℕ) → AreReadable (read tables options text).blocks
page_is_readable tables options text =
    let on = options.constructs in
    let bs = blocks on (kind_before_text text) (without_mark text) in
    blocks_read _ _ _ (readable _) on_page (group_items bs) (grouped_good ranks bs (blocks_are_ranked on (kind_before_text text) (without_mark text)))
