-- From the lines of a text to a page (CommonMark appendix).
use Rattle.std.specs.Prelude.{ℕ, Bool, true, false, if◌then◌else◌, not, ◌&&◌, ◌||◌, List, [], ◌∷◌, Option, None, Some, drop, map}
use Rattle.markdown_options.specs.declared.configuration.ParseOptions.{ParseOptions}
use Rattle.markdown_options.specs.declared.line_ending.LineEnding.{LineEnding}
use Rattle.markdown_options.specs.declared.beside.Kind.{Kind}
use Rattle.markdown_options.specs.declared.beside.Kind.TheVariants.{Whitespace}
use Rattle.definition_text.specs.BlockLines.{BlockLine, own_lines}
use Rattle.definition_text.specs.Columns.{Code, code_byte}
use Rattle.definition_text.specs.InlineCode.{InlineCode, codes_of, inline_content, with_kinds}
use Rattle.definition_text.specs.Lines.{without_mark, kind_before_text}
use Rattle.definition_inline.specs.Inline.{Leaf, TaskCheck, Inlines, Cons}
use Rattle.definition_inline.specs.GfmTaskListItem.{check_at, check_size}
use Rattle.definition_inline.specs.Scan.{InlineContext, inlines, inlines_from, without_indent}
use Rattle.definition_inline.specs.Strings.{string_text}
use Rattle.definition_block.specs.Container.{Container, Quote, Item, Footnote}
use Rattle.definition_block.specs.Blocks as tree
use Rattle.definition_block.specs.Tree.{is_ending, blocks}
use Rattle.definition_block.specs.Lists.{group_items, is_loose}
use Rattle.definition_block.specs.GfmTable.{Cell, line_cells}
use Rattle.definition_page.specs.GfmTable.{Table, TableRow, head_line, delimiter_line, body_lines, line_aligns, in_cell}
use Rattle.definition_inline.specs.Targets.{Targets, is_label_of, is_footnote_of}
use Rattle.definition_block.specs.Definitions.{document_targets}
use Rattle.definition_page.specs.TextTables.{TextTables}
use Rattle.definition_page.specs.Page as page
use Rattle.definition_page.specs.Page.{Page, cons_ending, cons_blank}

-- what a text is read by: the options, the tables, and which labels are those of link reference definitions and of footnote definitions
pub record Reading : Type 0 where
  pub parse : ParseOptions
  pub tables : TextTables
  pub is_defined : List Code → Bool
  pub is_footnote : List Code → Bool

abbrev pub reading : TextTables → ParseOptions → Targets → Reading
reading tables options t =
    record { parse = options; tables = tables; is_defined = is_label_of t.definitions; is_footnote = is_footnote_of t.footnotes }

-- where a block stands: at the top of the document or in a container, and whether in an item with no block before it
pub record Standing : Type 0 where
  pub top : Bool
  pub first : Bool

abbrev pub on_page : Standing
on_page = record { top = true; first = false }

abbrev pub in_container : Standing
in_container = record { top = false; first = false }

abbrev pub in_item : Standing
in_item = record { top = false; first = true }

-- where the next block stands
abbrev pub next_standing : Standing → tree.Block → Standing
next_standing standing b = record { top = standing.top; first = standing.first && is_ending b }

-- what inline structure is read by
abbrev pub context_of : Reading → InlineContext
context_of r = record { options = r.parse; names = r.tables.names; is_defined = r.is_defined; is_footnote = r.is_footnote }

-- the content of a paragraph or a heading, which ends where a line does (CommonMark 4.8)
abbrev pub text_content : Reading → List BlockLine → List InlineCode
text_content r ls = inline_content r.tables.is_punctuation Whitespace ls

-- the inline structure of a heading
abbrev pub read_text : Reading → List BlockLine → Inlines
read_text r ls = inlines (context_of r) (text_content r ls)

-- the inline structure of a paragraph whose content has this check: first the check, and then that of the content after it (GFM 5.3)
abbrev pub checked_text : Reading → List InlineCode → Option Bool → Inlines
checked_text r content None = inlines_from (context_of r) content
checked_text r content (Some done) = Cons (Leaf (TaskCheck done)) (inlines_from (context_of r) (drop check_size content))

-- a paragraph, which may be the first block of an item (CommonMark 4.8 and GFM 5.3)
abbrev pub read_paragraph : Reading → Bool → List BlockLine → Inlines
read_paragraph r first ls =
    let content = without_indent (text_content r ls) in checked_text r content (check_at r.parse.constructs first (codes_of content))

-- that of a cell of a table, which ends where its bar stands (GFM 4.10)
abbrev pub read_cell : Reading → Cell → Inlines
read_cell r c =
    in_cell (inlines (context_of r) (with_kinds r.tables.is_punctuation None c.before c.after (map code_byte c.codes)))

-- the ending of a line, if it has one
abbrev pub ending_list : Option LineEnding → List LineEnding
ending_list None = []
ending_list (Some ending) = ending ∷ []

-- a row of a table (GFM 4.10)
abbrev pub read_row : Reading → BlockLine → TableRow
read_row r line = record { cells = map (read_cell r) (line_cells line); endings = ending_list line.ending }

-- a table of its lines (GFM 4.10)
abbrev pub read_table : Reading → List BlockLine → Table
read_table r ls =
    record {
      aligns = line_aligns (delimiter_line ls);
      head = read_row r (head_line ls);
      endings = ending_list (delimiter_line ls).ending;
      rows = map (read_row r) (body_lines ls);
    }

-- the text of an info string, if there is one (CommonMark 4.5)
abbrev pub info_text : Reading → List ℕ → Option (List ℕ)
info_text r [] = None
info_text r (b ∷ bs) = Some (string_text r.parse.constructs r.tables.names (b ∷ bs))

-- Fenced code that isn't closed ends with its container or the text. In a container the ending of its last line stands outside; at the top it is one of its
-- content, and is said there alone (CommonMark 4.5).
abbrev pub code_lines : Bool → Bool → List BlockLine → List BlockLine
code_lines top is_closed ls = if top || is_closed then ls else own_lines ls

-- blocks without the ending that they begin with
abbrev pub without_ending : page.Blocks → page.Blocks
without_ending (page.Cons (page.Ending ending) bs) = bs
without_ending bs = bs

-- what follows a leaf, where it stands at the top or doesn't
abbrev pub after_leaf : Bool → tree.LeafBlock → page.Blocks → page.Blocks
after_leaf top (tree.FencedCode info is_closed ls) others = if top && not is_closed then without_ending others else others
after_leaf top leaf others = others

-- a leaf that stands here
abbrev pub read_leaf : Reading → Standing → tree.LeafBlock → page.PageLeaf
read_leaf r standing (tree.Paragraph ls) = page.Paragraph (read_paragraph r standing.first ls)
read_leaf r standing (tree.Heading rank ls) = page.Heading rank (read_text r ls)
read_leaf r standing tree.Break = page.Break
read_leaf r standing (tree.IndentedCode ls) = page.IndentedCode ls
read_leaf r standing (tree.FencedCode info is_closed ls) = page.FencedCode (info_text r info) is_closed (code_lines standing.top is_closed ls)
read_leaf r standing (tree.Html ls) = page.Html ls
read_leaf r standing (tree.Table ls) = page.Table (read_table r ls)
read_leaf r standing (tree.Definition ls label destination title) = page.Definition

abbrev pub read_container : Container → page.PageContainer
read_container Quote = page.Quote
read_container (Item item) = page.Item
read_container (Footnote label) = page.Footnote label

-- where the first child of a container stands
abbrev pub standing_in : Container → Standing
standing_in (Item item) = in_item
standing_in c = in_container

-- the number of an ordered item
abbrev pub container_number : Container → Option ℕ
container_number (Item item) = item.number
container_number c = None

-- the number of the first item of a list (CommonMark 5.3)
abbrev pub list_number : tree.Blocks → Option ℕ
list_number (tree.Cons (tree.Holds c kids) bs) = container_number c
list_number bs = None

abbrev mutual
  -- a block that stands here, before others
  pub read_block : Reading → Standing → tree.Block → page.Blocks → page.Blocks
  read_block r standing (tree.Leaf leaf) others = page.Cons (page.Leaf (read_leaf r standing leaf)) (after_leaf standing.top leaf others)
  read_block r standing (tree.Holds c kids) others = page.Cons (page.Holds (read_container c) (read_blocks r (standing_in c) kids)) others
  read_block r standing (tree.Items items) others = page.Cons (page.ItemList (list_number items) (is_loose items) (read_blocks r in_container items)) others
  read_block r standing (tree.Ending ending) others = cons_ending ending others
  read_block r standing (tree.Blank ending) others = cons_blank ending others

  pub read_blocks : Reading → Standing → tree.Blocks → page.Blocks
  read_blocks r standing tree.Nil = page.Nil
  read_blocks r standing (tree.Cons b bs) = read_block r standing b (read_blocks r (next_standing standing b) bs)

-- whether the last child is the ending of a blank line; `before` says it of the child before these
abbrev pub is_blank_ending : tree.Block → Bool
is_blank_ending (tree.Blank (Some ending)) = true
is_blank_ending b = false

abbrev pub ends_blank : Bool → tree.Blocks → Bool
ends_blank before tree.Nil = before
ends_blank before (tree.Cons b bs) = ends_blank (is_blank_ending b) bs

-- the page of these children of a document, whose labels lead to these targets
abbrev pub page_with : TextTables → ParseOptions → Targets → tree.Blocks → Page
page_with tables options t bs =
    record {
      blocks = read_blocks (reading tables options t) on_page (group_items bs);
      definitions = t.definitions;
      footnotes = t.footnotes;
      ends_blank = ends_blank false bs;
    }

-- the page of the children of a document: items are grouped to lists, and contents read by all of its definitions
abbrev pub page_of : TextTables → ParseOptions → tree.Blocks → Page
page_of tables options bs = page_with tables options (document_targets bs) bs

-- the page of a text without a byte order mark, after a character of this kind: its lines are folded to blocks
abbrev pub read_after : Kind → TextTables → ParseOptions → List ℕ → Page
read_after before tables options text = page_of tables options (blocks options.constructs before text)

-- the page of a text
abbrev pub read : TextTables → ParseOptions → List ℕ → Page
read tables options text = read_after (kind_before_text text) tables options (without_mark text)
