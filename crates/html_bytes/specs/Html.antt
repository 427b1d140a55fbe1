-- The HTML of a text, in bytes.
use Rattle.std.specs.Prelude.{ℕ, Bool, true, false, if◌then◌else◌, ◌==◌, ◌&&◌, not, List, [], ◌∷◌, ◌++◌, Option, None, Some, unwrap_or, codes}
use Rattle.std.specs.Fmt.{decimal}
use Rattle.markdown_options.specs.declared.line_ending.LineEnding.{LineEnding}
use Rattle.markdown_compile_options.specs.declared.configuration.Options.{Options}
use Rattle.markdown_options.specs.declared.beside.Kind.{Kind}
use Rattle.markdown_options.specs.LineEndings.{ending_bytes}
use Rattle.definition_text.specs.Lines.{ending_text, first_line}
use Rattle.definition_block.specs.Container.{Quote, Item, Footnote}
use Rattle.definition_block.specs.Tree.{LeafBlock, Paragraph, FencedCode, Definition, Block, Leaf, Holds, Items, Ending, Blank, Blocks, Nil, Cons, blocks}
use Rattle.definition_block.specs.Lists.{group_items, is_loose}
use Rattle.definition_block.specs.Definitions.{document_targets}
use Rattle.definition_page.specs.TextTables.{TextTables}
use Rattle.definition_page.specs.BlockPieces.{Place, leaf_block_pieces}
use Rattle.definition_page.specs.Read.{Standing, on_page, in_container, in_item, next_standing, list_number, ends_blank, read_leaf}
use Rattle.html_bytes.specs.Document.{Document, document, reading_of, document_meaning}
use Rattle.html_bytes.specs.Pieces.{Piece, Bytes, Eol, Fresh, NoteStart, NoteEnd, in_bytes}
use Rattle.html_bytes.specs.Layout.{page_layout}

-- ---- tags

-- the start of an ordered list, unless it is 1
abbrev pub start_of : ℕ → List ℕ
start_of number = if number == 1 then [] else (codes " start=\"" ++ decimal number ++ codes "\"")

abbrev pub number_tag : Option ℕ → List ℕ
number_tag None = codes "<ul>"
number_tag (Some number) = codes "<ol" ++ start_of number ++ codes ">"

abbrev pub number_end : Option ℕ → List ℕ
number_end None = codes "</ul>"
number_end (Some number) = codes "</ol>"

-- ---- leaves

-- the place on a page of a block that stands here, of a tight item or not
abbrev pub place_in : Standing → Bool → Place
place_in standing tight = record { top = standing.top; tight = tight }

-- the definition's pieces of a leaf that stands here, of a tight item or not
abbrev pub leaf_bytes : Document → Standing → Bool → LeafBlock → List Piece
leaf_bytes d standing tight leaf =
    in_bytes (leaf_block_pieces (document_meaning d) (place_in standing tight) (read_leaf (reading_of d) standing leaf))

-- ---- siblings

abbrev pub fresh_unless : Bool → List Piece
fresh_unless said = if said then [] else Fresh ∷ []

-- whether the ending after this child prints nothing: after a tight paragraph, after fenced code at the top that isn't closed, and after a definition of a link
-- or a footnote; an ending that isn't there changes nothing
abbrev pub silences : Bool → Bool → Bool → Block → Bool
silences top tight silent (Leaf (Paragraph ls)) = tight
silences top tight silent (Leaf (FencedCode info closed ls)) = top && not closed
silences top tight silent (Leaf (Definition ls label destination title)) = true
silences top tight silent (Holds (Footnote label) kids) = true
silences top tight silent (Ending None) = silent
silences top tight silent (Blank None) = silent
silences top tight silent b = false

-- whether the last block of an item that prints anything, if it has one, is a tight paragraph, after one more child; `before` says it of those before
abbrev pub plain_after : Bool → Bool → Block → Bool
plain_after tight before (Leaf (Paragraph ls)) = tight
plain_after tight before (Leaf (Definition ls label destination title)) = before
plain_after tight before (Leaf leaf) = false
plain_after tight before (Holds (Footnote label) kids) = before
plain_after tight before (Holds c kids) = false
plain_after tight before (Items items) = false
plain_after tight before (Ending ending) = before
plain_after tight before (Blank ending) = before

-- the same after more of them
abbrev pub ends_tight : Bool → Bool → Blocks → Bool
ends_tight tight before Nil = before
ends_tight tight before (Cons b bs) = ends_tight tight (plain_after tight before b) bs

-- ---- blocks

abbrev mutual
  -- a child that stands here, of a tight item or not, after a child that silences an ending or not
  pub block_bytes : Document → Standing → Bool → Bool → Block → List Piece
  block_bytes d standing tight silent (Leaf leaf) = leaf_bytes d standing tight leaf
  block_bytes d standing tight silent (Holds Quote kids) =
      Fresh ∷ Bytes (codes "<blockquote>") ∷ children_bytes d in_container false false kids ++ Fresh ∷ Bytes (codes "</blockquote>") ∷ []
  block_bytes d standing tight silent (Holds (Item item) kids) =
      Fresh ∷ Bytes (codes "<li>") ∷ children_bytes d in_item tight false kids ++ fresh_unless (ends_tight tight true kids) ++ Bytes (codes "</li>") ∷ []
  block_bytes d standing tight silent (Holds (Footnote label) kids) = NoteStart ∷ children_bytes d in_container false false kids ++ NoteEnd ∷ []
  block_bytes d standing tight silent (Items items) =
      Fresh ∷ Bytes (number_tag (list_number items)) ∷ children_bytes d in_container (not (is_loose items)) false items
      ++ Eol ∷ Bytes (number_end (list_number items)) ∷ []
  block_bytes d standing tight silent (Ending ending) = if silent then [] else Bytes (ending_text ending) ∷ []
  block_bytes d standing tight silent (Blank ending) = []

  pub children_bytes : Document → Standing → Bool → Bool → Blocks → List Piece
  children_bytes d standing tight silent Nil = []
  children_bytes d standing tight silent (Cons b bs) =
      block_bytes d standing tight silent b ++ children_bytes d (next_standing standing b) tight (silences standing.top tight silent b) bs

-- the ending of a blank line asks for a fresh line where it is the very last
abbrev pub last_piece : Bool → List Piece
last_piece blank = if blank then Fresh ∷ [] else []

abbrev pub document_bytes : Document → Blocks → List Piece
document_bytes d bs = children_bytes d on_page false false (group_items bs) ++ last_piece (ends_blank false bs)

-- ---- the whole

-- the text's first ending, or the one of the options
abbrev pub text_ending : Options → List ℕ → LineEnding
text_ending options text = unwrap_or (first_line text).ending options.compile.default_line_ending

-- the HTML of blocks, by all definitions among them
abbrev pub blocks_html : TextTables → Options → LineEnding → Blocks → List ℕ
blocks_html tables options ending bs =
    page_layout options.compile (ending_bytes ending) (document_bytes (document options tables (document_targets bs)) bs)

-- the HTML of a text without a byte order mark, after a character of this kind
abbrev pub marked_html : TextTables → Kind → List ℕ → Options → List ℕ
marked_html tables before text options = blocks_html tables options (text_ending options text) (blocks options.parse.constructs before text)
