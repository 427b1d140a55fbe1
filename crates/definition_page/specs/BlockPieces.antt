-- What the blocks of a page print (CommonMark 4 and 5).
use Rattle.std.specs.Prelude.{ℕ, ◌+◌, Bool, true, false, if◌then◌else◌, ◌==◌, ◌&&◌, ◌||◌, not, List, [], ◌∷◌, ◌++◌, Option, None, Some, codes, map}
use Rattle.std.specs.List.{flat_map}
use Rattle.markdown_compile_options.specs.declared.configuration.CompileOptions.{CompileOptions}
use Rattle.markdown_options.specs.LineEndings.{ending_bytes}
use Rattle.definition_text.specs.BlockLines.{BlockLine}
use Rattle.definition_text.specs.Lines.{ending_text}
use Rattle.definition_text.specs.Columns.{code_byte, bytes_of}
use Rattle.definition_inline.specs.Inline.{Inlines}
use Rattle.definition_page.specs.Tags.{PrintedPart, Words, Number, Attribute, attribute, Tag, tag, bare_tag}
use Rattle.definition_page.specs.Pieces.{Piece, Open, Close, Void, Says, Eol, Fresh, Named, NoteStart, NoteEnd}
use Rattle.definition_page.specs.InlinePieces.{Meaning, raw_html, element, inline_pieces}
use Rattle.definition_page.specs.HeadingText.{heading_text}
use Rattle.definition_page.specs.HeadingIds.{with_ids}
use Rattle.definition_page.specs.GfmTable.{table_pieces}
use Rattle.definition_page.specs.Page.{Page, PageLeaf, Paragraph, Heading, Break, IndentedCode, FencedCode, Html, Table, Definition}
use Rattle.definition_page.specs.Page.{PageContainer, Quote, Item, Footnote, Block, Leaf, Holds, ItemList, Ending, Blank, Blocks, Nil, Cons}

-- where a block stands: at the top of the document or in a container, and whether in an item of a tight list, whose paragraphs have no tags (CommonMark 5.3)
pub record Place : Type 0 where
  pub top : Bool
  pub tight : Bool

abbrev pub at_top : Place
at_top = record { top = true; tight = false }

abbrev pub inside : Bool → Place
inside tight = record { top = false; tight = tight }

-- ---- lines

-- a line of code with its ending; the columns that are left of a tab are spaces
abbrev pub code_line : BlockLine → List PrintedPart
code_line line = Words (map code_byte line.codes) ∷ Words (ending_text line.ending) ∷ []

-- a line of HTML with its ending; the columns that are left of a tab aren't printed
abbrev pub html_line : CompileOptions → BlockLine → List PrintedPart
html_line options line = raw_html false options (bytes_of line.codes) ∷ Words (ending_text line.ending) ∷ []

abbrev pub says : List PrintedPart → List Piece
says parts = map Says parts

-- ---- tags

-- `h1` to `h6`, where 48 is the digit 0
abbrev pub heading_name : ℕ → List ℕ
heading_name rank = codes "h" ++ (48 + rank) ∷ []

-- the start of a heading: where headings have ids, it is named by what the heading says
abbrev pub heading_start : Meaning → ℕ → Inlines → Piece
heading_start m rank is =
    if m.compile.heading_ids then Named (bare_tag (heading_name rank)) (heading_text is) else Open (bare_tag (heading_name rank))

-- the class of fenced code with an info (CommonMark 4.5)
abbrev pub info_attributes : Option (List ℕ) → List Attribute
info_attributes None = []
info_attributes (Some info) = attribute (codes "class") (codes "language-" ++ info) ∷ []

-- the start of an ordered list, unless it is 1 (CommonMark 5.3)
abbrev pub start_attributes : ℕ → List Attribute
start_attributes number = if number == 1 then [] else record { name = codes "start"; value = Number number ∷ [] } ∷ []

abbrev pub list_tag : Option ℕ → Tag
list_tag None = bare_tag (codes "ul")
list_tag (Some number) = tag (codes "ol") (start_attributes number)

-- ---- siblings

abbrev pub is_paragraph : PageLeaf → Bool
is_paragraph (Paragraph is) = true
is_paragraph leaf = false

abbrev pub is_definition : PageLeaf → Bool
is_definition Definition = true
is_definition leaf = false

abbrev pub is_footnote : PageContainer → Bool
is_footnote (Footnote label) = true
is_footnote c = false

-- whether an ending prints nothing, given the sibling right before: after a tight paragraph, and after a definition of a link or a footnote
abbrev pub is_silent : Place → Option Block → Bool
is_silent place (Some (Leaf leaf)) = (place.tight && is_paragraph leaf) || is_definition leaf
is_silent place (Some (Holds c kids)) = is_footnote c
is_silent place b = false

-- whether a block prints something of its own
abbrev pub is_visible : Block → Bool
is_visible (Leaf leaf) = not (is_definition leaf)
is_visible (Holds c kids) = not (is_footnote c)
is_visible (ItemList number loose items) = true
is_visible b = false

-- the last of these siblings that prints something of its own, or the one before them
abbrev pub last_visible : Option Block → Blocks → Option Block
last_visible before Nil = before
last_visible before (Cons b bs) = last_visible (if is_visible b then Some b else before) bs

-- an item whose last child is a tight paragraph, or that has none, ends on the same line
abbrev pub ends_plainly : Bool → Option Block → Bool
ends_plainly tight None = true
ends_plainly tight (Some (Leaf leaf)) = tight && is_paragraph leaf
ends_plainly tight (Some b) = false

abbrev pub fresh_unless : Bool → List Piece
fresh_unless said = if said then [] else Fresh ∷ []

-- the lines of fenced code; where it isn't closed, the default ending is printed in a container for that of its last line, which stands outside
abbrev pub fenced_pieces : Place → Bool → List BlockLine → List Piece
fenced_pieces place is_closed [] = []
fenced_pieces place is_closed (line ∷ others) =
    says (flat_map code_line (line ∷ others)) ++ (if place.top || is_closed then [] else Eol ∷ []) ++ Fresh ∷ []

-- ---- blocks

-- a leaf (CommonMark 4)
abbrev pub leaf_block_pieces : Meaning → Place → PageLeaf → List Piece
leaf_block_pieces m place (Paragraph is) =
    if place.tight then inline_pieces m is else Fresh ∷ element (bare_tag (codes "p")) (inline_pieces m is)
leaf_block_pieces m place (Heading rank is) = Fresh ∷ heading_start m rank is ∷ inline_pieces m is ++ Close (heading_name rank) ∷ []
leaf_block_pieces m place Break = Fresh ∷ Void (bare_tag (codes "hr")) ∷ []
leaf_block_pieces m place (IndentedCode ls) =
    Fresh ∷ element (bare_tag (codes "pre")) (element (bare_tag (codes "code")) (says (flat_map code_line ls) ++ Fresh ∷ []))
leaf_block_pieces m place (FencedCode info is_closed ls) =
    Fresh ∷ element (bare_tag (codes "pre")) (element (tag (codes "code") (info_attributes info)) (fenced_pieces place is_closed ls))
    ++ fresh_unless is_closed
leaf_block_pieces m place (Html ls) = Fresh ∷ says (flat_map (html_line m.compile) ls)
leaf_block_pieces m place (Table t) = table_pieces m t
leaf_block_pieces m place Definition = []

abbrev mutual
  -- a block, or the ending of a line, after this sibling
  pub block_pieces : Meaning → Place → Option Block → Block → List Piece
  block_pieces m place before (Leaf leaf) = leaf_block_pieces m place leaf
  block_pieces m place before (Holds Quote kids) =
      Fresh ∷ element (bare_tag (codes "blockquote")) (children_pieces m (inside false) None kids ++ Fresh ∷ [])
  block_pieces m place before (Holds Item kids) =
      Fresh ∷ element (bare_tag (codes "li"))
      (children_pieces m (inside place.tight) None kids ++ fresh_unless (ends_plainly place.tight (last_visible None kids)))
  block_pieces m place before (Holds (Footnote label) kids) = NoteStart ∷ children_pieces m (inside false) None kids ++ NoteEnd ∷ []
  block_pieces m place before (ItemList number loose items) =
      Fresh ∷ element (list_tag number) (children_pieces m (inside (not loose)) None items ++ Eol ∷ [])
  block_pieces m place before (Ending ending) = if is_silent place before then [] else Says (Words (ending_bytes ending)) ∷ []
  block_pieces m place before (Blank ending) = []

  -- siblings, one after another, after this one
  pub children_pieces : Meaning → Place → Option Block → Blocks → List Piece
  children_pieces m place before Nil = []
  children_pieces m place before (Cons b bs) = block_pieces m place before b ++ children_pieces m place (Some b) bs

-- the blocks of a document, its headings with their ids; the ending of a blank line asks for a fresh line where it is the very last
abbrev pub document_pieces : Meaning → Page → List Piece
document_pieces m page = with_ids m.compile [] (children_pieces m at_top None page.blocks ++ fresh_unless (not page.ends_blank))
