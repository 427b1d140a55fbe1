-- The block tree of a text, line by line (CommonMark 4, 5 and appendix, phase 1).
use Rattle.std.specs.Prelude.{ℕ, suc, zero, Bool, true, false, if◌then◌else◌, ◌&&◌, ◌||◌, ◌-◌, not, List, [], ◌∷◌, ◌++◌, Option, None, Some, unwrap_or, length, take, drop}
use Rattle.std.specs.Bool.{then_some}
use Rattle.std.specs.Option.{option_or, option_map, option_and_then}
use Rattle.markdown_options.specs.declared.line_ending.LineEnding.{LineEnding}
use Rattle.markdown_options.specs.declared.configuration.Constructs.{Constructs}
use Rattle.markdown_options.specs.declared.beside.Beside.{Beside}
use Rattle.markdown_options.specs.declared.beside.Kind.{Kind}
use Rattle.markdown_options.specs.declared.beside.Kind.TheVariants.{Whitespace}
use Rattle.definition_block.specs.Container.{Container, Quote, Item, Footnote}
use Rattle.definition_text.specs.Lines.{TextLine, lines}
pub use Rattle.definition_text.specs.BlockLines.{BlockLine, block_line, spaced_line, last_ending_or, last_ending, own_lines}
pub use Rattle.definition_block.specs.Blocks.{LeafBlock, Paragraph, Heading, Break, IndentedCode, FencedCode, Html, Table, Definition}
pub use Rattle.definition_block.specs.Blocks.{Block, Leaf, Holds, Items, Ending, Blank, Blocks, Nil, Cons, join, one, block_and_ending}
use Rattle.definition_text.specs.Columns.{Rest, whole, is_blank, block_codes}
use Rattle.definition_text.specs.Indents.{outdent}
use Rattle.definition_block.specs.ContainerLine.{ContainerLine}
use Rattle.definition_block.specs.ContainerStart.{ContainerStart}
use Rattle.definition_block.specs.Containers.{continues, starts}
use Rattle.definition_block.specs.CodeIndented.{starts_code_indented}
use Rattle.definition_block.specs.CodeFenced.{Fence, fence_start, is_fence_end, fence_line}
use Rattle.definition_block.specs.MathFlow.{math_start}
use Rattle.definition_block.specs.Frontmatter.{after_frontmatter}
use Rattle.definition_block.specs.HtmlFlow.{html_start, html_ends_here, ends_before_blank}
use Rattle.definition_block.specs.HeadingAtx.{Atx, heading_atx}
use Rattle.definition_block.specs.HeadingSetext.{underline}
use Rattle.definition_block.specs.ThematicBreak.{is_break}
use Rattle.definition_block.specs.Definitions.{DefinitionCut, definition_cut}
use Rattle.markdown_options.specs.declared.align_kind.AlignKind.{AlignKind}
use Rattle.definition_block.specs.GfmTable.{delimiter_row, is_head}

-- ---- what is open

-- A leaf block that is open: a paragraph with its lines, none where no leaf is open; indented code with its lines, and the blank lines after them, which may
-- turn out to be no part of it; fenced code with its fence, the ending of the fence's line, and its lines; an HTML block with its kind and its lines; a table
-- with its lines.
pub data OpenLeaf : Type 0 where
  Text : List BlockLine → OpenLeaf
  Indented : List BlockLine → List BlockLine → OpenLeaf
  Fenced : Fence → Option LineEnding → List BlockLine → OpenLeaf
  OpenHtml : ℕ → List BlockLine → OpenLeaf
  OpenTable : List BlockLine → OpenLeaf

-- what is open: a leaf, or a container with the children that it has so far, and what is open in it
pub data Opening : Type 0 where
  At : OpenLeaf → Opening
  Inside : Container → Blocks → Opening → Opening

-- the children that are finished, and what is open after them
pub record Tree : Type 0 where
  pub done : Blocks
  pub now : Opening

abbrev pub tree : Blocks → Opening → Tree
tree done now = record { done = done; now = now }

abbrev pub nothing : Opening
nothing = At (Text [])

abbrev pub empty_tree : Tree
empty_tree = tree Nil nothing

-- ---- closing

-- the endings of blank lines
abbrev pub blanks : List BlockLine → Blocks
blanks [] = Nil
blanks (line ∷ others) = Cons (Blank line.ending) (blanks others)

-- a paragraph of these lines, if there are any
abbrev pub paragraph_of : List BlockLine → Blocks
paragraph_of [] = Nil
paragraph_of (line ∷ others) = block_and_ending (Leaf (Paragraph (own_lines (line ∷ others)))) (last_ending (line ∷ others))

-- a paragraph after the definitions at its front, which are none of its lines (CommonMark 4.7)
abbrev pub with_paragraph : DefinitionCut → Blocks
with_paragraph parts = join parts.definitions (paragraph_of parts.left)

-- The children that are finished where this leaf is closed. Fenced code that is open here was never closed by a fence: it ends with its container or the text,
-- and has all lines after its fence (CommonMark 4.5).
abbrev pub close_leaf : Constructs → OpenLeaf → Blocks
close_leaf on (Text ls) = with_paragraph (definition_cut on ls)
close_leaf on (Indented ls pending) = join (block_and_ending (Leaf (IndentedCode (own_lines ls))) (last_ending ls)) (blanks pending)
close_leaf on (Fenced fence ending ls) = block_and_ending (Leaf (FencedCode fence.info false ls)) (last_ending_or ending ls)
close_leaf on (OpenHtml kind ls) = block_and_ending (Leaf (Html (own_lines ls))) (last_ending ls)
close_leaf on (OpenTable ls) = block_and_ending (Leaf (Table (own_lines ls))) (last_ending ls)

abbrev pub is_ending : Block → Bool
is_ending (Ending ending) = true
is_ending (Blank ending) = true
is_ending b = false

abbrev pub all_endings : Blocks → Bool
all_endings Nil = true
all_endings (Cons b bs) = is_ending b && all_endings bs

-- children without the endings at their end, and those
abbrev pub front : Blocks → Blocks
front Nil = Nil
front (Cons b bs) = if all_endings (Cons b bs) then Nil else Cons b (front bs)

abbrev pub trailing : Blocks → Blocks
trailing Nil = Nil
trailing (Cons b bs) = if all_endings (Cons b bs) then Cons b bs else trailing bs

-- children without the last, if it is an ending, and that
abbrev pub without_last : Blocks → Blocks
without_last Nil = Nil
without_last (Cons b Nil) = if is_ending b then Nil else one b
without_last (Cons b (Cons c bs)) = Cons b (without_last (Cons c bs))

abbrev pub last_of : Blocks → Blocks
last_of Nil = Nil
last_of (Cons b Nil) = if is_ending b then one b else Nil
last_of (Cons b (Cons c bs)) = last_of (Cons c bs)

-- A container ends right before the ending of its last line. A blank line at the end of a quote has the quote's marker, and is its own; those at the end of an
-- item or a footnote definition are not.
abbrev pub container_block : Container → Blocks → Blocks
container_block Quote kids = Cons (Holds Quote (without_last kids)) (last_of kids)
container_block (Item item) kids = Cons (Holds (Item item) (front kids)) (trailing kids)
container_block (Footnote label) kids = Cons (Holds (Footnote label) (front kids)) (trailing kids)

-- the children that are finished where this is closed
abbrev pub close : Constructs → Opening → Blocks
close on (At leaf) = close_leaf on leaf
close on (Inside c kids inner) = container_block c (join kids (close on inner))

-- ---- a line

-- the lines of the open paragraph, none where it isn't open
abbrev pub leaf_text : OpenLeaf → List BlockLine
leaf_text (Text ls) = ls
leaf_text leaf = []

abbrev pub open_text : Opening → List BlockLine
open_text (At leaf) = leaf_text leaf
open_text (Inside c kids inner) = open_text inner

abbrev pub is_some_line : List BlockLine → Bool
is_some_line [] = false
is_some_line (line ∷ others) = true

-- whether a paragraph is open
abbrev pub has_text : Opening → Bool
has_text now = is_some_line (open_text now)

-- whether a table is open, and this line is in all of its containers
abbrev pub is_table_leaf : OpenLeaf → Bool
is_table_leaf (OpenTable ls) = true
is_table_leaf leaf = false

abbrev pub has_table : Opening → Bool
has_table (At leaf) = is_table_leaf leaf
has_table (Inside c kids inner) = false

-- one more line of the open paragraph, or of the open table
abbrev pub leaf_with_line : BlockLine → OpenLeaf → OpenLeaf
leaf_with_line line (Text ls) = Text (ls ++ line ∷ [])
leaf_with_line line (OpenTable ls) = OpenTable (ls ++ line ∷ [])
leaf_with_line line leaf = leaf

abbrev pub with_line : BlockLine → Opening → Opening
with_line line (At leaf) = At (leaf_with_line line leaf)
with_line line (Inside c kids inner) = Inside c kids (with_line line inner)

-- a line of a block, by its rest
abbrev pub rest_line : Rest → Beside → BlockLine
rest_line rest beside = block_line (block_codes rest) beside.ending beside.before

-- indented code goes on where the rest is indented 4 columns, and may go on over a blank one (CommonMark 4.4)
abbrev pub indented_takes : Constructs → List BlockLine → List BlockLine → Rest → Beside → Option Tree
indented_takes on ls pending rest beside =
    if is_blank rest then Some (tree Nil (At (Indented ls (pending ++ rest_line (outdent 4 rest) beside ∷ []))))
    else (if starts_code_indented on rest then Some (tree Nil (At (Indented (ls ++ pending ++ rest_line (outdent 4 rest) beside ∷ []) [])))
    else None)

-- fenced code takes every line up to its closing fence (CommonMark 4.5)
abbrev pub fenced_takes : Constructs → Fence → Option LineEnding → List BlockLine → Rest → Beside → Option Tree
fenced_takes on fence opening ls rest beside =
    if is_fence_end on fence rest then Some (tree (block_and_ending (Leaf (FencedCode fence.info true ls)) beside.ending) nothing)
    else Some (tree Nil (At (Fenced fence opening (ls ++ rest_line (fence_line fence rest) beside ∷ []))))

-- an HTML block with one more line, which may end it (CommonMark 4.6)
abbrev pub html_with : ℕ → List BlockLine → Rest → Beside → Tree
html_with kind ls rest beside =
    let more = ls ++ rest_line rest beside ∷ [] in
    if html_ends_here kind rest then tree (block_and_ending (Leaf (Html (own_lines more))) beside.ending) nothing else tree Nil (At (OpenHtml kind more))

-- an HTML block takes every line up to its end, which may come before a blank one (CommonMark 4.6)
abbrev pub html_takes : ℕ → List BlockLine → Rest → Beside → Option Tree
html_takes kind ls rest beside = if ends_before_blank kind && is_blank rest then None else Some (html_with kind ls rest beside)

-- what an open leaf makes of a rest, where it takes it before anything else may start
abbrev pub takes : Constructs → OpenLeaf → Rest → Beside → Option Tree
takes on (Indented ls pending) rest beside = indented_takes on ls pending rest beside
takes on (Fenced fence opening ls) rest beside = fenced_takes on fence opening ls rest beside
takes on (OpenHtml kind ls) rest beside = html_takes kind ls rest beside
takes on leaf rest beside = None

-- what a line leaves where something new starts on it, after what it isn't in is closed
abbrev pub after : Constructs → Opening → Tree → Tree
after on away t = tree (join (close on away) t.done) t.now

-- a line of text goes on the open paragraph, also where it isn't in all of its containers, or is a row of the open table, or starts a paragraph (CommonMark 4.8
-- and GFM 4.10)
abbrev pub text_line_of : Constructs → Opening → Rest → Beside → Tree
text_line_of on away rest beside =
    if has_text away || has_table away then tree Nil (with_line (rest_line rest beside) away)
    else after on away (tree Nil (At (Text (rest_line rest beside ∷ []))))

-- the lines of the open paragraph, where this line is in all of its containers
abbrev pub text_here : Opening → List BlockLine
text_here (At leaf) = leaf_text leaf
text_here (Inside c kids inner) = []

-- ---- what a line of text begins

-- indented code with its first line
abbrev pub indented_tree : Rest → Beside → Tree
indented_tree rest beside = tree Nil (At (Indented (rest_line (outdent 4 rest) beside ∷ []) []))

-- code or math after its fence
abbrev pub fence_tree : Beside → Fence → Tree
fence_tree beside fence = tree Nil (At (Fenced fence beside.ending []))

-- an HTML block of a kind, which may end on its first line
abbrev pub html_tree : Rest → Beside → ℕ → Tree
html_tree rest beside kind = html_with kind [] rest beside

-- a heading on one line
abbrev pub atx_tree : Beside → Atx → Tree
atx_tree beside atx = tree (block_and_ending (Leaf (Heading atx.rank (spaced_line atx.content None ∷ []))) beside.ending) nothing

abbrev pub break_tree : Beside → Tree
break_tree beside = tree (block_and_ending (Leaf Break) beside.ending) nothing

-- a heading of what is left of a paragraph, if anything is, after the definitions at its front
abbrev pub heading_of : ℕ → Blocks → List BlockLine → Option LineEnding → Option Tree
heading_of rank definitions [] ending = None
heading_of rank definitions (line ∷ others) ending =
    Some (tree (join definitions (block_and_ending (Leaf (Heading rank (own_lines (line ∷ others)))) ending)) nothing)

-- what an underline of a rank makes of a paragraph's lines
abbrev pub underlined : Constructs → List BlockLine → Option LineEnding → ℕ → Option Tree
underlined on ls ending rank = let parts = definition_cut on ls in heading_of rank parts.definitions parts.left ending

-- what an underline makes of the open paragraph: a heading
abbrev pub turns : Constructs → Opening → Rest → Option LineEnding → Option Tree
turns on away rest ending = option_and_then (underlined on (text_here away) ending) (underline on rest)

-- the definitions and the lines before the last one of a paragraph, and an open table with that one as its head
abbrev pub table_of : Blocks → List BlockLine → BlockLine → Tree
table_of definitions ls row =
    let head = length ls - 1 in
    tree (join definitions (paragraph_of (take head ls))) (At (OpenTable (drop head ls ++ row ∷ [])))

-- what a row of delimiters of so many columns makes of a paragraph's lines, where something is left of them after their definitions, and the last has as many
-- cells
abbrev pub tabled : Constructs → List BlockLine → BlockLine → List AlignKind → Option Tree
tabled on ls row columns =
    let parts = definition_cut on ls in
    if is_some_line parts.left && is_head (length columns) ls then Some (table_of parts.definitions parts.left row) else None

-- what a row of delimiters makes of the open paragraph: a table
abbrev pub makes_table : Constructs → Opening → Rest → Beside → Option Tree
makes_table on away rest beside = option_and_then (tabled on (text_here away) (rest_line rest beside)) (delimiter_row on rest)

-- a leaf that begins here, after what the line isn't in is closed
abbrev pub anew : Constructs → Opening → Option Tree → Option Tree
anew on away o = option_map (after on away) o

-- what a line of text may begin, tried in this order, where `away` is what it isn't in
abbrev pub leaf_starts : Constructs → Opening → Rest → Beside → List (Option Tree)
leaf_starts on away rest beside =
    -- indented code, which can't interrupt a paragraph (CommonMark 4.4)
    anew on away (then_some (starts_code_indented on rest && not (has_text away)) (indented_tree rest beside))
    -- fenced code (CommonMark 4.5)
    ∷ anew on away (option_map (fence_tree beside) (fence_start on rest))
    -- math (in neither standard)
    ∷ anew on away (option_map (fence_tree beside) (math_start on rest))
    -- an HTML block (CommonMark 4.6)
    ∷ anew on away (option_map (html_tree rest beside) (html_start on (has_text away) rest))
    -- an ATX heading (CommonMark 4.2)
    ∷ anew on away (option_map (atx_tree beside) (heading_atx on rest))
    -- the underline of a setext heading (CommonMark 4.3)
    ∷ turns on away rest beside.ending
    -- a thematic break (CommonMark 4.1)
    ∷ anew on away (then_some (is_break on rest) (break_tree beside))
    -- the row of delimiters of a table (GFM 4.10)
    ∷ makes_table on away rest beside
    ∷ []

-- the first that is there
abbrev pub first_of : {A : Type 0} → List (Option A) → Option A
first_of [] = None
first_of (o ∷ others) = option_or o (first_of others)

-- A line that starts no container: a blank one closes what it isn't in (CommonMark 4.9), one of text begins the first leaf that it can, and where it begins
-- none, it is a line of a paragraph or a row of a table.
abbrev pub leaf_line : Constructs → Opening → Rest → Beside → Tree
leaf_line on away rest beside =
    if is_blank rest then after on away (tree (one (Blank beside.ending)) nothing)
    else unwrap_or (first_of (leaf_starts on away rest beside)) (text_line_of on away rest beside)

-- what stands beside the rest that a container leaves of a line, after a character of this kind
abbrev pub beside_in : Kind → Beside → Beside
beside_in before beside = record { before = before; ending = beside.ending }

-- a container starts, or none
abbrev pub start : Constructs → Option ContainerStart → Opening → Tree → (ContainerStart → Tree) → Tree
start on None away other more = other
start on (Some s) away other more = let t = more s in after on away (tree Nil (Inside s.container t.done t.now))

-- the rest of a line after the containers that it is in; at most so many containers start
abbrev pub new : ℕ → Constructs → Bool → Opening → Beside → Rest → Tree
new zero on all away beside rest = leaf_line on away rest beside
new (suc most) on all away beside rest =
    start on (starts on (all && has_text away) rest) away (leaf_line on away rest beside)
    (λ s. new most on true nothing (beside_in s.before beside) s.rest)

abbrev pub in_container : Container → Blocks → Tree → Tree
in_container c kids t = tree Nil (Inside c (join kids t.done) t.now)

abbrev pub is_nothing : Opening → Bool
is_nothing (At (Text [])) = true
is_nothing now = false

-- whether nothing was read in a container but a blank line
abbrev pub is_one_blank : Blocks → Bool
is_one_blank (Cons (Blank ending) Nil) = true
is_one_blank kids = false

abbrev pub began_blank : Blocks → Opening → Bool
began_blank kids inner = is_one_blank kids && is_nothing inner

-- a container goes on, or not
abbrev pub goes_on : Option ContainerLine → Constructs → Container → Blocks → Opening → Beside → Rest → (ContainerLine → Tree) → Tree
goes_on None on c kids inner beside rest more = new (length rest) on false (Inside c kids inner) beside rest
goes_on (Some line) on c kids inner beside rest more = in_container c kids (more line)

-- a line: the containers that go on, then the leaf that takes it, or what is new
abbrev pub grow : Constructs → Beside → Opening → Rest → Tree
grow on beside (At leaf) rest = unwrap_or (takes on leaf rest beside) (new (length rest) on true (At leaf) beside rest)
grow on beside (Inside c kids inner) rest =
    goes_on (continues on c (began_blank kids inner) rest) on c kids inner beside rest (λ line. grow on (beside_in line.before beside) inner line.rest)

-- what stands beside a line of the text, after a character of this kind
abbrev pub beside_line : Kind → TextLine → Beside
beside_line before line = record { before = before; ending = line.ending }

-- one more line, after a character of this kind
abbrev pub step : Constructs → Kind → Tree → TextLine → Tree
step on before t line = let more = grow on (beside_line before line) t.now (whole line.content) in tree (join t.done more.done) more.now

-- lines, the first after a character of this kind, the others after line endings
abbrev pub steps : Constructs → Kind → Tree → List TextLine → Tree
steps on before t [] = t
steps on before t (line ∷ others) = steps on Whitespace (step on before t line) others

-- the end of the text closes what is open
abbrev pub blocks_at_end : Constructs → Tree → Blocks
blocks_at_end on t = join t.done (close on t.now)

-- the children of a document of these lines, the first after a character of this kind
abbrev pub children : Constructs → Kind → List TextLine → Blocks
children on before ls = blocks_at_end on (steps on before empty_tree ls)

-- the children of the document, where the lines after its frontmatter are given if it has one
abbrev pub children_after : Constructs → Kind → List TextLine → Option (List TextLine) → Blocks
children_after on before ls None = children on before ls
children_after on before ls (Some others) = children on Whitespace others

-- the children of the document, of a text without a byte order mark, after a character of this kind
abbrev pub blocks : Constructs → Kind → List ℕ → Blocks
blocks on before text = children_after on before (lines text) (after_frontmatter on (lines text))
