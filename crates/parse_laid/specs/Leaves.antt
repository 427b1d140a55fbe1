-- Which lines of a text a leaf block has (CommonMark 4).
use Rattle.std.specs.Prelude.{◌≡◌, ℕ, ◌<◌, ◌⊎◌, Bool, true, false, ◌&&◌, ◌||◌, List, [], ◌∷◌, Option, None, Some, length}
use Rattle.markdown_options.specs.declared.configuration.Constructs.{Constructs}
use Rattle.markdown_options.specs.declared.align_kind.AlignKind.{AlignKind}
use Rattle.definition_text.specs.BlockLines.{BlockLine, spaced_line, last_ending, last_ending_or, own_lines}
use Rattle.definition_text.specs.Columns.{Code, Rest, is_blank}
use Rattle.definition_text.specs.Content.{content_of}
use Rattle.definition_text.specs.Indents.{outdent}
use Rattle.definition_inline.specs.Definition.{definition, definition_at}
use Rattle.definition_block.specs.Container.{Container}
use Rattle.definition_block.specs.CodeIndented.{starts_code_indented}
use Rattle.definition_block.specs.CodeFenced.{Fence, fence_start, is_fence_end, fence_line}
use Rattle.definition_block.specs.MathFlow.{math_start}
use Rattle.definition_block.specs.HtmlFlow.{html_start, ends_before_blank}
use Rattle.definition_block.specs.HeadingAtx.{Atx, heading_atx}
use Rattle.definition_block.specs.HeadingSetext.{underline}
use Rattle.definition_block.specs.ThematicBreak.{is_break}
use Rattle.definition_block.specs.GfmTable.{delimiter_row, is_head}
use Rattle.definition_block.specs.Tree.{LeafBlock, Paragraph, Heading, Break, IndentedCode, FencedCode, Html, Table, Definition, rest_line}
use Rattle.parse_laid.specs.Places.{LineRest, Place, Between, AtEnding, Prefixed, InAll, InSome, line_left, IsOn, IsInAll}

-- ---- lines

-- lines of a leaf, each on a line of the text, one after another
abbrev pub AreTaken : Constructs → List Container → (Prefixed → BlockLine → Type 0) → List BlockLine → Place → Place → Type 0
AreTaken on around IsLine [] from to = from ≡ to
AreTaken on around IsLine (line ∷ others) from to =
    (here : Prefixed) × (left : List LineRest) × IsOn on around from here left × IsLine here line × AreTaken on around IsLine others (Between left) to

-- What is left of a line of text begins no other leaf (CommonMark 4.8); some HTML blocks can't interrupt a paragraph (CommonMark 4.6).
abbrev pub BeginsNoLeaf : Constructs → Rest → Type 0
BeginsNoLeaf on rest =
    (interrupts : Bool) × (is_blank rest ≡ false) × (fence_start on rest ≡ None) × (math_start on rest ≡ None) × (html_start on interrupts rest ≡ None)
    × (heading_atx on rest ≡ None) × (is_break on rest ≡ false)

-- a line of a paragraph, which may be in only some of the containers around it (CommonMark 4.8 and 5.1)
abbrev pub IsTextLine : Constructs → Prefixed → BlockLine → Type 0
IsTextLine on here line = BeginsNoLeaf on (line_left here).rest × (line ≡ rest_line (line_left here).rest (line_left here).beside)

-- a later line of indented code: it is indented, or blank (CommonMark 4.4)
abbrev pub IsCodeLine : Constructs → Prefixed → BlockLine → Type 0
IsCodeLine on (InAll here) line =
    ((starts_code_indented on here.rest || is_blank here.rest) ≡ true) × (line ≡ rest_line (outdent 4 here.rest) here.beside)
IsCodeLine on (InSome here) line = ⊥

-- a line of fenced code after its fence: it isn't the closing fence (CommonMark 4.5)
abbrev pub IsFenceLine : Constructs → Fence → Prefixed → BlockLine → Type 0
IsFenceLine on fence (InAll here) line = (is_fence_end on fence here.rest ≡ false) × (line ≡ rest_line (fence_line fence here.rest) here.beside)
IsFenceLine on fence (InSome here) line = ⊥

-- a later line of an HTML block, which may end before a blank one (CommonMark 4.6)
abbrev pub IsHtmlLine : ℕ → Prefixed → BlockLine → Type 0
IsHtmlLine kind (InAll here) line = ((ends_before_blank kind && is_blank here.rest) ≡ false) × (line ≡ rest_line here.rest here.beside)
IsHtmlLine kind (InSome here) line = ⊥

-- a row of a table's body (GFM 4.10)
abbrev pub IsRowLine : Constructs → Prefixed → BlockLine → Type 0
IsRowLine on (InAll here) line = BeginsNoLeaf on here.rest × (line ≡ rest_line here.rest here.beside)
IsRowLine on (InSome here) line = ⊥

-- ---- lines of a leaf, with their endings

-- a line of text is right before a place
abbrev pub FollowsText : Constructs → List Container → Place → Type 0
FollowsText on around at = (ls : List BlockLine) × (from : Place) × (0 < length ls) × AreTaken on around (IsTextLine on) ls from at

-- the lines before a place are those of a definition, which alone read as one (CommonMark 4.7)
abbrev pub FollowsDefinition : Constructs → List Container → Place → Type 0
FollowsDefinition on around at =
    (label destination : List Code) × (title : Option (List Code)) × (ls : List BlockLine) × (from : Place)
    × (0 < length ls) × AreTaken on around (IsTextLine on) ls from at
    × (definition_at (content_of (own_lines ls)) ≡ Some (definition label destination title []))

-- Lines of a paragraph, of a definition, or over an underline. The first is in all of the containers around it, unless a definition is right before it: then
-- both were lines of one paragraph.
abbrev pub AreText : Constructs → List Container → List BlockLine → Place → Place → Type 0
AreText on around ls from to =
    (0 < length ls) × AreTaken on around (IsTextLine on) ls from to × (IsInAll on around from ⊎ FollowsDefinition on around from)

-- lines of indented code, the first of which is indented, and isn't blank (CommonMark 4.4)
abbrev pub AreCode : Constructs → List Container → List BlockLine → Place → Place → Type 0
AreCode on around [] from to = ⊥
AreCode on around (first ∷ others) from to =
    (here : LineRest) × (left : List LineRest) × IsOn on around from (InAll here) left × (starts_code_indented on here.rest ≡ true)
    × (first ≡ rest_line (outdent 4 here.rest) here.beside) × AreTaken on around (IsCodeLine on) others (Between left) to × (is_blank here.rest ≡ false)

-- lines of an HTML block of a kind, which may be told by whether it would interrupt a paragraph (CommonMark 4.6)
abbrev pub AreHtml : Constructs → List Container → ℕ → List BlockLine → Place → Place → Type 0
AreHtml on around kind [] from to = ⊥
AreHtml on around kind (first ∷ others) from to =
    (here : LineRest) × (left : List LineRest) × (interrupts : Bool) × IsOn on around from (InAll here) left
    × (html_start on interrupts here.rest ≡ Some kind) × (first ≡ rest_line here.rest here.beside)
    × AreTaken on around (IsHtmlLine kind) others (Between left) to

-- The head of a table, which has a cell for each column, the row of delimiters, and the rows of the body (GFM 4.10). The head was a line of a paragraph: it is
-- in all of the containers around it, unless another line of that is right before it.
abbrev pub AreTable : Constructs → List Container → List BlockLine → Place → Place → Type 0
AreTable on around [] from to = ⊥
AreTable on around (head ∷ []) from to = ⊥
AreTable on around (head ∷ row ∷ others) from to =
    (under : Place) × (here : LineRest) × (left : List LineRest) × (columns : List AlignKind) × AreTaken on around (IsTextLine on) (head ∷ []) from under
    × IsOn on around under (InAll here) left × (delimiter_row on here.rest ≡ Some columns)
    × (is_head (length columns) (head ∷ []) ≡ true) × (row ≡ rest_line here.rest here.beside)
    × AreTaken on around (IsRowLine on) others (Between left) to × (IsInAll on around from ⊎ FollowsText on around from)

-- the fence of code or math (CommonMark 4.5), and the lines after it, none of which closes it
abbrev pub AreFenced : Constructs → List Container → Fence → LineRest → List BlockLine → Place → Place → Type 0
AreFenced on around fence here ls from to =
    (left : List LineRest) × IsOn on around from (InAll here) left × ((fence_start on here.rest ≡ Some fence) ⊎ (math_start on here.rest ≡ Some fence))
    × AreTaken on around (IsFenceLine on fence) ls (Between left) to

-- ---- leaves, up to the ending of their last line

-- the ending of the last of these lines comes next, where they lead to the end of that line
abbrev pub EndsAt : List BlockLine → Place → Place → Type 0
EndsAt ls after to = (left : List LineRest) × (after ≡ Between left) × (to ≡ AtEnding (last_ending ls) left)

-- a heading on one line (CommonMark 4.2)
abbrev pub IsAtxLaid : Constructs → List Container → ℕ → List BlockLine → Place → Place → Type 0
IsAtxLaid on around rank ls from to =
    (here : LineRest) × (left : List LineRest) × (found : Atx) × IsOn on around from (InAll here) left × (heading_atx on here.rest ≡ Some found)
    × (rank ≡ found.rank) × (ls ≡ spaced_line found.content None ∷ []) × (to ≡ AtEnding here.beside.ending left)

-- a heading with an underline, which is in all of the containers around it (CommonMark 4.3)
abbrev pub IsSetextLaid : Constructs → List Container → ℕ → List BlockLine → Place → Place → Type 0
IsSetextLaid on around rank ls from to =
    (taken : List BlockLine) × (under : Place) × (here : LineRest) × (left : List LineRest) × AreText on around taken from under
    × (ls ≡ own_lines taken) × IsOn on around under (InAll here) left × (underline on here.rest ≡ Some rank) × (to ≡ AtEnding here.beside.ending left)

-- code or math that no fence closes: it ends with the last of its lines, or with the line of its fence (CommonMark 4.5)
abbrev pub IsUnclosedLaid : Constructs → List Container → List ℕ → List BlockLine → Place → Place → Type 0
IsUnclosedLaid on around info ls from to =
    (fence : Fence) × (here : LineRest) × (left : List LineRest) × (info ≡ fence.info) × AreFenced on around fence here ls from (Between left)
    × (to ≡ AtEnding (last_ending_or here.beside.ending ls) left)

-- code or math with its closing fence (CommonMark 4.5)
abbrev pub IsClosedLaid : Constructs → List Container → List ℕ → List BlockLine → Place → Place → Type 0
IsClosedLaid on around info ls from to =
    (fence : Fence) × (here end : LineRest) × (under : Place) × (left : List LineRest) × (info ≡ fence.info)
    × AreFenced on around fence here ls from under × IsOn on around under (InAll end) left × (is_fence_end on fence end.rest ≡ true)
    × (to ≡ AtEnding end.beside.ending left)

-- a leaf, from a place up to the ending of its last line
abbrev pub IsLeafLaid : Constructs → List Container → LeafBlock → Place → Place → Type 0
-- CommonMark 4.8
IsLeafLaid on around (Paragraph ls) from to =
    (taken : List BlockLine) × (after : Place) × AreText on around taken from after × (ls ≡ own_lines taken) × EndsAt taken after to
-- CommonMark 4.2 and 4.3
IsLeafLaid on around (Heading rank ls) from to = IsAtxLaid on around rank ls from to ⊎ IsSetextLaid on around rank ls from to
-- CommonMark 4.1
IsLeafLaid on around Break from to =
    (here : LineRest) × (left : List LineRest) × IsOn on around from (InAll here) left × (is_break on here.rest ≡ true)
    × (to ≡ AtEnding here.beside.ending left)
-- CommonMark 4.4
IsLeafLaid on around (IndentedCode ls) from to =
    (taken : List BlockLine) × (after : Place) × AreCode on around taken from after × (ls ≡ own_lines taken) × EndsAt taken after to
-- CommonMark 4.5
IsLeafLaid on around (FencedCode info false ls) from to = IsUnclosedLaid on around info ls from to
IsLeafLaid on around (FencedCode info true ls) from to = IsClosedLaid on around info ls from to
-- CommonMark 4.6
IsLeafLaid on around (Html ls) from to =
    (kind : ℕ) × (taken : List BlockLine) × (after : Place) × AreHtml on around kind taken from after × (ls ≡ own_lines taken) × EndsAt taken after to
-- GFM 4.10
IsLeafLaid on around (Table ls) from to =
    (taken : List BlockLine) × (after : Place) × AreTable on around taken from after × (ls ≡ own_lines taken) × EndsAt taken after to
-- CommonMark 4.7: these lines alone are the definition, and nothing is left of them
IsLeafLaid on around (Definition ls label destination title) from to =
    (taken : List BlockLine) × (after : Place) × AreText on around taken from after × (ls ≡ own_lines taken)
    × (definition_at (content_of ls) ≡ Some (definition label destination title [])) × EndsAt taken after to
