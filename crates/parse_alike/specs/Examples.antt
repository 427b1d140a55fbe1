-- Pages that are alike, and pages that aren't, since they differ in one thing that is printed.
use Rattle.std.specs.Prelude.{ℕ, Bool, true, false, List, [], ◌∷◌, Option, None, Some, codes, map}
use Rattle.markdown_options.specs.Defaults.{default_constructs}
use Rattle.markdown_compile_options.specs.Defaults.{default_compile_options}
use Rattle.markdown_options.specs.declared.line_ending.LineEnding.TheVariants.{LineFeed, CarriageReturn}
use Rattle.definition_text.specs.BlockLines.{BlockLine, spaced_line}
use Rattle.definition_text.specs.Columns.{Code, tab_column}
use Rattle.definition_inline.specs.Inline.{Data, Html, LineEnd, Resource, Link, Linked, Call, Inlines}
use Rattle.definition_page.specs.InlinePieces.{Meaning}
use Rattle.definition_page.specs.Page as page
use Rattle.event_meaning.specs.Texts.{part, leaves}
use Rattle.parse_alike.specs.Page.{ArePagesAlike}

-- by the constructs and options of CommonMark, without named characters and definitions
abbrev pub plain_meaning : Meaning
plain_meaning =
    record { on = default_constructs; compile = default_compile_options; names = λ name. None; definition = λ label. None; footnotes = [] }

-- the page of one block
abbrev pub page_of : page.Block → page.Page
page_of b = record { blocks = page.Cons b page.Nil; definitions = []; footnotes = []; ends_blank = false }

abbrev pub AreAlike : page.Block → page.Block → Type 0
AreAlike b c = ArePagesAlike plain_meaning plain_meaning (page_of b) (page_of c)

abbrev pub AreRefused : page.Block → page.Block → Type 0
AreRefused b c = AreAlike b c → ⊥

abbrev pub text : List ℕ → Inlines
text bytes = leaves (map Data bytes)

abbrev pub paragraph : Inlines → page.Block
paragraph is = page.Leaf (page.Paragraph is)

-- the text `c` linked to a destination with a title
abbrev pub link : List Code → Option (List Code) → page.Block
link destination title = paragraph (part (Linked Link (Resource destination title) (text (codes "c"))))

abbrev pub code_block : List BlockLine → page.Block
code_block ls = page.Leaf (page.IndentedCode ls)

abbrev pub html_block : List BlockLine → page.Block
html_block ls = page.Leaf (page.Html ls)

-- a list of one item, loose or tight
abbrev pub list : Bool → page.Block
list loose = page.ItemList None loose (page.Cons (page.Holds page.Item (page.Cons (paragraph (text (codes "a"))) page.Nil)) page.Nil)

abbrev pub AlikeExamples : Type 0
AlikeExamples =
    -- `[c](\*)` and `[c](* "")`
    AreAlike (link (codes "\\*") None) (link (codes "*") (Some []))
    -- a call with a label over two lines, and on one
    × AreAlike (paragraph (part (Call (codes "a\n b")))) (paragraph (part (Call (codes "a b"))))
    -- raw HTML over two lines, and its pieces
    × AreAlike (paragraph (leaves (Html (codes "<a\n  b>") ∷ []))) (paragraph (leaves (Html (codes "<a") ∷ LineEnd 10 ∷ Html (codes "b>") ∷ [])))
    -- code with a remaining column of a tab, and with a space; its ending on a line of its own
    × AreAlike (code_block (spaced_line (tab_column ∷ codes "a") (Some LineFeed) ∷ []))
    (code_block (spaced_line (codes " a") None ∷ spaced_line [] (Some LineFeed) ∷ []))
    -- HTML with its ending, and cut before that
    × AreAlike (html_block (spaced_line (codes "<a>") (Some LineFeed) ∷ [])) (html_block (spaced_line (codes "<a>") None ∷ spaced_line [] (Some LineFeed) ∷ []))

abbrev pub RefusedExamples : Type 0
RefusedExamples =
    -- another text
    AreRefused (paragraph (text (codes "a"))) (paragraph (text (codes "b")))
    -- another rank
    × AreRefused (page.Leaf (page.Heading 1 (text (codes "a")))) (page.Leaf (page.Heading 2 (text (codes "a"))))
    -- another destination
    × AreRefused (link (codes "a") None) (link (codes "b") None)
    -- a title
    × AreRefused (link (codes "a") None) (link (codes "a") (Some (codes "b")))
    -- a loose list, and a tight one
    × AreRefused (list true) (list false)
    -- another ending
    × AreRefused (code_block (spaced_line (codes "a") (Some LineFeed) ∷ [])) (code_block (spaced_line (codes "a") (Some CarriageReturn) ∷ []))
    -- a tag that is cut: its filter would not find it
    × AreRefused (html_block (spaced_line (codes "<xmp>") None ∷ [])) (html_block (spaced_line (codes "<x") None ∷ spaced_line (codes "mp>") None ∷ []))
