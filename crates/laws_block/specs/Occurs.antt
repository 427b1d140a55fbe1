-- Which blocks a text can have (CommonMark 4 and 5): a construct that is off never occurs.
use Rattle.std.specs.Prelude.{◌≡◌, ℕ, Bool, true, false, not, ◌||◌, leb, List, [], ◌∷◌}
use Rattle.markdown_options.specs.declared.configuration.Constructs.{Constructs}
use Rattle.markdown_options.specs.declared.beside.Kind.{Kind}
use Rattle.definition_block.specs.Container.{Quote, Item, Footnote}
use Rattle.definition_text.specs.BlockLines.{BlockLine}
use Rattle.definition_text.specs.Columns.{is_white}
use Rattle.definition_text.specs.Lines.{lines}
use Rattle.std.specs.List.{list_all}
use Rattle.definition_block.specs.Tree.{Block, Leaf, Heading, Break, IndentedCode, FencedCode, Html, Table, Definition, Holds, Items, Blocks, Nil, Cons, blocks}
use Rattle.definition_block.specs.Tree.{children}
use Rattle.definition_block.specs.Lists.{group_items}

-- whether one of these blocks passes a test, at any depth
abbrev mutual
  pub block_has : (Block → Bool) → Block → Bool
  block_has test (Holds c kids) = test (Holds c kids) || has test kids
  block_has test (Items items) = test (Items items) || has test items
  block_has test b = test b

  pub has : (Block → Bool) → Blocks → Bool
  has test Nil = false
  has test (Cons b bs) = block_has test b || has test bs

-- where this construct is off, no text has a block that passes this test, whatever character stands before it
abbrev pub Never : (Constructs → Bool) → (Block → Bool) → Type 0
Never construct test = (on : Constructs) (before : Kind) (text : List ℕ) → construct on ≡ false → has test (blocks on before text) ≡ false

-- ---- tests

-- a block quote (CommonMark 5.1)
abbrev pub is_quote : Block → Bool
is_quote (Holds Quote kids) = true
is_quote b = false

-- a list item (CommonMark 5.2)
abbrev pub is_list_item : Block → Bool
is_list_item (Holds (Item item) kids) = true
is_list_item b = false

-- a footnote definition (in neither standard)
abbrev pub is_footnote_definition : Block → Bool
is_footnote_definition (Holds (Footnote label) kids) = true
is_footnote_definition b = false

-- indented code (CommonMark 4.4)
abbrev pub is_indented_code : Block → Bool
is_indented_code (Leaf (IndentedCode ls)) = true
is_indented_code b = false

-- an info that can be written: no space or tab stands in it
abbrev pub is_word : List ℕ → Bool
is_word info = list_all (λ b. not (is_white b)) info

-- fenced code (CommonMark 4.5)
abbrev pub is_fenced_code : Block → Bool
is_fenced_code (Leaf (FencedCode info is_closed ls)) = is_word info
is_fenced_code b = false

-- math (in neither standard): code whose info can't be written
abbrev pub is_math : Block → Bool
is_math (Leaf (FencedCode info is_closed ls)) = not (is_word info)
is_math b = false

-- an HTML block (CommonMark 4.6)
abbrev pub is_html : Block → Bool
is_html (Leaf (Html ls)) = true
is_html b = false

-- a table (GFM 4.10)
abbrev pub is_table : Block → Bool
is_table (Leaf (Table ls)) = true
is_table b = false

-- a thematic break (CommonMark 4.1)
abbrev pub is_thematic_break : Block → Bool
is_thematic_break (Leaf Break) = true
is_thematic_break b = false

-- a link reference definition (CommonMark 4.7)
abbrev pub is_definition : Block → Bool
is_definition (Leaf (Definition ls label destination title)) = true
is_definition b = false

-- a heading (CommonMark 4.2 and 4.3)
abbrev pub is_heading : Block → Bool
is_heading (Leaf (Heading rank ls)) = true
is_heading b = false

-- one line, no more and no less
abbrev pub is_one_line : List BlockLine → Bool
is_one_line (line ∷ []) = true
is_one_line ls = false

-- a heading of no line, or of more than one
abbrev pub is_long_heading : Block → Bool
is_long_heading (Leaf (Heading rank ls)) = not (is_one_line ls)
is_long_heading b = false

-- a heading of a rank above 2, which no underline gives
abbrev pub is_deep_heading : Block → Bool
is_deep_heading (Leaf (Heading rank ls)) = not (leb rank 2)
is_deep_heading b = false

-- ---- the laws

-- without block quotes no quote (CommonMark 5.1)
abbrev pub NoQuotes : Type 0
NoQuotes = Never (λ on. on.block_quote) is_quote

-- without list items no item (CommonMark 5.2)
abbrev pub NoItems : Type 0
NoItems = Never (λ on. on.list_item) is_list_item

-- without footnote definitions none (in neither standard)
abbrev pub NoFootnoteDefinitions : Type 0
NoFootnoteDefinitions = Never (λ on. on.gfm_footnote_definition) is_footnote_definition

-- without indented code none (CommonMark 4.4)
abbrev pub NoIndentedCode : Type 0
NoIndentedCode = Never (λ on. on.code_indented) is_indented_code

-- without fenced code none (CommonMark 4.5)
abbrev pub NoFencedCode : Type 0
NoFencedCode = Never (λ on. on.code_fenced) is_fenced_code

-- without math none (in neither standard)
abbrev pub NoMath : Type 0
NoMath = Never (λ on. on.math_flow) is_math

-- without HTML blocks none (CommonMark 4.6)
abbrev pub NoHtml : Type 0
NoHtml = Never (λ on. on.html_flow) is_html

-- without tables none (GFM 4.10)
abbrev pub NoTables : Type 0
NoTables = Never (λ on. on.gfm_table) is_table

-- without thematic breaks none (CommonMark 4.1)
abbrev pub NoBreaks : Type 0
NoBreaks = Never (λ on. on.thematic_break) is_thematic_break

-- without definitions none (CommonMark 4.7)
abbrev pub NoDefinitions : Type 0
NoDefinitions = Never (λ on. on.definition) is_definition

-- without both kinds of headings no heading (CommonMark 4.2 and 4.3)
abbrev pub NoHeadings : Type 0
NoHeadings = Never (λ on. on.heading_atx || on.heading_setext) is_heading

-- without setext headings each heading has one line (CommonMark 4.3)
abbrev pub NoLongHeadings : Type 0
NoLongHeadings = Never (λ on. on.heading_setext) is_long_heading

-- without ATX headings no heading has a rank above 2 (CommonMark 4.2)
abbrev pub NoDeepHeadings : Type 0
NoDeepHeadings = Never (λ on. on.heading_atx) is_deep_heading

-- without list items the blocks of a text have nothing to put into lists (CommonMark 5.3)
abbrev pub NoLists : Type 0
NoLists =
    (on : Constructs) (before : Kind) (text : List ℕ) → on.list_item ≡ false
    → let bs = blocks on before text in group_items bs ≡ bs

-- without frontmatter no line of a text is left out (in neither standard)
abbrev pub NoFrontmatter : Type 0
NoFrontmatter = (on : Constructs) (before : Kind) (text : List ℕ) → on.frontmatter ≡ false → blocks on before text ≡ children on before (lines text)
