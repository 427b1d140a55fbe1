-- Blocks: the children that events spell (CommonMark 4 and 5).
use Rattle.std.specs.Prelude.{ℕ, Bool, true, false, not, ◌&&◌, ◌||◌, if◌then◌else◌, ◌==◌, List, [], ◌∷◌, Option, None, Some, length, slice_index, is_some}
use Rattle.engine_events.specs.Names.{same_name}
use Rattle.engine_events.specs.declared.event.Name.{Name}
use Rattle.engine_events.specs.declared.event.Name.TheVariants as n
use Rattle.definition_text.specs.Ascii.{hyphen}
use Rattle.definition_text.specs.Columns.{Code}
use Rattle.definition_text.specs.Content.{content_codes}
use Rattle.definition_block.specs.ListItem.{number_of}
use Rattle.definition_block.specs.MathFlow.{math_info}
use Rattle.definition_inline.specs.CharacterReference.{Names}
use Rattle.definition_page.specs.Page as page
use Rattle.event_check.specs.Loose.{is_loose_list}
use Rattle.event_grammar.specs.InGrammar.{kids_of}
use Rattle.event_grammar.specs.References.{label_text}
use Rattle.event_grammar.specs.Trees.{Node, Nodes, Around, Nil, Cons}
use Rattle.event_meaning.specs.Children.{child, children, kids_in, after_child, before_child, ends_in, text_of, text_in}
use Rattle.event_meaning.specs.GfmTable.{table_of}
use Rattle.event_meaning.specs.Raw.{ending_of, raw_parts, raw_lines, fenced_lines}
use Rattle.event_meaning.specs.Strings.{string_of}
use Rattle.event_meaning.specs.Texts.{inlines_of, text_within}

abbrev pub join : page.Blocks → page.Blocks → page.Blocks
join page.Nil others = others
join (page.Cons b bs) others = page.Cons b (join bs others)

abbrev pub one : page.Block → page.Blocks
one b = page.Cons b page.Nil

abbrev pub leaf : page.PageLeaf → page.Blocks
leaf l = one (page.Leaf l)

-- where the content of a container begins: with the first prefix of a quote, an item or a footnote definition, with the first item of a list
abbrev pub start_of : Name → Name
start_of n.BlockQuote = n.BlockQuotePrefix
start_of n.ListItem = n.ListItemPrefix
start_of n.GfmFootnoteDefinition = n.GfmFootnoteDefinitionPrefix
start_of name = n.ListItem

module _ (names : Names) (bytes : List ℕ) where
  -- ---- leaves

  -- the rank of a setext heading: 2 by hyphens
  abbrev pub underline_rank : List ℕ → ℕ
  underline_rank line = if slice_index line 0 == hyphen then 2 else 1

  abbrev pub heading_setext_of : Nodes → page.PageLeaf
  heading_setext_of kids =
      page.Heading (underline_rank (text_in bytes n.HeadingSetextUnderlineSequence (kids_in n.HeadingSetextUnderline kids))) (text_within names bytes false kids)

  abbrev pub heading_atx_of : Nodes → page.PageLeaf
  heading_atx_of kids = page.Heading (length (text_in bytes n.HeadingAtxSequence kids)) (text_within names bytes false kids)

  -- an info that is there, also an empty one
  abbrev pub info_of : Option Node → Option (List ℕ)
  info_of None = None
  info_of (Some node) = Some (string_of names bytes (kids_of node))

  -- What stands between an opening fence and a closing one, or all after the opening one. Code that isn't closed ends with a line in a container, and where
  -- white space is last: that of a line of which nothing is left.
  abbrev pub fenced_of : Bool → Name → Option (List ℕ) → Nodes → page.PageLeaf
  fenced_of top fence info kids =
      let inside = after_child fence kids in
      let is_closed = is_some (child fence inside) in
      let between = before_child fence inside in
      let is_spaced = not is_closed && ends_in n.SpaceOrTab false between in
      page.FencedCode info is_closed (fenced_lines (not (top || is_closed) || is_spaced) (raw_parts bytes between))

  abbrev pub code_fenced_of : Bool → Nodes → page.PageLeaf
  code_fenced_of top kids = fenced_of top n.CodeFencedFence (info_of (child n.CodeFencedFenceInfo (kids_in n.CodeFencedFence kids))) kids

  abbrev pub math_flow_of : Bool → Nodes → page.PageLeaf
  math_flow_of top kids = fenced_of top n.MathFlowFence (Some math_info) kids

  -- ---- containers

  abbrev pub label_of : Option Node → List Code
  label_of None = []
  label_of (Some node) = content_codes (label_text bytes node)

  -- the label of a footnote definition
  abbrev pub footnote_label : Nodes → List Code
  footnote_label kids =
      label_of (child n.GfmFootnoteDefinitionLabelString (kids_in n.GfmFootnoteDefinitionLabel (kids_in n.GfmFootnoteDefinitionPrefix kids)))

  -- the number of the first item of a list
  abbrev pub list_number : Nodes → ℕ
  list_number kids = number_of (text_in bytes n.ListItemValue (kids_in n.ListItemPrefix (kids_in n.ListItem kids)))

  -- ---- children

  -- what a child spells, at the top or in a container, by its bytes, its children, and the blocks in it
  abbrev pub block_of : Bool → Name → List ℕ → Nodes → page.Blocks → page.Blocks
  block_of top n.LineEnding text kids inner = one (page.Ending (ending_of text))
  block_of top n.BlankLineEnding text kids inner = one (page.Blank (ending_of text))
  block_of top n.Paragraph text kids inner = leaf (page.Paragraph (inlines_of names bytes false kids))
  block_of top n.HeadingAtx text kids inner = leaf (heading_atx_of kids)
  block_of top n.HeadingSetext text kids inner = leaf (heading_setext_of kids)
  block_of top n.ThematicBreak text kids inner = leaf page.Break
  block_of top n.CodeIndented text kids inner = leaf (page.IndentedCode (raw_lines (raw_parts bytes kids)))
  block_of top n.CodeFenced text kids inner = leaf (code_fenced_of top kids)
  block_of top n.MathFlow text kids inner = leaf (math_flow_of top kids)
  block_of top n.HtmlFlow text kids inner = leaf (page.Html (raw_lines (raw_parts bytes kids)))
  block_of top n.GfmTable text kids inner = leaf (page.Table (table_of names bytes kids))
  block_of top n.Definition text kids inner = leaf page.Definition
  block_of top n.Frontmatter text kids inner = leaf page.Definition
  block_of top n.BlockQuote text kids inner = one (page.Holds page.Quote inner)
  block_of top n.ListItem text kids inner = one (page.Holds page.Item inner)
  block_of top n.GfmFootnoteDefinition text kids inner = one (page.Holds (page.Footnote (footnote_label kids)) inner)
  block_of top n.ListUnordered text kids inner = one (page.ItemList None (is_loose_list bytes true kids) inner)
  block_of top n.ListOrdered text kids inner = one (page.ItemList (Some (list_number kids)) (is_loose_list bytes true kids) inner)
  block_of top name text kids inner = page.Nil

  abbrev mutual
    -- children, one after another, at the top or in a container
    pub blocks_of : Bool → Nodes → page.Blocks
    blocks_of top Nil = page.Nil
    blocks_of top (Cons (Around enter kids exit) ns) =
        join (block_of top enter.name (text_of bytes (Around enter kids exit)) kids (blocks_from (start_of enter.name) kids)) (blocks_of top ns)

    -- those in a container, from the first of this name on
    pub blocks_from : Name → Nodes → page.Blocks
    blocks_from start Nil = page.Nil
    blocks_from start (Cons (Around enter kids exit) ns) =
        if same_name enter.name start
        then join (block_of false enter.name (text_of bytes (Around enter kids exit)) kids (blocks_from (start_of enter.name) kids)) (blocks_of false ns)
        else blocks_from start ns
