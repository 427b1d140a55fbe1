-- Which construct makes the events of a name (CommonMark 4 to 6).
use Rattle.std.specs.Prelude.{◌≡◌, Bool, true, ◌&&◌, ◌||◌, List}
use Rattle.std.specs.List.{list_all}
use Rattle.markdown_options.specs.declared.configuration.Constructs.{Constructs}
use Rattle.engine_events.specs.declared.event.Event.{Event}
use Rattle.engine_events.specs.declared.event.Name.{Name}
use Rattle.engine_events.specs.declared.event.Name.TheVariants as n

-- Whether the construct is on that makes events of this name. What events of several constructs have in common is on if one of these is.
--
-- A name that is in no case passes. No construct makes the names of the first line. That those of the second come from quotes that are on isn't stated: they may
-- stand wherever a line begins.
--   `Paragraph`, `Data`, `SpaceOrTab`, `LineEnding`, `BlankLineEnding`, `ByteOrderMark`, `AttentionSequence`, `Content`;
--   `BlockQuotePrefix`, `BlockQuoteMarker`.
abbrev pub is_on : Constructs → Name → Bool
-- frontmatter (in neither standard)
is_on on n.Frontmatter = on.frontmatter
is_on on n.FrontmatterFence = on.frontmatter
is_on on n.FrontmatterSequence = on.frontmatter
is_on on n.FrontmatterChunk = on.frontmatter
-- block quotes (CommonMark 5.1)
is_on on n.BlockQuote = on.block_quote
-- list items and lists (CommonMark 5.2 and 5.3)
is_on on n.ListOrdered = on.list_item
is_on on n.ListUnordered = on.list_item
is_on on n.ListItem = on.list_item
is_on on n.ListItemPrefix = on.list_item
is_on on n.ListItemMarker = on.list_item
is_on on n.ListItemValue = on.list_item
-- footnote definitions (GFM; in neither standard)
is_on on n.GfmFootnoteDefinition = on.gfm_footnote_definition
is_on on n.GfmFootnoteDefinitionPrefix = on.gfm_footnote_definition
is_on on n.GfmFootnoteDefinitionLabel = on.gfm_footnote_definition
is_on on n.GfmFootnoteDefinitionLabelMarker = on.gfm_footnote_definition
is_on on n.GfmFootnoteDefinitionMarker = on.gfm_footnote_definition
is_on on n.GfmFootnoteDefinitionLabelString = on.gfm_footnote_definition
-- thematic breaks (CommonMark 4.1)
is_on on n.ThematicBreak = on.thematic_break
is_on on n.ThematicBreakSequence = on.thematic_break
-- headings by `#` (CommonMark 4.2)
is_on on n.HeadingAtx = on.heading_atx
is_on on n.HeadingAtxSequence = on.heading_atx
is_on on n.HeadingAtxText = on.heading_atx
-- headings by an underline (CommonMark 4.3)
is_on on n.HeadingSetext = on.heading_setext
is_on on n.HeadingSetextText = on.heading_setext
is_on on n.HeadingSetextUnderline = on.heading_setext
is_on on n.HeadingSetextUnderlineSequence = on.heading_setext
-- indented code (CommonMark 4.4)
is_on on n.CodeIndented = on.code_indented
-- fenced code (CommonMark 4.5)
is_on on n.CodeFenced = on.code_fenced
is_on on n.CodeFencedFence = on.code_fenced
is_on on n.CodeFencedFenceSequence = on.code_fenced
is_on on n.CodeFencedFenceInfo = on.code_fenced
is_on on n.CodeFencedFenceMeta = on.code_fenced
-- lines of code of either kind (CommonMark 4.4 and 4.5)
is_on on n.CodeFlowChunk = on.code_indented || on.code_fenced
-- math in blocks (in neither standard)
is_on on n.MathFlow = on.math_flow
is_on on n.MathFlowFence = on.math_flow
is_on on n.MathFlowFenceSequence = on.math_flow
is_on on n.MathFlowFenceMeta = on.math_flow
is_on on n.MathFlowChunk = on.math_flow
-- HTML blocks (CommonMark 4.6)
is_on on n.HtmlFlow = on.html_flow
is_on on n.HtmlFlowData = on.html_flow
-- link reference definitions (CommonMark 4.7)
is_on on n.Definition = on.definition
is_on on n.DefinitionLabel = on.definition
is_on on n.DefinitionLabelMarker = on.definition
is_on on n.DefinitionLabelString = on.definition
is_on on n.DefinitionDestination = on.definition
is_on on n.DefinitionDestinationLiteral = on.definition
is_on on n.DefinitionDestinationLiteralMarker = on.definition
is_on on n.DefinitionDestinationRaw = on.definition
is_on on n.DefinitionDestinationString = on.definition
is_on on n.DefinitionTitle = on.definition
is_on on n.DefinitionTitleMarker = on.definition
is_on on n.DefinitionTitleString = on.definition
-- the colon after the label of a definition of either kind
is_on on n.DefinitionMarker = on.definition || on.gfm_footnote_definition
-- tables (GFM 4.10)
is_on on n.GfmTable = on.gfm_table
is_on on n.GfmTableHead = on.gfm_table
is_on on n.GfmTableBody = on.gfm_table
is_on on n.GfmTableRow = on.gfm_table
is_on on n.GfmTableCell = on.gfm_table
is_on on n.GfmTableCellDivider = on.gfm_table
is_on on n.GfmTableCellText = on.gfm_table
is_on on n.GfmTableDelimiterRow = on.gfm_table
is_on on n.GfmTableDelimiterCell = on.gfm_table
is_on on n.GfmTableDelimiterCellValue = on.gfm_table
is_on on n.GfmTableDelimiterMarker = on.gfm_table
is_on on n.GfmTableDelimiterFiller = on.gfm_table
-- escapes (CommonMark 2.4)
is_on on n.CharacterEscape = on.character_escape
is_on on n.CharacterEscapeMarker = on.character_escape
is_on on n.CharacterEscapeValue = on.character_escape
-- references (CommonMark 2.5)
is_on on n.CharacterReference = on.character_reference
is_on on n.CharacterReferenceMarker = on.character_reference
is_on on n.CharacterReferenceMarkerNumeric = on.character_reference
is_on on n.CharacterReferenceMarkerHexadecimal = on.character_reference
is_on on n.CharacterReferenceMarkerSemi = on.character_reference
is_on on n.CharacterReferenceValue = on.character_reference
-- code (CommonMark 6.1), and math (in neither standard)
is_on on n.CodeText = on.code_text
is_on on n.CodeTextSequence = on.code_text
is_on on n.CodeTextData = on.code_text
is_on on n.MathText = on.math_text
is_on on n.MathTextSequence = on.math_text
is_on on n.MathTextData = on.math_text
-- emphasis (CommonMark 6.2), strikethrough (GFM 6.5), marked text (in neither standard)
is_on on n.Emphasis = on.attention
is_on on n.EmphasisSequence = on.attention
is_on on n.EmphasisText = on.attention
is_on on n.Strong = on.attention
is_on on n.StrongSequence = on.attention
is_on on n.StrongText = on.attention
is_on on n.GfmStrikethrough = on.gfm_strikethrough
is_on on n.GfmStrikethroughSequence = on.gfm_strikethrough
is_on on n.GfmStrikethroughText = on.gfm_strikethrough
is_on on n.Mark = on.mark
is_on on n.MarkSequence = on.mark
is_on on n.MarkText = on.mark
-- links and images (CommonMark 6.3 and 6.4), and calls of footnotes (in neither standard)
is_on on n.Link = on.label_start_link && on.label_end
is_on on n.Image = on.label_start_image && on.label_end
is_on on n.GfmFootnoteCall = on.gfm_label_start_footnote && on.label_end
is_on on n.LabelLink = on.label_start_link && on.label_end
is_on on n.LabelImage = on.label_start_image && on.label_end
is_on on n.LabelImageMarker = on.label_start_image && on.label_end
is_on on n.GfmFootnoteCallLabel = on.gfm_label_start_footnote && on.label_end
is_on on n.GfmFootnoteCallMarker = on.gfm_label_start_footnote && on.label_end
is_on on n.Label = on.label_end
is_on on n.LabelText = on.label_end
is_on on n.LabelEnd = on.label_end
is_on on n.LabelMarker = on.label_end
is_on on n.Reference = on.label_end
is_on on n.ReferenceMarker = on.label_end
is_on on n.ReferenceString = on.label_end
is_on on n.Resource = on.label_end
is_on on n.ResourceMarker = on.label_end
is_on on n.ResourceDestination = on.label_end
is_on on n.ResourceDestinationLiteral = on.label_end
is_on on n.ResourceDestinationLiteralMarker = on.label_end
is_on on n.ResourceDestinationRaw = on.label_end
is_on on n.ResourceDestinationString = on.label_end
is_on on n.ResourceTitle = on.label_end
is_on on n.ResourceTitleMarker = on.label_end
is_on on n.ResourceTitleString = on.label_end
-- autolinks (CommonMark 6.5)
is_on on n.Autolink = on.autolink
is_on on n.AutolinkMarker = on.autolink
is_on on n.AutolinkProtocol = on.autolink
is_on on n.AutolinkEmail = on.autolink
-- links without brackets (GFM 6.9)
is_on on n.GfmAutolinkLiteralEmail = on.gfm_autolink_literal
is_on on n.GfmAutolinkLiteralMailto = on.gfm_autolink_literal
is_on on n.GfmAutolinkLiteralProtocol = on.gfm_autolink_literal
is_on on n.GfmAutolinkLiteralWww = on.gfm_autolink_literal
is_on on n.GfmAutolinkLiteralXmpp = on.gfm_autolink_literal
-- raw HTML (CommonMark 6.6)
is_on on n.HtmlText = on.html_text
is_on on n.HtmlTextData = on.html_text
-- hard line breaks (CommonMark 6.7)
is_on on n.HardBreakEscape = on.hard_break_escape
is_on on n.HardBreakTrailing = on.hard_break_trailing
-- checks of task list items (GFM 5.3)
is_on on n.GfmTaskListItemCheck = on.gfm_task_list_item
is_on on n.GfmTaskListItemMarker = on.gfm_task_list_item
is_on on n.GfmTaskListItemValueChecked = on.gfm_task_list_item
is_on on n.GfmTaskListItemValueUnchecked = on.gfm_task_list_item
-- MDX
is_on on n.MdxEsm = on.mdx_esm
is_on on n.MdxFlowExpression = on.mdx_expression_flow
is_on on n.MdxTextExpression = on.mdx_expression_text
is_on on n.MdxJsxFlowTag = on.mdx_jsx_flow
is_on on n.MdxJsxTextTag = on.mdx_jsx_text
is_on on name = true

-- no event has the name of a construct that is off
abbrev pub NothingIsOff : Constructs → List Event → Type 0
NothingIsOff on events = list_all (λ (e : Event). is_on on e.name) events ≡ true
