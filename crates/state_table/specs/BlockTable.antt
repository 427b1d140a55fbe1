-- How each block state may stand, and in which group of crates it is.
use Rattle.std.specs.Prelude.{ℕ, Bool, true, false, List, [], ◌∷◌}
use Rattle.engine_events.specs.declared.event.Name.TheVariants as names
use Rattle.engine_states.specs.declared.state.Block.{Block as BlockName}
use Rattle.engine_states.specs.declared.state.Block.TheVariants as state_block
use Rattle.engine_states.specs.declared.state.Name.{Name}
use Rattle.engine_states.specs.declared.state.Name.TheVariants.{Block, Inline}
use Rattle.state_table.specs.declared.block.Group.{Group}
use Rattle.state_table.specs.declared.block.Group.TheVariants as groups
use Rattle.engine_programs.specs.Bodies.{Token, FixedName, HeldName}
use Rattle.engine_programs.specs.Sorts.{Sort}
use Rattle.engine_states.specs.declared.state.Inline.{Inline as InlineName}
use Rattle.state_table.specs.declared.Group.{Group as InlineGroup}
use Rattle.state_table.specs.declared.Group.TheVariants as inline_groups
use Rattle.state_table.specs.Table.{first, first_plain, within, within_plain, resumes, ahead, outermost, raw_tokens, inline_row}

pub record BlockRow : Type 0 where
  pub group : Group
  pub sort : Sort

abbrev pub of_group : Group → Sort → BlockRow
of_group g s = record { group = g; sort = s }

-- ---- what is open

abbrev pub definition_tokens : List Token
definition_tokens = FixedName names.Definition ∷ []

abbrev pub paragraph_tokens : List Token
paragraph_tokens = FixedName names.Paragraph ∷ []

abbrev pub break_tokens : List Token
break_tokens = FixedName names.ThematicBreak ∷ []

abbrev pub atx_tokens : List Token
atx_tokens = FixedName names.HeadingAtx ∷ []

abbrev pub underline_tokens : List Token
underline_tokens = FixedName names.HeadingSetextUnderline ∷ []

abbrev pub indented_tokens : List Token
indented_tokens = FixedName names.CodeIndented ∷ []

abbrev pub fence_tokens : List Token
fence_tokens = HeldName 2 ∷ raw_tokens

abbrev pub closing_tokens : List Token
closing_tokens = HeldName 2 ∷ []

abbrev pub html_tokens : List Token
html_tokens = FixedName names.HtmlFlow ∷ []

abbrev pub html_data_tokens : List Token
html_data_tokens = FixedName names.HtmlFlowData ∷ html_tokens

abbrev pub head_tokens : List Token
head_tokens = FixedName names.GfmTableHead ∷ []

abbrev pub head_row_tokens : List Token
head_row_tokens = FixedName names.GfmTableRow ∷ head_tokens

abbrev pub delimiter_tokens : List Token
delimiter_tokens = FixedName names.GfmTableDelimiterRow ∷ head_tokens

abbrev pub row_tokens : List Token
row_tokens = FixedName names.GfmTableRow ∷ []

abbrev pub item_tokens : List Token
item_tokens = FixedName names.ListItemPrefix ∷ []

abbrev pub quote_tokens : List Token
quote_tokens = FixedName names.BlockQuotePrefix ∷ []

abbrev pub footnote_tokens : List Token
footnote_tokens = FixedName names.GfmFootnoteDefinitionPrefix ∷ []

abbrev pub footnote_label_tokens : List Token
footnote_label_tokens = FixedName names.GfmFootnoteDefinitionLabel ∷ footnote_tokens

abbrev pub footnote_string_tokens : List Token
footnote_string_tokens = FixedName names.Data ∷ FixedName names.GfmFootnoteDefinitionLabelString ∷ footnote_label_tokens

abbrev pub frontmatter_tokens : List Token
frontmatter_tokens = FixedName names.Frontmatter ∷ []

abbrev pub frontmatter_fence_tokens : List Token
frontmatter_fence_tokens = FixedName names.FrontmatterFence ∷ frontmatter_tokens

abbrev pub frontmatter_closing_tokens : List Token
frontmatter_closing_tokens = FixedName names.FrontmatterFence ∷ []

-- ---- sorts

-- where an event began before a byte was read
abbrev pub begun : List Token → ℕ → Sort
begun open_tokens height = record (within open_tokens height) { moved = false; exits = false }

-- the same, where names of events may be kept
abbrev pub begun_plain : List Token → ℕ → Sort
begun_plain open_tokens height = record (begun open_tokens height) { plain = true }

-- in lines of a block that can't fail
abbrev pub in_lines : List Token → ℕ → Sort
in_lines open_tokens height = record (outermost false height) { open_tokens = open_tokens; exits = true }

-- at the further lines of indented code, which leave a chunk open
abbrev pub further : List Token → ℕ → Sort
further open_tokens height = record (within open_tokens height) { leaves = FixedName names.CodeFlowChunk ∷ [] }

abbrev pub further_first : ℕ → Sort
further_first height = record (further [] height) { moved = false; exits = false }

-- ---- rows

abbrev pub block_row : BlockName → BlockRow
-- content
block_row state_block.ContentDefinitionBefore = of_group groups.Content (outermost false 14)
block_row state_block.ContentDefinitionAfter = of_group groups.Content (outermost true 13)
block_row state_block.ContentChunkStart = of_group groups.Content (record (first 5) { byte = true; sure = true })
block_row state_block.ContentChunkInside = of_group groups.Content (record (within (FixedName names.Content ∷ []) 4) { sure = true })
-- definition
block_row state_block.DefinitionStart = of_group groups.Content (first_plain 12)
block_row state_block.DefinitionBefore = of_group groups.Content (begun_plain definition_tokens 3)
block_row state_block.DefinitionLabelAfter = of_group groups.Content (resumes (within_plain definition_tokens 8))
block_row state_block.DefinitionLabelNok = of_group groups.Content (begun_plain definition_tokens 1)
block_row state_block.DefinitionMarkerAfter = of_group groups.Content (within_plain definition_tokens 9)
block_row state_block.DefinitionDestinationBefore = of_group groups.Content (within_plain definition_tokens 8)
block_row state_block.DefinitionDestinationAfter = of_group groups.Content (resumes (within_plain definition_tokens 13))
block_row state_block.DefinitionDestinationMissing = of_group groups.Content (record (within_plain definition_tokens 1) { exits = false })
block_row state_block.DefinitionAfter = of_group groups.Content (within_plain definition_tokens 5)
block_row state_block.DefinitionAfterWhitespace = of_group groups.Content (within_plain definition_tokens 1)
block_row state_block.DefinitionTitleBefore = of_group groups.Content (first_plain 7)
block_row state_block.DefinitionTitleBeforeMarker = of_group groups.Content (resumes (within_plain [] 8))
block_row state_block.DefinitionTitleAfter = of_group groups.Content (within_plain [] 5)
block_row state_block.DefinitionTitleAfterOptionalWhitespace = of_group groups.Content (within_plain [] 1)
-- paragraph
block_row state_block.ParagraphStart = of_group groups.Content (outermost false 12)
block_row state_block.ParagraphLineStart = of_group groups.Content (in_lines paragraph_tokens 12)
block_row state_block.ParagraphInside = of_group groups.Content (in_lines (FixedName names.Data ∷ paragraph_tokens) 11)
-- blank_line
block_row state_block.BlankLineStart = of_group groups.Leaves (ahead 5)
block_row state_block.BlankLineAfter = of_group groups.Leaves (ahead 1)
-- partial_non_lazy_continuation
block_row state_block.NonLazyContinuationStart = of_group groups.Leaves (first 2)
block_row state_block.NonLazyContinuationAfter = of_group groups.Leaves (within [] 1)
-- thematic_break
block_row state_block.ThematicBreakStart = of_group groups.Leaves (first 9)
block_row state_block.ThematicBreakBefore = of_group groups.Leaves (begun break_tokens 5)
block_row state_block.ThematicBreakAtBreak = of_group groups.Leaves (within break_tokens 4)
block_row state_block.ThematicBreakSequence = of_group groups.Leaves (within (FixedName names.ThematicBreakSequence ∷ break_tokens) 8)
-- heading_atx
block_row state_block.HeadingAtxStart = of_group groups.Leaves (first 9)
block_row state_block.HeadingAtxBefore = of_group groups.Leaves (begun atx_tokens 5)
block_row state_block.HeadingAtxSequenceOpen = of_group groups.Leaves (within (FixedName names.HeadingAtxSequence ∷ atx_tokens) 9)
block_row state_block.HeadingAtxAtBreak = of_group groups.Leaves (resumes (within atx_tokens 8))
block_row state_block.HeadingAtxSequenceFurther = of_group groups.Leaves (within (FixedName names.HeadingAtxSequence ∷ atx_tokens) 9)
block_row state_block.HeadingAtxData = of_group groups.Leaves (within (FixedName names.Data ∷ atx_tokens) 9)
-- code_indented
block_row state_block.CodeIndentedStart = of_group groups.Leaves (first 9)
block_row state_block.CodeIndentedAtBreak = of_group groups.Leaves (resumes (within indented_tokens 8))
block_row state_block.CodeIndentedInside = of_group groups.Leaves (record (resumes (within (FixedName names.CodeFlowChunk ∷ indented_tokens) 9)) { given = 1 })
block_row state_block.CodeIndentedAfter = of_group groups.Leaves (within indented_tokens 1)
block_row state_block.CodeIndentedFurtherStart = of_group groups.Leaves (further_first 7)
block_row state_block.CodeIndentedFurtherBegin = of_group groups.Leaves (resumes (further [] 8))
block_row state_block.CodeIndentedFurtherAfter = of_group groups.Leaves (further (FixedName names.CodeFlowChunk ∷ []) 9)
-- raw_flow
block_row state_block.RawFlowStart = of_group groups.Leaves (first_plain 14)
block_row state_block.RawFlowBeforeSequenceOpen = of_group groups.Leaves (first_plain 10)
block_row state_block.RawFlowSequenceOpen = of_group groups.Leaves (within (HeldName 3 ∷ fence_tokens) 14)
block_row state_block.RawFlowInfoBefore = of_group groups.Leaves (within fence_tokens 11)
block_row state_block.RawFlowInfo = of_group groups.Leaves (within (FixedName names.Data ∷ HeldName 4 ∷ fence_tokens) 13)
block_row state_block.RawFlowMetaBefore = of_group groups.Leaves (within fence_tokens 12)
block_row state_block.RawFlowMeta = of_group groups.Leaves (within (FixedName names.Data ∷ HeldName 5 ∷ fence_tokens) 13)
block_row state_block.RawFlowAtNonLazyBreak = of_group groups.Leaves (within raw_tokens 9)
block_row state_block.RawFlowCloseStart = of_group groups.Leaves (first 6)
block_row state_block.RawFlowBeforeSequenceClose = of_group groups.Leaves (begun closing_tokens 2)
block_row state_block.RawFlowSequenceClose = of_group groups.Leaves (within (HeldName 3 ∷ closing_tokens) 6)
block_row state_block.RawFlowSequenceCloseAfter = of_group groups.Leaves (within closing_tokens 1)
block_row state_block.RawFlowContentBefore = of_group groups.Leaves (within raw_tokens 7)
block_row state_block.RawFlowContentStart = of_group groups.Leaves (within raw_tokens 14)
block_row state_block.RawFlowBeforeContentChunk = of_group groups.Leaves (within raw_tokens 13)
block_row state_block.RawFlowContentChunk = of_group groups.Leaves (within (HeldName 6 ∷ raw_tokens) 14)
block_row state_block.RawFlowAfter = of_group groups.Leaves (within raw_tokens 1)
-- html_flow
block_row state_block.HtmlFlowStart = of_group groups.Html (first 9)
block_row state_block.HtmlFlowBefore = of_group groups.Html (begun html_data_tokens 5)
block_row state_block.HtmlFlowOpen = of_group groups.Html (within html_data_tokens 17)
block_row state_block.HtmlFlowDeclarationOpen = of_group groups.Html (within html_data_tokens 8)
block_row state_block.HtmlFlowCommentOpenInside = of_group groups.Html (within html_data_tokens 8)
block_row state_block.HtmlFlowCdataOpenInside = of_group groups.Html (within html_data_tokens 8)
block_row state_block.HtmlFlowTagCloseStart = of_group groups.Html (within html_data_tokens 8)
block_row state_block.HtmlFlowTagName = of_group groups.Html (within html_data_tokens 16)
block_row state_block.HtmlFlowBasicSelfClosing = of_group groups.Html (within html_data_tokens 8)
block_row state_block.HtmlFlowCompleteClosingTagAfter = of_group groups.Html (within html_data_tokens 8)
block_row state_block.HtmlFlowCompleteAttributeNameBefore = of_group groups.Html (within html_data_tokens 8)
block_row state_block.HtmlFlowCompleteAttributeName = of_group groups.Html (within html_data_tokens 10)
block_row state_block.HtmlFlowCompleteAttributeNameAfter = of_group groups.Html (within html_data_tokens 9)
block_row state_block.HtmlFlowCompleteAttributeValueBefore = of_group groups.Html (within html_data_tokens 11)
block_row state_block.HtmlFlowCompleteAttributeValueQuoted = of_group groups.Html (within html_data_tokens 8)
block_row state_block.HtmlFlowCompleteAttributeValueUnquoted = of_group groups.Html (within html_data_tokens 10)
block_row state_block.HtmlFlowCompleteAttributeValueQuotedAfter = of_group groups.Html (within html_data_tokens 9)
block_row state_block.HtmlFlowCompleteEnd = of_group groups.Html (within html_data_tokens 7)
block_row state_block.HtmlFlowCompleteAfter = of_group groups.Html (within html_data_tokens 13)
block_row state_block.HtmlFlowContinuation = of_group groups.Html (within html_data_tokens 12)
block_row state_block.HtmlFlowContinuationStart = of_group groups.Html (within html_tokens 7)
block_row state_block.HtmlFlowContinuationStartNonLazy = of_group groups.Html (within html_tokens 4)
block_row state_block.HtmlFlowContinuationBefore = of_group groups.Html (within html_tokens 13)
block_row state_block.HtmlFlowContinuationCommentInside = of_group groups.Html (within html_data_tokens 13)
block_row state_block.HtmlFlowContinuationRawTagOpen = of_group groups.Html (within html_data_tokens 13)
block_row state_block.HtmlFlowContinuationRawEndTag = of_group groups.Html (within html_data_tokens 13)
block_row state_block.HtmlFlowContinuationCdataInside = of_group groups.Html (within html_data_tokens 13)
block_row state_block.HtmlFlowContinuationDeclarationInside = of_group groups.Html (within html_data_tokens 13)
block_row state_block.HtmlFlowContinuationClose = of_group groups.Html (within html_data_tokens 8)
block_row state_block.HtmlFlowContinuationAfter = of_group groups.Html (within html_tokens 1)
block_row state_block.HtmlFlowBlankLineBefore = of_group groups.Html (ahead 6)
-- heading_setext
block_row state_block.HeadingSetextStart = of_group groups.Table (first 9)
block_row state_block.HeadingSetextBefore = of_group groups.Table (begun underline_tokens 5)
block_row state_block.HeadingSetextInside = of_group groups.Table (within (FixedName names.HeadingSetextUnderlineSequence ∷ underline_tokens) 6)
block_row state_block.HeadingSetextAfter = of_group groups.Table (within underline_tokens 1)
-- gfm_table
block_row state_block.GfmTableStart = of_group groups.Table (first 14)
block_row state_block.GfmTableHeadRowBefore = of_group groups.Table (first 13)
block_row state_block.GfmTableHeadRowStart = of_group groups.Table (begun head_row_tokens 9)
block_row state_block.GfmTableHeadRowBreak = of_group groups.Table (resumes (begun head_row_tokens 8))
block_row state_block.GfmTableHeadRowData = of_group groups.Table (within (FixedName names.Data ∷ head_row_tokens) 9)
block_row state_block.GfmTableHeadRowEscape = of_group groups.Table (within (FixedName names.Data ∷ head_row_tokens) 10)
block_row state_block.GfmTableHeadDelimiterStart = of_group groups.Table (within head_tokens 9)
block_row state_block.GfmTableHeadDelimiterBefore = of_group groups.Table (record (within delimiter_tokens 8) { exits = false })
block_row state_block.GfmTableHeadDelimiterCellBefore = of_group groups.Table (within delimiter_tokens 12)
block_row state_block.GfmTableHeadDelimiterValueBefore = of_group groups.Table (record (within delimiter_tokens 7) { exits = false })
block_row state_block.GfmTableHeadDelimiterLeftAlignmentAfter = of_group groups.Table (within delimiter_tokens 8)
block_row state_block.GfmTableHeadDelimiterFiller = of_group groups.Table (within (FixedName names.GfmTableDelimiterFiller ∷ delimiter_tokens) 12)
block_row state_block.GfmTableHeadDelimiterRightAlignmentAfter = of_group groups.Table (within delimiter_tokens 11)
block_row state_block.GfmTableHeadDelimiterCellAfter = of_group groups.Table (record (within delimiter_tokens 6) { exits = false })
block_row state_block.GfmTableHeadDelimiterNok = of_group groups.Table (record (within delimiter_tokens 1) { exits = false })
block_row state_block.GfmTableBodyRowStart = of_group groups.Table (first 12)
block_row state_block.GfmTableBodyRowBreak = of_group groups.Table (resumes (within row_tokens 8))
block_row state_block.GfmTableBodyRowData = of_group groups.Table (within (FixedName names.Data ∷ row_tokens) 9)
block_row state_block.GfmTableBodyRowEscape = of_group groups.Table (within (FixedName names.Data ∷ row_tokens) 10)
-- flow
block_row state_block.FlowStart = of_group groups.Flow (outermost false 30)
block_row state_block.FlowBlankLineBefore = of_group groups.Flow (outermost false 29)
block_row state_block.FlowBeforeCodeIndented = of_group groups.Flow (outermost false 27)
block_row state_block.FlowBeforeRaw = of_group groups.Flow (outermost true 25)
block_row state_block.FlowBeforeHtml = of_group groups.Flow (outermost false 26)
block_row state_block.FlowBeforeHeadingAtx = of_group groups.Flow (outermost false 24)
block_row state_block.FlowBeforeHeadingSetext = of_group groups.Flow (outermost false 23)
block_row state_block.FlowBeforeThematicBreak = of_group groups.Flow (outermost false 22)
block_row state_block.FlowBeforeGfmTable = of_group groups.Flow (outermost false 21)
block_row state_block.FlowBeforeContent = of_group groups.Flow (outermost false 8)
block_row state_block.FlowBlankLineAfter = of_group groups.Flow (outermost false 1)
block_row state_block.FlowAfter = of_group groups.Flow (outermost true 1)
-- block_quote
block_row state_block.BlockQuoteStart = of_group groups.Containers (first 5)
block_row state_block.BlockQuoteContStart = of_group groups.Containers (first 5)
block_row state_block.BlockQuoteContBefore = of_group groups.Containers (first 1)
block_row state_block.BlockQuoteContAfter = of_group groups.Containers (within quote_tokens 1)
-- list_item
block_row state_block.ListItemStart = of_group groups.Containers (first 18)
block_row state_block.ListItemBefore = of_group groups.Containers (first 14)
block_row state_block.ListItemBeforeUnordered = of_group groups.Containers (first 2)
block_row state_block.ListItemBeforeOrdered = of_group groups.Containers (first 2)
block_row state_block.ListItemValue = of_group groups.Containers (within (FixedName names.ListItemValue ∷ item_tokens) 5)
block_row state_block.ListItemMarker = of_group groups.Containers (begun item_tokens 1)
block_row state_block.ListItemMarkerAfter = of_group groups.Containers (within item_tokens 16)
block_row state_block.ListItemMarkerAfterFilled = of_group groups.Containers (within item_tokens 12)
block_row state_block.ListItemWhitespace = of_group groups.Containers (first 6)
block_row state_block.ListItemWhitespaceAfter = of_group groups.Containers (resumes (within [] 1))
block_row state_block.ListItemPrefixOther = of_group groups.Containers (within item_tokens 4)
block_row state_block.ListItemAfter = of_group groups.Containers (within item_tokens 1)
block_row state_block.ListItemContStart = of_group groups.Containers (first 14)
block_row state_block.ListItemContBlank = of_group groups.Containers (first 1)
block_row state_block.ListItemContFilled = of_group groups.Containers (first 8)
-- gfm_footnote_definition
block_row state_block.GfmFootnoteDefinitionStart = of_group groups.Containers (first 5)
block_row state_block.GfmFootnoteDefinitionLabelBefore = of_group groups.Containers (first 1)
block_row state_block.GfmFootnoteDefinitionLabelAtMarker = of_group groups.Containers (within footnote_label_tokens 1)
block_row state_block.GfmFootnoteDefinitionLabelInside = of_group groups.Containers (record (within footnote_string_tokens 2) { exits = false })
block_row state_block.GfmFootnoteDefinitionLabelEscape = of_group groups.Containers (within footnote_string_tokens 3)
block_row state_block.GfmFootnoteDefinitionLabelAfter = of_group groups.Containers (within footnote_tokens 1)
block_row state_block.GfmFootnoteDefinitionWhitespaceAfter = of_group groups.Containers (resumes (within footnote_tokens 4))
block_row state_block.GfmFootnoteDefinitionContStart = of_group groups.Containers (first 14)
block_row state_block.GfmFootnoteDefinitionContBlank = of_group groups.Containers (first 1)
block_row state_block.GfmFootnoteDefinitionContFilled = of_group groups.Containers (first 8)
-- partial_bom
block_row state_block.BomStart = of_group groups.Containers (first 3)
block_row state_block.BomInside = of_group groups.Containers (within (FixedName names.ByteOrderMark ∷ []) 1)
-- frontmatter
block_row state_block.FrontmatterStart = of_group groups.Containers (first 5)
block_row state_block.FrontmatterOpenSequence = of_group groups.Containers (within (FixedName names.FrontmatterSequence ∷ frontmatter_fence_tokens) 8)
block_row state_block.FrontmatterOpenAfter = of_group groups.Containers (within frontmatter_fence_tokens 4)
block_row state_block.FrontmatterContentEnd = of_group groups.Containers (within frontmatter_tokens 3)
block_row state_block.FrontmatterCloseStart = of_group groups.Containers (first 7)
block_row state_block.FrontmatterCloseSequence = of_group groups.Containers (within (FixedName names.FrontmatterSequence ∷ frontmatter_closing_tokens) 8)
block_row state_block.FrontmatterCloseAfter = of_group groups.Containers (within frontmatter_closing_tokens 1)
block_row state_block.FrontmatterContentStart = of_group groups.Containers (within frontmatter_tokens 8)
block_row state_block.FrontmatterContentInside = of_group groups.Containers (within (FixedName names.FrontmatterChunk ∷ frontmatter_tokens) 9)
block_row state_block.FrontmatterAfter = of_group groups.Containers (within frontmatter_tokens 1)
-- document
block_row state_block.DocumentStart = of_group groups.Document (outermost false 115)
block_row state_block.DocumentBeforeFrontmatter = of_group groups.Document (outermost false 57)
block_row state_block.DocumentContainerExistingBefore = of_group groups.Document (outermost false 29)
block_row state_block.DocumentContainerExistingAfter = of_group groups.Document (outermost true 30)
block_row state_block.DocumentContainerNewBefore = of_group groups.Document (outermost false 28)
block_row state_block.DocumentContainerNewBeforeNotBlockQuote = of_group groups.Document (outermost false 25)
block_row state_block.DocumentContainerNewBeforeNotList = of_group groups.Document (outermost false 23)
block_row state_block.DocumentContainerNewBeforeNotGfmFootnoteDefinition = of_group groups.Document (outermost false 21)
block_row state_block.DocumentContainerNewAfter = of_group groups.Document (outermost true 30)
block_row state_block.DocumentContainersAfter = of_group groups.Document (outermost true 9)
block_row state_block.DocumentFlowInside = of_group groups.Document (in_lines (FixedName names.Data ∷ []) 10)
block_row state_block.DocumentFlowEnd = of_group groups.Document (outermost false 31)

-- of all states; a block may read labels, titles, destinations and white space
abbrev pub block_sorts : Name → Sort
block_sorts (Block n) = (block_row n).sort
block_sorts (Inline n) = (inline_row n).sort

-- the same, where only labels and the like are read of the inline states
abbrev pub label_sort : InlineGroup → InlineName → Sort
label_sort inline_groups.Labels n = (inline_row n).sort
label_sort g n = first 4

abbrev pub block_group : BlockName → Group
block_group n = (block_row n).group

abbrev pub same_group : Group → Group → Bool
same_group groups.Content groups.Content = true
same_group groups.Leaves groups.Leaves = true
same_group groups.Html groups.Html = true
same_group groups.Table groups.Table = true
same_group groups.Flow groups.Flow = true
same_group groups.Containers groups.Containers = true
same_group groups.Document groups.Document = true
same_group g h = false

abbrev pub is_in_group : Group → BlockName → Bool
is_in_group g n = same_group (block_group n) g
