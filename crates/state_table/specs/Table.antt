-- How each inline state may stand, and in which group of crates it is.
use Rattle.std.specs.Prelude.{ℕ, Bool, true, false, List, [], ◌∷◌}
use Rattle.engine_events.specs.declared.event.Name.TheVariants as names
use Rattle.engine_states.specs.declared.state.Inline.{Inline as InlineName}
use Rattle.engine_states.specs.declared.state.Inline.TheVariants as state_inline
use Rattle.engine_states.specs.declared.state.Name.{Name}
use Rattle.engine_states.specs.declared.state.Name.TheVariants.{Inline}
use Rattle.state_table.specs.declared.Group.{Group}
use Rattle.state_table.specs.declared.Group.TheVariants as groups
use Rattle.engine_programs.specs.Bodies.{Token, FixedName, HeldName}
use Rattle.engine_programs.specs.Sorts.{Sort}

pub record Row : Type 0 where
  pub group : Group
  pub sort : Sort

abbrev pub of_group : Group → Sort → Row
of_group g s = record { group = g; sort = s }

-- ---- what is open

abbrev pub html_tokens : List Token
html_tokens = FixedName names.HtmlTextData ∷ FixedName names.HtmlText ∷ []

abbrev pub reference_tokens : List Token
reference_tokens = FixedName names.CharacterReference ∷ []

abbrev pub address_tokens : List Token
address_tokens = FixedName names.AutolinkProtocol ∷ FixedName names.Autolink ∷ []

abbrev pub raw_tokens : List Token
raw_tokens = HeldName 1 ∷ []

abbrev pub check_tokens : List Token
check_tokens = FixedName names.GfmTaskListItemCheck ∷ []

abbrev pub label_tokens : List Token
label_tokens = HeldName 3 ∷ HeldName 1 ∷ []

abbrev pub title_tokens : List Token
title_tokens = HeldName 3 ∷ HeldName 1 ∷ []

abbrev pub enclosed_tokens : List Token
enclosed_tokens = HeldName 2 ∷ HeldName 1 ∷ []

abbrev pub resource_tokens : List Token
resource_tokens = FixedName names.Resource ∷ []

abbrev pub raw_destination_tokens : List Token
raw_destination_tokens = FixedName names.Data ∷ HeldName 5 ∷ HeldName 4 ∷ HeldName 1 ∷ []

-- ---- sorts

abbrev pub base : List Token → ℕ → Sort
base open_tokens height = record {
  open_tokens = open_tokens;
  leaves = [];
  given = 0;
  after = false;
  moved = true;
  yields = true;
  sure = false;
  plain = false;
  byte = false;
  exits = true;
  firm = true;
  height = height;
}

-- where a construct may begin
abbrev pub first : ℕ → Sort
first height = record (base [] height) { moved = false; exits = false }

-- the same, of a construct that keeps names of events
abbrev pub first_plain : ℕ → Sort
first_plain height = record (first height) { plain = true }

-- within a construct
abbrev pub within : List Token → ℕ → Sort
within open_tokens height = base open_tokens height

-- the same, where names of events may be kept
abbrev pub within_plain : List Token → ℕ → Sort
within_plain open_tokens height = record (base open_tokens height) { plain = true }

-- where reading goes on after an attempt that read a byte
abbrev pub resumes : Sort → Sort
resumes s = record s { after = true }

-- the same, in data of HTML that the attempt left open
abbrev pub in_html : ℕ → Sort
in_html height = record (base html_tokens height) { given = 1; after = true; exits = false }

-- over a line ending of HTML
abbrev pub html_line : Bool → ℕ → Sort
html_line moved height = record (base [] height) { leaves = FixedName names.HtmlTextData ∷ []; moved = moved; exits = false; firm = false }

-- states of texts and strings: nothing is open, and they go well
abbrev pub outermost : Bool → ℕ → Sort
outermost after height = record (base [] height) { after = after; moved = false; yields = false; sure = true; plain = true; exits = false; firm = false }

-- data: it goes well
abbrev pub in_data : List Token → ℕ → Sort
in_data open_tokens height = record (base open_tokens height) { sure = true }

-- a look ahead, that may end where it begins
abbrev pub ahead : ℕ → Sort
ahead height = record (first height) { yields = false; firm = false }

abbrev pub inline_row : InlineName → Row
-- attention
inline_row state_inline.AttentionStart = of_group groups.Leaves (first 4)
inline_row state_inline.AttentionInside = of_group groups.Leaves (within (FixedName names.AttentionSequence ∷ []) 1)
-- autolink
inline_row state_inline.AutolinkStart = of_group groups.Html (first 4)
inline_row state_inline.AutolinkOpen = of_group groups.Html (within address_tokens 4)
inline_row state_inline.AutolinkSchemeOrEmailAtext = of_group groups.Html (within address_tokens 3)
inline_row state_inline.AutolinkSchemeInsideOrEmailAtext = of_group groups.Html (within address_tokens 2)
inline_row state_inline.AutolinkUrlInside = of_group groups.Html (within address_tokens 1)
inline_row state_inline.AutolinkEmailAtext = of_group groups.Html (within address_tokens 1)
inline_row state_inline.AutolinkEmailAtSignOrDot = of_group groups.Html (within address_tokens 3)
inline_row state_inline.AutolinkEmailLabel = of_group groups.Html (within address_tokens 2)
inline_row state_inline.AutolinkEmailValue = of_group groups.Html (within address_tokens 1)
-- character_escape
inline_row state_inline.CharacterEscapeStart = of_group groups.Leaves (first 4)
inline_row state_inline.CharacterEscapeInside = of_group groups.Leaves (within (FixedName names.CharacterEscape ∷ []) 1)
-- character_reference
inline_row state_inline.CharacterReferenceStart = of_group groups.Leaves (first 4)
inline_row state_inline.CharacterReferenceOpen = of_group groups.Leaves (within reference_tokens 1)
inline_row state_inline.CharacterReferenceNumeric = of_group groups.Leaves (within reference_tokens 1)
inline_row state_inline.CharacterReferenceValue = of_group groups.Leaves (within (FixedName names.CharacterReferenceValue ∷ reference_tokens) 1)
-- gfm_autolink_literal
inline_row state_inline.GfmAutolinkLiteralProtocolStart = of_group groups.Gfm (first 4)
inline_row state_inline.GfmAutolinkLiteralProtocolAfter = of_group groups.Gfm (resumes (within (FixedName names.GfmAutolinkLiteralProtocol ∷ []) 1))
inline_row state_inline.GfmAutolinkLiteralProtocolPrefixInside = of_group groups.Gfm (first 1)
inline_row state_inline.GfmAutolinkLiteralProtocolSlashesInside = of_group groups.Gfm (within [] 7)
inline_row state_inline.GfmAutolinkLiteralWwwStart = of_group groups.Gfm (first 4)
inline_row state_inline.GfmAutolinkLiteralWwwAfter = of_group groups.Gfm (resumes (within (FixedName names.GfmAutolinkLiteralWww ∷ []) 1))
inline_row state_inline.GfmAutolinkLiteralWwwPrefixInside = of_group groups.Gfm (first 1)
inline_row state_inline.GfmAutolinkLiteralWwwPrefixAfter = of_group groups.Gfm (within [] 7)
inline_row state_inline.GfmAutolinkLiteralDomainInside = of_group groups.Gfm (within [] 6)
inline_row state_inline.GfmAutolinkLiteralDomainAtPunctuation = of_group groups.Gfm (within [] 1)
inline_row state_inline.GfmAutolinkLiteralDomainAfter = of_group groups.Gfm (within [] 4)
inline_row state_inline.GfmAutolinkLiteralPathInside = of_group groups.Gfm (within [] 3)
inline_row state_inline.GfmAutolinkLiteralPathAtPunctuation = of_group groups.Gfm (within [] 1)
inline_row state_inline.GfmAutolinkLiteralPathAfter = of_group groups.Gfm (within [] 1)
inline_row state_inline.GfmAutolinkLiteralTrail = of_group groups.Gfm (ahead 1)
inline_row state_inline.GfmAutolinkLiteralTrailBracketAfter = of_group groups.Gfm (ahead 1)
inline_row state_inline.GfmAutolinkLiteralTrailCharRefStart = of_group groups.Gfm (ahead 1)
inline_row state_inline.GfmAutolinkLiteralTrailCharRefInside = of_group groups.Gfm (ahead 1)
-- gfm_label_start_footnote
inline_row state_inline.GfmLabelStartFootnoteStart = of_group groups.Gfm (first 4)
inline_row state_inline.GfmLabelStartFootnoteOpen = of_group groups.Gfm (within (FixedName names.GfmFootnoteCallLabel ∷ []) 1)
-- gfm_task_list_item_check
inline_row state_inline.GfmTaskListItemCheckStart = of_group groups.Gfm (first 4)
inline_row state_inline.GfmTaskListItemCheckInside = of_group groups.Gfm (within check_tokens 1)
inline_row state_inline.GfmTaskListItemCheckClose = of_group groups.Gfm (within check_tokens 1)
inline_row state_inline.GfmTaskListItemCheckAfter = of_group groups.Gfm (within [] 5)
inline_row state_inline.GfmTaskListItemCheckAfterSpaceOrTab = of_group groups.Gfm (record (ahead 4) { after = true })
-- hard_break_escape
inline_row state_inline.HardBreakEscapeStart = of_group groups.Leaves (first 4)
inline_row state_inline.HardBreakEscapeAfter = of_group groups.Leaves (within (FixedName names.HardBreakEscape ∷ []) 1)
-- html_text
inline_row state_inline.HtmlTextStart = of_group groups.Html (first 4)
inline_row state_inline.HtmlTextOpen = of_group groups.Html (within html_tokens 1)
inline_row state_inline.HtmlTextDeclarationOpen = of_group groups.Html (within html_tokens 1)
inline_row state_inline.HtmlTextCommentOpenInside = of_group groups.Html (within html_tokens 1)
inline_row state_inline.HtmlTextComment = of_group groups.Html (in_html 2)
inline_row state_inline.HtmlTextCommentClose = of_group groups.Html (within html_tokens 3)
inline_row state_inline.HtmlTextCommentEnd = of_group groups.Html (within html_tokens 4)
inline_row state_inline.HtmlTextCdataOpenInside = of_group groups.Html (within html_tokens 1)
inline_row state_inline.HtmlTextCdata = of_group groups.Html (in_html 2)
inline_row state_inline.HtmlTextCdataClose = of_group groups.Html (within html_tokens 3)
inline_row state_inline.HtmlTextCdataEnd = of_group groups.Html (within html_tokens 4)
inline_row state_inline.HtmlTextDeclaration = of_group groups.Html (in_html 2)
inline_row state_inline.HtmlTextInstruction = of_group groups.Html (in_html 2)
inline_row state_inline.HtmlTextInstructionClose = of_group groups.Html (within html_tokens 3)
inline_row state_inline.HtmlTextTagCloseStart = of_group groups.Html (within html_tokens 1)
inline_row state_inline.HtmlTextTagClose = of_group groups.Html (within html_tokens 3)
inline_row state_inline.HtmlTextTagCloseBetween = of_group groups.Html (in_html 2)
inline_row state_inline.HtmlTextTagOpen = of_group groups.Html (within html_tokens 4)
inline_row state_inline.HtmlTextTagOpenBetween = of_group groups.Html (in_html 2)
inline_row state_inline.HtmlTextTagOpenAttributeName = of_group groups.Html (within html_tokens 4)
inline_row state_inline.HtmlTextTagOpenAttributeNameAfter = of_group groups.Html (in_html 3)
inline_row state_inline.HtmlTextTagOpenAttributeValueBefore = of_group groups.Html (in_html 3)
inline_row state_inline.HtmlTextTagOpenAttributeValueQuoted = of_group groups.Html (in_html 3)
inline_row state_inline.HtmlTextTagOpenAttributeValueUnquoted = of_group groups.Html (within html_tokens 4)
inline_row state_inline.HtmlTextTagOpenAttributeValueQuotedAfter = of_group groups.Html (within html_tokens 4)
inline_row state_inline.HtmlTextEnd = of_group groups.Html (record (within html_tokens 1) { exits = false })
inline_row state_inline.HtmlTextLineEndingBefore = of_group groups.Html (html_line false 1)
inline_row state_inline.HtmlTextLineEndingAfter = of_group groups.Html (html_line true 5)
inline_row state_inline.HtmlTextLineEndingAfterPrefix = of_group groups.Html (html_line true 1)
-- partial_data
inline_row state_inline.DataStart = of_group groups.Leaves (record (first 3) { sure = true; byte = true })
inline_row state_inline.DataAtBreak = of_group groups.Leaves (in_data [] 1)
inline_row state_inline.DataInside = of_group groups.Leaves (in_data (FixedName names.Data ∷ []) 2)
-- partial_space_or_tab
inline_row state_inline.SpaceOrTabStart = of_group groups.Labels (first 3)
inline_row state_inline.SpaceOrTabInside = of_group groups.Labels (within (FixedName names.SpaceOrTab ∷ []) 2)
inline_row state_inline.SpaceOrTabAfter = of_group groups.Labels (within [] 1)
-- partial_space_or_tab_eol
inline_row state_inline.SpaceOrTabEolStart = of_group groups.Labels (first 6)
inline_row state_inline.SpaceOrTabEolAfterFirst = of_group groups.Labels (resumes (within [] 5))
inline_row state_inline.SpaceOrTabEolAtEol = of_group groups.Labels (first 1)
inline_row state_inline.SpaceOrTabEolAfterEol = of_group groups.Labels (within [] 5)
inline_row state_inline.SpaceOrTabEolAfterMore = of_group groups.Labels (within [] 1)
-- label_start_image
inline_row state_inline.LabelStartImageStart = of_group groups.Labels (first 4)
inline_row state_inline.LabelStartImageOpen = of_group groups.Labels (within (FixedName names.LabelImage ∷ []) 1)
inline_row state_inline.LabelStartImageAfter = of_group groups.Labels (within [] 1)
-- label_start_link
inline_row state_inline.LabelStartLinkStart = of_group groups.Labels (first 4)
-- partial_destination
inline_row state_inline.DestinationStart = of_group groups.Labels (first 1)
inline_row state_inline.DestinationEnclosedBefore = of_group groups.Labels (within enclosed_tokens 1)
inline_row state_inline.DestinationEnclosed = of_group groups.Labels (within (FixedName names.Data ∷ HeldName 5 ∷ enclosed_tokens) 2)
inline_row state_inline.DestinationEnclosedEscape = of_group groups.Labels (within (FixedName names.Data ∷ HeldName 5 ∷ enclosed_tokens) 3)
inline_row state_inline.DestinationRaw = of_group groups.Labels (within raw_destination_tokens 1)
inline_row state_inline.DestinationRawEscape = of_group groups.Labels (within raw_destination_tokens 2)
-- partial_label
inline_row state_inline.LabelStart = of_group groups.Labels (first 1)
inline_row state_inline.LabelAtBreak = of_group groups.Labels (within label_tokens 8)
inline_row state_inline.LabelEolAfter = of_group groups.Labels (resumes (within label_tokens 9))
inline_row state_inline.LabelNok = of_group groups.Labels (record (within label_tokens 1) { exits = false })
inline_row state_inline.LabelInside = of_group groups.Labels (within (FixedName names.Data ∷ label_tokens) 9)
inline_row state_inline.LabelEscape = of_group groups.Labels (within (FixedName names.Data ∷ label_tokens) 10)
-- partial_title
inline_row state_inline.TitleStart = of_group groups.Labels (first 1)
inline_row state_inline.TitleBegin = of_group groups.Labels (within (HeldName 1 ∷ []) 8)
inline_row state_inline.TitleAtBreak = of_group groups.Labels (within title_tokens 9)
inline_row state_inline.TitleAfterEol = of_group groups.Labels (resumes (within title_tokens 10))
inline_row state_inline.TitleNok = of_group groups.Labels (record (within title_tokens 1) { exits = false })
inline_row state_inline.TitleInside = of_group groups.Labels (within (FixedName names.Data ∷ title_tokens) 10)
inline_row state_inline.TitleEscape = of_group groups.Labels (within (FixedName names.Data ∷ title_tokens) 11)
-- raw_text
inline_row state_inline.RawTextStart = of_group groups.Leaves (first_plain 4)
inline_row state_inline.RawTextSequenceOpen = of_group groups.Leaves (within (HeldName 2 ∷ raw_tokens) 2)
inline_row state_inline.RawTextBetween = of_group groups.Leaves (within raw_tokens 1)
inline_row state_inline.RawTextData = of_group groups.Leaves (within (HeldName 3 ∷ raw_tokens) 2)
inline_row state_inline.RawTextSequenceClose = of_group groups.Leaves (within (HeldName 2 ∷ raw_tokens) 2)
-- string
inline_row state_inline.StringStart = of_group groups.Whole (outermost false 13)
inline_row state_inline.StringBefore = of_group groups.Whole (outermost true 12)
inline_row state_inline.StringBeforeData = of_group groups.Whole (outermost false 4)
-- text
inline_row state_inline.TextStart = of_group groups.Whole (outermost false 13)
inline_row state_inline.TextBefore = of_group groups.Whole (outermost true 12)
inline_row state_inline.TextBeforeHtml = of_group groups.Whole (outermost false 8)
inline_row state_inline.TextBeforeHardBreakEscape = of_group groups.Whole (outermost false 8)
inline_row state_inline.TextBeforeLabelStartLink = of_group groups.Whole (outermost false 8)
inline_row state_inline.TextBeforeData = of_group groups.Whole (outermost false 4)
-- label_end
inline_row state_inline.LabelEndStart = of_group groups.Ends (first_plain 4)
inline_row state_inline.LabelEndAfter = of_group groups.Ends (within_plain [] 7)
inline_row state_inline.LabelEndReferenceNotFull = of_group groups.Ends (within_plain [] 4)
inline_row state_inline.LabelEndOk = of_group groups.Ends (within_plain [] 1)
inline_row state_inline.LabelEndNok = of_group groups.Ends (first_plain 1)
inline_row state_inline.LabelEndResourceStart = of_group groups.Ends (first_plain 1)
inline_row state_inline.LabelEndResourceBefore = of_group groups.Ends (within_plain resource_tokens 8)
inline_row state_inline.LabelEndResourceOpen = of_group groups.Ends (within_plain resource_tokens 3)
inline_row state_inline.LabelEndResourceDestinationAfter = of_group groups.Ends (resumes (within_plain resource_tokens 8))
inline_row state_inline.LabelEndResourceDestinationMissing = of_group groups.Ends (record (within_plain resource_tokens 1) { exits = false })
inline_row state_inline.LabelEndResourceBetween = of_group groups.Ends (resumes (within_plain resource_tokens 3))
inline_row state_inline.LabelEndResourceTitleAfter = of_group groups.Ends (resumes (within_plain resource_tokens 8))
inline_row state_inline.LabelEndResourceEnd = of_group groups.Ends (within_plain resource_tokens 1)
inline_row state_inline.LabelEndReferenceFull = of_group groups.Ends (first_plain 3)
inline_row state_inline.LabelEndReferenceFullAfter = of_group groups.Ends (resumes (within_plain [] 1))
inline_row state_inline.LabelEndReferenceFullMissing = of_group groups.Ends (first_plain 1)
inline_row state_inline.LabelEndReferenceCollapsed = of_group groups.Ends (first 1)
inline_row state_inline.LabelEndReferenceCollapsedOpen = of_group groups.Ends (within (FixedName names.Reference ∷ []) 1)

abbrev pub sorts : Name → Sort
sorts (Inline n) = (inline_row n).sort
sorts n = first 4

-- which group of crates a state is in
abbrev pub inline_group : InlineName → Group
inline_group n = (inline_row n).group

-- whether a state is of a group
abbrev pub same_group : Group → Group → Bool
same_group groups.Leaves groups.Leaves = true
same_group groups.Html groups.Html = true
same_group groups.Labels groups.Labels = true
same_group groups.Ends groups.Ends = true
same_group groups.Gfm groups.Gfm = true
same_group groups.Whole groups.Whole = true
same_group g h = false

abbrev pub is_in : Group → InlineName → Bool
is_in g n = same_group (inline_group n) g
