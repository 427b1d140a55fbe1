-- Names that stand only in events of some names are on if these are.
use Rattle.std.proofs.Common.{inl, inr, ◌≡◌, ℕ, Bool, true, ◌||◌, List, [], ◌∷◌, refl, sym, subst}
use Rattle.std.proofs.lemmas.Bool.{and_parts, or_cases, or_left, or_right, true≢false}
use denote.Enum.Bare.{same_true}
use Rattle.markdown_options.specs.declared.configuration.Constructs.{Constructs}
use Rattle.engine_events.specs.contracts.event.Name.{the_type}
use Rattle.engine_events.specs.declared.event.Name.{Name}
use Rattle.engine_events.specs.declared.event.Name.TheVariants as n
use Rattle.engine_events.specs.Names.{same_name, is_listed}
use Rattle.definition_inline.specs.CharacterReference.{Names}
use Rattle.event_grammar.specs.declared.slot.Between.{Between}
use Rattle.event_grammar.specs.declared.slot.Between.TheVariants.{Lines}
use Rattle.event_grammar.specs.declared.slot.Form.{Form}
use Rattle.event_grammar.specs.declared.slot.Form.TheVariants.{OfCall, OfImage, Plain}
use Rattle.event_grammar.specs.declared.slot.Slot.{Slot}
use Rattle.event_grammar.specs.Slots.{between_of}
use Rattle.event_grammar.specs.Grammar.{document_row, row}
use Rattle.event_grammar.specs.Trees.{Node, Nodes, Around, Nil, Cons}
use Rattle.event_grammar.proofs.EveryName.{of_each_form}
use Rattle.parse_slots.specs.Left.{ends, left_by}
use Rattle.parse_references.specs.Sound.{AreSound, is_asked_on}
use Rattle.parse_grammar.proofs.Steps.{row_passes, Step, step}
use Rattle.parse_grammar.specs.Constructs.{is_on}
use Rattle.parse_grammar.specs.Nodes.{AreOn}

-- the names that the page tells: each makes a block or a part of a text of its own
abbrev pub told_names : List Name
told_names =
    n.BlockQuote ∷ n.ListOrdered ∷ n.ListUnordered ∷ n.ListItem ∷ n.GfmFootnoteDefinition ∷ n.ThematicBreak ∷ n.CodeIndented ∷ n.HtmlFlow
    ∷ n.Definition ∷ n.GfmTable ∷ n.CodeText ∷ n.MathText ∷ n.Emphasis ∷ n.Strong ∷ n.GfmStrikethrough ∷ n.Mark ∷ n.Link ∷ n.Image
    ∷ n.GfmFootnoteCall ∷ n.Autolink ∷ n.HardBreakEscape ∷ n.HardBreakTrailing ∷ n.GfmTaskListItemCheck ∷ []

-- the names that it doesn't tell, of constructs that are on in what is sound
abbrev pub untold_names : List Name
untold_names =
    n.CharacterEscape ∷ n.CharacterReference ∷ n.GfmAutolinkLiteralEmail ∷ n.GfmAutolinkLiteralMailto ∷ n.GfmAutolinkLiteralProtocol
    ∷ n.GfmAutolinkLiteralWww ∷ n.GfmAutolinkLiteralXmpp ∷ n.HtmlText ∷ n.HeadingAtx ∷ n.HeadingSetext ∷ n.CodeFenced ∷ n.MathFlow ∷ n.Frontmatter ∷ []

-- Whose construct makes a name, in a form of the name: the name in whose events alone it stands, one that stands for the names of several, or one that is on in
-- any case.
abbrev owner : Name → Form → Name
owner n.Label OfImage = n.Image
owner n.Label OfCall = n.GfmFootnoteCall
owner n.Label form = n.Link
owner n.ListItemPrefix form = n.ListItem
owner n.ListItemMarker form = n.ListItem
owner n.ListItemValue form = n.ListItem
owner n.GfmFootnoteDefinitionPrefix form = n.GfmFootnoteDefinition
owner n.GfmFootnoteDefinitionLabel form = n.GfmFootnoteDefinition
owner n.GfmFootnoteDefinitionLabelMarker form = n.GfmFootnoteDefinition
owner n.GfmFootnoteDefinitionMarker form = n.GfmFootnoteDefinition
owner n.GfmFootnoteDefinitionLabelString form = n.GfmFootnoteDefinition
owner n.ThematicBreakSequence form = n.ThematicBreak
owner n.HeadingAtxSequence form = n.HeadingAtx
owner n.HeadingAtxText form = n.HeadingAtx
owner n.HeadingSetextText form = n.HeadingSetext
owner n.HeadingSetextUnderline form = n.HeadingSetext
owner n.HeadingSetextUnderlineSequence form = n.HeadingSetext
owner n.CodeFencedFence form = n.CodeFenced
owner n.CodeFencedFenceSequence form = n.CodeFenced
owner n.CodeFencedFenceInfo form = n.CodeFenced
owner n.CodeFencedFenceMeta form = n.CodeFenced
owner n.MathFlowFence form = n.MathFlow
owner n.MathFlowFenceSequence form = n.MathFlow
owner n.MathFlowFenceMeta form = n.MathFlow
owner n.MathFlowChunk form = n.MathFlow
owner n.HtmlFlowData form = n.HtmlFlow
owner n.DefinitionLabel form = n.Definition
owner n.DefinitionLabelMarker form = n.Definition
owner n.DefinitionLabelString form = n.Definition
owner n.DefinitionDestination form = n.Definition
owner n.DefinitionDestinationLiteral form = n.Definition
owner n.DefinitionDestinationLiteralMarker form = n.Definition
owner n.DefinitionDestinationRaw form = n.Definition
owner n.DefinitionDestinationString form = n.Definition
owner n.DefinitionTitle form = n.Definition
owner n.DefinitionTitleMarker form = n.Definition
owner n.DefinitionTitleString form = n.Definition
owner n.GfmTableHead form = n.GfmTable
owner n.GfmTableBody form = n.GfmTable
owner n.GfmTableRow form = n.GfmTable
owner n.GfmTableCell form = n.GfmTable
owner n.GfmTableCellDivider form = n.GfmTable
owner n.GfmTableCellText form = n.GfmTable
owner n.GfmTableDelimiterRow form = n.GfmTable
owner n.GfmTableDelimiterCell form = n.GfmTable
owner n.GfmTableDelimiterCellValue form = n.GfmTable
owner n.GfmTableDelimiterMarker form = n.GfmTable
owner n.GfmTableDelimiterFiller form = n.GfmTable
owner n.CodeTextSequence form = n.CodeText
owner n.CodeTextData form = n.CodeText
owner n.MathTextSequence form = n.MathText
owner n.MathTextData form = n.MathText
owner n.EmphasisSequence form = n.Emphasis
owner n.EmphasisText form = n.Emphasis
owner n.StrongSequence form = n.Strong
owner n.StrongText form = n.Strong
owner n.GfmStrikethroughSequence form = n.GfmStrikethrough
owner n.GfmStrikethroughText form = n.GfmStrikethrough
owner n.MarkSequence form = n.Mark
owner n.MarkText form = n.Mark
owner n.AutolinkMarker form = n.Autolink
owner n.AutolinkProtocol form = n.Autolink
owner n.AutolinkEmail form = n.Autolink
owner n.GfmTaskListItemMarker form = n.GfmTaskListItemCheck
owner n.GfmTaskListItemValueChecked form = n.GfmTaskListItemCheck
owner n.GfmTaskListItemValueUnchecked form = n.GfmTaskListItemCheck
owner n.CharacterEscapeMarker form = n.CharacterEscape
owner n.CharacterEscapeValue form = n.CharacterEscape
owner n.CharacterReferenceMarker form = n.CharacterReference
owner n.CharacterReferenceMarkerNumeric form = n.CharacterReference
owner n.CharacterReferenceMarkerHexadecimal form = n.CharacterReference
owner n.CharacterReferenceMarkerSemi form = n.CharacterReference
owner n.CharacterReferenceValue form = n.CharacterReference
owner n.HtmlTextData form = n.HtmlText
owner n.FrontmatterFence form = n.Frontmatter
owner n.FrontmatterSequence form = n.Frontmatter
owner n.FrontmatterChunk form = n.Frontmatter
owner n.BlockQuote form = n.BlockQuote
owner n.ListOrdered form = n.ListOrdered
owner n.ListUnordered form = n.ListUnordered
owner n.ListItem form = n.ListItem
owner n.GfmFootnoteDefinition form = n.GfmFootnoteDefinition
owner n.ThematicBreak form = n.ThematicBreak
owner n.HeadingAtx form = n.HeadingAtx
owner n.HeadingSetext form = n.HeadingSetext
owner n.CodeIndented form = n.CodeIndented
owner n.CodeFenced form = n.CodeFenced
owner n.MathFlow form = n.MathFlow
owner n.HtmlFlow form = n.HtmlFlow
owner n.Definition form = n.Definition
owner n.GfmTable form = n.GfmTable
owner n.CodeText form = n.CodeText
owner n.MathText form = n.MathText
owner n.Emphasis form = n.Emphasis
owner n.Strong form = n.Strong
owner n.GfmStrikethrough form = n.GfmStrikethrough
owner n.Mark form = n.Mark
owner n.Link form = n.Link
owner n.Image form = n.Image
owner n.GfmFootnoteCall form = n.GfmFootnoteCall
owner n.Autolink form = n.Autolink
owner n.HardBreakEscape form = n.HardBreakEscape
owner n.HardBreakTrailing form = n.HardBreakTrailing
owner n.GfmTaskListItemCheck form = n.GfmTaskListItemCheck
owner n.MdxEsm form = n.MdxEsm
owner n.MdxFlowExpression form = n.MdxFlowExpression
owner n.MdxTextExpression form = n.MdxTextExpression
owner n.MdxJsxFlowTag form = n.MdxJsxFlowTag
owner n.MdxJsxTextTag form = n.MdxJsxTextTag
owner n.LabelLink form = n.Link
owner n.LabelImage form = n.Image
owner n.LabelImageMarker form = n.Image
owner n.GfmFootnoteCallLabel form = n.GfmFootnoteCall
owner n.GfmFootnoteCallMarker form = n.GfmFootnoteCall
owner n.LabelText form = n.LabelEnd
owner n.LabelEnd form = n.LabelEnd
owner n.LabelMarker form = n.LabelEnd
owner n.Reference form = n.LabelEnd
owner n.ReferenceMarker form = n.LabelEnd
owner n.ReferenceString form = n.LabelEnd
owner n.Resource form = n.LabelEnd
owner n.ResourceMarker form = n.LabelEnd
owner n.ResourceDestination form = n.LabelEnd
owner n.ResourceDestinationLiteral form = n.LabelEnd
owner n.ResourceDestinationLiteralMarker form = n.LabelEnd
owner n.ResourceDestinationRaw form = n.LabelEnd
owner n.ResourceDestinationString form = n.LabelEnd
owner n.ResourceTitle form = n.LabelEnd
owner n.ResourceTitleMarker form = n.LabelEnd
owner n.ResourceTitleString form = n.LabelEnd
owner n.CharacterEscape form = n.CharacterEscape
owner n.CharacterReference form = n.CharacterReference
owner n.GfmAutolinkLiteralEmail form = n.GfmAutolinkLiteralEmail
owner n.GfmAutolinkLiteralMailto form = n.GfmAutolinkLiteralMailto
owner n.GfmAutolinkLiteralProtocol form = n.GfmAutolinkLiteralProtocol
owner n.GfmAutolinkLiteralWww form = n.GfmAutolinkLiteralWww
owner n.GfmAutolinkLiteralXmpp form = n.GfmAutolinkLiteralXmpp
owner n.HtmlText form = n.HtmlText
owner n.Frontmatter form = n.Frontmatter
owner n.CodeFlowChunk form = n.CodeFlowChunk
owner n.DefinitionMarker form = n.DefinitionMarker
owner name form = n.Data

module _ (on : Constructs) where
  -- a name is on where its owner is
  by_owner : (name : Name) (form : Form) → is_on on (owner name form) ≡ true → is_on on name ≡ true
  by_owner n.Label OfImage h = (and_parts on.label_start_image on.label_end h).1
  by_owner n.Label OfCall h = (and_parts on.gfm_label_start_footnote on.label_end h).1
  by_owner n.Label form h = (and_parts on.label_start_link on.label_end h).1
  by_owner n.ListItemPrefix form h = h
  by_owner n.ListItemMarker form h = h
  by_owner n.ListItemValue form h = h
  by_owner n.GfmFootnoteDefinitionPrefix form h = h
  by_owner n.GfmFootnoteDefinitionLabel form h = h
  by_owner n.GfmFootnoteDefinitionLabelMarker form h = h
  by_owner n.GfmFootnoteDefinitionMarker form h = h
  by_owner n.GfmFootnoteDefinitionLabelString form h = h
  by_owner n.ThematicBreakSequence form h = h
  by_owner n.HeadingAtxSequence form h = h
  by_owner n.HeadingAtxText form h = h
  by_owner n.HeadingSetextText form h = h
  by_owner n.HeadingSetextUnderline form h = h
  by_owner n.HeadingSetextUnderlineSequence form h = h
  by_owner n.CodeFencedFence form h = h
  by_owner n.CodeFencedFenceSequence form h = h
  by_owner n.CodeFencedFenceInfo form h = h
  by_owner n.CodeFencedFenceMeta form h = h
  by_owner n.MathFlowFence form h = h
  by_owner n.MathFlowFenceSequence form h = h
  by_owner n.MathFlowFenceMeta form h = h
  by_owner n.MathFlowChunk form h = h
  by_owner n.HtmlFlowData form h = h
  by_owner n.DefinitionLabel form h = h
  by_owner n.DefinitionLabelMarker form h = h
  by_owner n.DefinitionLabelString form h = h
  by_owner n.DefinitionDestination form h = h
  by_owner n.DefinitionDestinationLiteral form h = h
  by_owner n.DefinitionDestinationLiteralMarker form h = h
  by_owner n.DefinitionDestinationRaw form h = h
  by_owner n.DefinitionDestinationString form h = h
  by_owner n.DefinitionTitle form h = h
  by_owner n.DefinitionTitleMarker form h = h
  by_owner n.DefinitionTitleString form h = h
  by_owner n.GfmTableHead form h = h
  by_owner n.GfmTableBody form h = h
  by_owner n.GfmTableRow form h = h
  by_owner n.GfmTableCell form h = h
  by_owner n.GfmTableCellDivider form h = h
  by_owner n.GfmTableCellText form h = h
  by_owner n.GfmTableDelimiterRow form h = h
  by_owner n.GfmTableDelimiterCell form h = h
  by_owner n.GfmTableDelimiterCellValue form h = h
  by_owner n.GfmTableDelimiterMarker form h = h
  by_owner n.GfmTableDelimiterFiller form h = h
  by_owner n.CodeTextSequence form h = h
  by_owner n.CodeTextData form h = h
  by_owner n.MathTextSequence form h = h
  by_owner n.MathTextData form h = h
  by_owner n.EmphasisSequence form h = h
  by_owner n.EmphasisText form h = h
  by_owner n.StrongSequence form h = h
  by_owner n.StrongText form h = h
  by_owner n.GfmStrikethroughSequence form h = h
  by_owner n.GfmStrikethroughText form h = h
  by_owner n.MarkSequence form h = h
  by_owner n.MarkText form h = h
  by_owner n.AutolinkMarker form h = h
  by_owner n.AutolinkProtocol form h = h
  by_owner n.AutolinkEmail form h = h
  by_owner n.GfmTaskListItemMarker form h = h
  by_owner n.GfmTaskListItemValueChecked form h = h
  by_owner n.GfmTaskListItemValueUnchecked form h = h
  by_owner n.CharacterEscapeMarker form h = h
  by_owner n.CharacterEscapeValue form h = h
  by_owner n.CharacterReferenceMarker form h = h
  by_owner n.CharacterReferenceMarkerNumeric form h = h
  by_owner n.CharacterReferenceMarkerHexadecimal form h = h
  by_owner n.CharacterReferenceMarkerSemi form h = h
  by_owner n.CharacterReferenceValue form h = h
  by_owner n.HtmlTextData form h = h
  by_owner n.FrontmatterFence form h = h
  by_owner n.FrontmatterSequence form h = h
  by_owner n.FrontmatterChunk form h = h
  by_owner n.BlockQuote form h = h
  by_owner n.ListOrdered form h = h
  by_owner n.ListUnordered form h = h
  by_owner n.ListItem form h = h
  by_owner n.GfmFootnoteDefinition form h = h
  by_owner n.ThematicBreak form h = h
  by_owner n.HeadingAtx form h = h
  by_owner n.HeadingSetext form h = h
  by_owner n.CodeIndented form h = h
  by_owner n.CodeFenced form h = h
  by_owner n.MathFlow form h = h
  by_owner n.HtmlFlow form h = h
  by_owner n.Definition form h = h
  by_owner n.GfmTable form h = h
  by_owner n.CodeText form h = h
  by_owner n.MathText form h = h
  by_owner n.Emphasis form h = h
  by_owner n.Strong form h = h
  by_owner n.GfmStrikethrough form h = h
  by_owner n.Mark form h = h
  by_owner n.Link form h = h
  by_owner n.Image form h = h
  by_owner n.GfmFootnoteCall form h = h
  by_owner n.Autolink form h = h
  by_owner n.HardBreakEscape form h = h
  by_owner n.HardBreakTrailing form h = h
  by_owner n.GfmTaskListItemCheck form h = h
  by_owner n.MdxEsm form h = h
  by_owner n.MdxFlowExpression form h = h
  by_owner n.MdxTextExpression form h = h
  by_owner n.MdxJsxFlowTag form h = h
  by_owner n.MdxJsxTextTag form h = h
  by_owner n.LabelLink form h = h
  by_owner n.LabelImage form h = h
  by_owner n.LabelImageMarker form h = h
  by_owner n.GfmFootnoteCallLabel form h = h
  by_owner n.GfmFootnoteCallMarker form h = h
  by_owner n.LabelText form h = h
  by_owner n.LabelEnd form h = h
  by_owner n.LabelMarker form h = h
  by_owner n.Reference form h = h
  by_owner n.ReferenceMarker form h = h
  by_owner n.ReferenceString form h = h
  by_owner n.Resource form h = h
  by_owner n.ResourceMarker form h = h
  by_owner n.ResourceDestination form h = h
  by_owner n.ResourceDestinationLiteral form h = h
  by_owner n.ResourceDestinationLiteralMarker form h = h
  by_owner n.ResourceDestinationRaw form h = h
  by_owner n.ResourceDestinationString form h = h
  by_owner n.ResourceTitle form h = h
  by_owner n.ResourceTitleMarker form h = h
  by_owner n.ResourceTitleString form h = h
  by_owner n.CharacterEscape form h = h
  by_owner n.CharacterReference form h = h
  by_owner n.GfmAutolinkLiteralEmail form h = h
  by_owner n.GfmAutolinkLiteralMailto form h = h
  by_owner n.GfmAutolinkLiteralProtocol form h = h
  by_owner n.GfmAutolinkLiteralWww form h = h
  by_owner n.GfmAutolinkLiteralXmpp form h = h
  by_owner n.HtmlText form h = h
  by_owner n.Frontmatter form h = h
  by_owner n.CodeFlowChunk form h = h
  by_owner n.DefinitionMarker form h = h
  by_owner name form h = refl

-- the page tells whether the owner is on
own_told : (name : Name) (form : Form) → is_listed told_names name ≡ true → owner name form ≡ name
own_told n.BlockQuote form listed = refl
own_told n.ListOrdered form listed = refl
own_told n.ListUnordered form listed = refl
own_told n.ListItem form listed = refl
own_told n.GfmFootnoteDefinition form listed = refl
own_told n.ThematicBreak form listed = refl
own_told n.CodeIndented form listed = refl
own_told n.HtmlFlow form listed = refl
own_told n.Definition form listed = refl
own_told n.GfmTable form listed = refl
own_told n.CodeText form listed = refl
own_told n.MathText form listed = refl
own_told n.Emphasis form listed = refl
own_told n.Strong form listed = refl
own_told n.GfmStrikethrough form listed = refl
own_told n.Mark form listed = refl
own_told n.Link form listed = refl
own_told n.Image form listed = refl
own_told n.GfmFootnoteCall form listed = refl
own_told n.Autolink form listed = refl
own_told n.HardBreakEscape form listed = refl
own_told n.HardBreakTrailing form listed = refl
own_told n.GfmTaskListItemCheck form listed = refl
own_told name form listed = absurd (true≢false (sym listed))

-- so is it of those that it doesn't tell
own_untold : (name : Name) (form : Form) → is_listed untold_names name ≡ true → owner name form ≡ name
own_untold n.CharacterEscape form listed = refl
own_untold n.CharacterReference form listed = refl
own_untold n.GfmAutolinkLiteralEmail form listed = refl
own_untold n.GfmAutolinkLiteralMailto form listed = refl
own_untold n.GfmAutolinkLiteralProtocol form listed = refl
own_untold n.GfmAutolinkLiteralWww form listed = refl
own_untold n.GfmAutolinkLiteralXmpp form listed = refl
own_untold n.HtmlText form listed = refl
own_untold n.HeadingAtx form listed = refl
own_untold n.HeadingSetext form listed = refl
own_untold n.CodeFenced form listed = refl
own_untold n.MathFlow form listed = refl
own_untold n.Frontmatter form listed = refl
own_untold name form listed = absurd (true≢false (sym listed))

untold_on : (on : Constructs) (name : Name) → is_listed untold_names name ≡ true → is_asked_on on name ≡ true → is_on on name ≡ true
untold_on on n.CharacterEscape listed h = h
untold_on on n.CharacterReference listed h = h
untold_on on n.GfmAutolinkLiteralEmail listed h = h
untold_on on n.GfmAutolinkLiteralMailto listed h = h
untold_on on n.GfmAutolinkLiteralProtocol listed h = h
untold_on on n.GfmAutolinkLiteralWww listed h = h
untold_on on n.GfmAutolinkLiteralXmpp listed h = h
untold_on on n.HtmlText listed h = h
untold_on on n.HeadingAtx listed h = h
untold_on on n.HeadingSetext listed h = h
untold_on on n.CodeFenced listed h = h
untold_on on n.MathFlow listed h = h
untold_on on n.Frontmatter listed h = h
untold_on on name listed h = absurd (true≢false (sym listed))

-- a name gives that another is on: one that stands for the names of several is given by each of these
abbrev gives : Name → Name → Bool
gives a n.Data = true
gives a n.LabelEnd = is_listed (n.LabelEnd ∷ n.Link ∷ n.Image ∷ n.GfmFootnoteCall ∷ []) a
gives a n.CodeFlowChunk = is_listed (n.CodeIndented ∷ n.CodeFenced ∷ []) a
gives a n.DefinitionMarker = is_listed (n.Definition ∷ n.GfmFootnoteDefinition ∷ []) a
gives a b = same_name b a

module _ (on : Constructs) where
  label_given : (a : Name) → gives a n.LabelEnd ≡ true → is_on on a ≡ true → on.label_end ≡ true
  label_given n.LabelEnd given h = h
  label_given n.Link given h = (and_parts on.label_start_link on.label_end h).1
  label_given n.Image given h = (and_parts on.label_start_image on.label_end h).1
  label_given n.GfmFootnoteCall given h = (and_parts on.gfm_label_start_footnote on.label_end h).1
  label_given a given h = absurd (true≢false (sym given))

  chunk_given : (a : Name) → gives a n.CodeFlowChunk ≡ true → is_on on a ≡ true → (on.code_indented || on.code_fenced) ≡ true
  chunk_given n.CodeIndented given h = or_left on.code_indented on.code_fenced h
  chunk_given n.CodeFenced given h = or_right on.code_indented on.code_fenced h
  chunk_given a given h = absurd (true≢false (sym given))

  colon_given : (a : Name) → gives a n.DefinitionMarker ≡ true → is_on on a ≡ true → (on.definition || on.gfm_footnote_definition) ≡ true
  colon_given n.Definition given h = or_left on.definition on.gfm_footnote_definition h
  colon_given n.GfmFootnoteDefinition given h = or_right on.definition on.gfm_footnote_definition h
  colon_given a given h = absurd (true≢false (sym given))

  is_given : (a b : Name) → gives a b ≡ true → is_on on a ≡ true → is_on on b ≡ true
  is_given a n.Data given h = refl
  is_given a n.LabelEnd given h = label_given a given h
  is_given a n.CodeFlowChunk given h = chunk_given a given h
  is_given a n.DefinitionMarker given h = colon_given a given h
  is_given a b given h = subst (λ name. is_on on name ≡ true) (sym (same_true the_type tt b a given)) h

-- a child that the page tells, or what is sound, or that the event around it gives, by their forms
abbrev pub is_kin : Form → Name → Form → Name → Bool
is_kin around parent form child = is_listed told_names child || (is_listed untold_names child || gives (owner parent around) (owner child form))

kin_rows : (name : Name) (form : Form) → row_passes (is_kin form name) (row name form) ≡ true
kin_rows name form = of_each_form (λ name form. row_passes (is_kin form name) (row name form)) refl name form

module _ (on : Constructs) where
  -- what the page tells of these is on
  abbrev mutual
    pub IsToldOn : Node → Type 0
    IsToldOn (Around enter kids exit) = (is_listed told_names enter.name ≡ true → is_on on enter.name ≡ true) × AreToldOn kids

    pub AreToldOn : Nodes → Type 0
    AreToldOn Nil = Unit {0}
    AreToldOn (Cons node ns) = IsToldOn node × AreToldOn ns

  child_on : (outer : Form) (parent : Name) (form : Form) (child : Name) → is_on on (owner parent outer) ≡ true → is_kin outer parent form child ≡ true
      → (is_listed told_names child ≡ true → is_on on child ≡ true) → is_asked_on on child ≡ true → is_on on (owner child form) ≡ true
  child_on outer parent form child own kin told asked =
      elim (or_cases (is_listed told_names child) (is_listed untold_names child || gives (owner parent outer) (owner child form)) kin) [
        | inl listed ↦ subst (λ name. is_on on name ≡ true) (sym (own_told child form listed)) (told listed)
        | inr other ↦ elim (or_cases (is_listed untold_names child) (gives (owner parent outer) (owner child form)) other) [
          | inl listed ↦ subst (λ name. is_on on name ≡ true) (sym (own_untold child form listed)) (untold_on on child listed asked)
          | inr given ↦ is_given on (owner parent outer) (owner child form) given own
        ]
      ]

  module _ (names : Names) (text : List ℕ) where
    -- then all are in nodes that are sound, in an event whose owner is on
    kids_on : (around : Between) (outer : Form) (parent : Name) (slots : List Slot) (ns : Nodes) → is_on on (owner parent outer) ≡ true
        → row_passes (is_kin outer parent) slots ≡ true → ends (left_by around slots ns) ≡ true → AreToldOn ns → AreSound on names text ns → AreOn on ns
    kids_on around outer parent slots Nil own kin e told sound = tt
    kids_on around outer parent slots (Cons (Around enter kids exit) ns) own kin e told sound =
        let s : Step (is_kin outer parent) around (Around enter kids exit) ns =
        step (is_kin outer parent) refl refl around slots (Around enter kids exit) ns kin e in
        let first = child_on outer parent s.form enter.name own s.passed told.0.0 sound.0.0.is_on in (
          (
            by_owner on enter.name s.form first,
            kids_on (between_of (row enter.name s.form) around enter.name) s.form enter.name (row enter.name s.form) kids first (kin_rows enter.name s.form)
                s.filled told.0.1 sound.0.1,
          ),
          kids_on around outer parent s.rest ns own s.passing s.left told.1 sound.1,
        )

    pub document_on : (ns : Nodes) → ends (left_by Lines document_row ns) ≡ true → AreToldOn ns → AreSound on names text ns → AreOn on ns
    document_on ns e told sound = kids_on Lines Plain n.Data document_row ns refl refl e told sound
