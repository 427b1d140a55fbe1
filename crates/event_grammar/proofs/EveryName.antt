-- What is computed of each name in their list holds of every name.
use Rattle.std.proofs.Common.{◌≡◌, Bool, true, false, ◌||◌, List, [], ◌∷◌, refl, sym, ap, ◌∙◌}
use Rattle.event_grammar.proofs.Prelude.{and_parts, Form, is_listed, list_all, Name, same_name, the_type}
use denote.Enum.Bare.{same_true}
use Rattle.engine_events.specs.declared.event.Name.TheVariants as n
use Rattle.event_grammar.specs.declared.slot.Form.TheVariants.{Plain, Ordered, Closing, Opening, OfImage, OfCall}

listed_by : (test : Name → Bool) (a name : Name) (names : List Name) (b : Bool) → same_name a name ≡ b → test a ≡ true
    → (is_listed names name ≡ true → test name ≡ true) → (b || is_listed names name) ≡ true → test name ≡ true
listed_by test a name names true e f ih h = ap test (sym (same_true the_type tt a name e)) ∙ f
listed_by test a name names false e f ih h = ih h

-- a test that each name of a list passes
pub of_listed : (test : Name → Bool) (names : List Name) (name : Name) → list_all test names ≡ true → is_listed names name ≡ true → test name ≡ true
of_listed test [] name h l = absurd (let f : false ≡ true = l in cc)
of_listed test (a ∷ names) name h l =
    let both = and_parts (test a) (list_all test names) h in
    listed_by test a name names (same_name a name) refl both.0 (of_listed test names name both.1) l

abbrev pub all_names : List Name
all_names =
    n.AttentionSequence ∷ n.Autolink ∷ n.AutolinkEmail ∷ n.AutolinkMarker ∷ n.AutolinkProtocol ∷ n.BlankLineEnding ∷ n.BlockQuote ∷ n.BlockQuoteMarker
    ∷ n.BlockQuotePrefix ∷ n.ByteOrderMark ∷ n.CharacterEscape ∷ n.CharacterEscapeMarker ∷ n.CharacterEscapeValue ∷ n.CharacterReference
    ∷ n.CharacterReferenceMarker ∷ n.CharacterReferenceMarkerHexadecimal ∷ n.CharacterReferenceMarkerNumeric ∷ n.CharacterReferenceMarkerSemi
    ∷ n.CharacterReferenceValue ∷ n.CodeFenced ∷ n.CodeFencedFence ∷ n.CodeFencedFenceInfo ∷ n.CodeFencedFenceMeta ∷ n.CodeFencedFenceSequence
    ∷ n.CodeFlowChunk ∷ n.CodeIndented ∷ n.CodeText ∷ n.CodeTextData ∷ n.CodeTextSequence ∷ n.Content ∷ n.Data ∷ n.Definition ∷ n.DefinitionDestination
    ∷ n.DefinitionDestinationLiteral ∷ n.DefinitionDestinationLiteralMarker ∷ n.DefinitionDestinationRaw ∷ n.DefinitionDestinationString ∷ n.DefinitionLabel
    ∷ n.DefinitionLabelMarker ∷ n.DefinitionLabelString ∷ n.DefinitionMarker ∷ n.DefinitionTitle ∷ n.DefinitionTitleMarker ∷ n.DefinitionTitleString
    ∷ n.Emphasis ∷ n.EmphasisSequence ∷ n.EmphasisText ∷ n.Frontmatter ∷ n.FrontmatterChunk ∷ n.FrontmatterFence ∷ n.FrontmatterSequence
    ∷ n.GfmAutolinkLiteralEmail ∷ n.GfmAutolinkLiteralMailto ∷ n.GfmAutolinkLiteralProtocol ∷ n.GfmAutolinkLiteralWww ∷ n.GfmAutolinkLiteralXmpp
    ∷ n.GfmFootnoteCall ∷ n.GfmFootnoteCallLabel ∷ n.GfmFootnoteCallMarker ∷ n.GfmFootnoteDefinition ∷ n.GfmFootnoteDefinitionLabel
    ∷ n.GfmFootnoteDefinitionLabelMarker ∷ n.GfmFootnoteDefinitionLabelString ∷ n.GfmFootnoteDefinitionMarker ∷ n.GfmFootnoteDefinitionPrefix
    ∷ n.GfmStrikethrough ∷ n.GfmStrikethroughSequence ∷ n.GfmStrikethroughText ∷ n.GfmTable ∷ n.GfmTableBody ∷ n.GfmTableCell ∷ n.GfmTableCellDivider
    ∷ n.GfmTableCellText ∷ n.GfmTableDelimiterCell ∷ n.GfmTableDelimiterCellValue ∷ n.GfmTableDelimiterFiller ∷ n.GfmTableDelimiterMarker
    ∷ n.GfmTableDelimiterRow ∷ n.GfmTableHead ∷ n.GfmTableRow ∷ n.GfmTaskListItemCheck ∷ n.GfmTaskListItemMarker ∷ n.GfmTaskListItemValueChecked
    ∷ n.GfmTaskListItemValueUnchecked ∷ n.HardBreakEscape ∷ n.HardBreakTrailing ∷ n.HeadingAtx ∷ n.HeadingAtxSequence ∷ n.HeadingAtxText ∷ n.HeadingSetext
    ∷ n.HeadingSetextText ∷ n.HeadingSetextUnderline ∷ n.HeadingSetextUnderlineSequence ∷ n.HtmlFlow ∷ n.HtmlFlowData ∷ n.HtmlText ∷ n.HtmlTextData ∷ n.Image
    ∷ n.Label ∷ n.LabelEnd ∷ n.LabelImage ∷ n.LabelImageMarker ∷ n.LabelLink ∷ n.LabelMarker ∷ n.LabelText ∷ n.LineEnding ∷ n.Link ∷ n.ListItem
    ∷ n.ListItemMarker ∷ n.ListItemPrefix ∷ n.ListItemValue ∷ n.ListOrdered ∷ n.ListUnordered ∷ n.Mark ∷ n.MarkSequence ∷ n.MarkText ∷ n.MathFlow
    ∷ n.MathFlowChunk ∷ n.MathFlowFence ∷ n.MathFlowFenceMeta ∷ n.MathFlowFenceSequence ∷ n.MathText ∷ n.MathTextData ∷ n.MathTextSequence ∷ n.MdxEsm
    ∷ n.MdxFlowExpression ∷ n.MdxJsxFlowTag ∷ n.MdxJsxTextTag ∷ n.MdxTextExpression ∷ n.Paragraph ∷ n.Reference ∷ n.ReferenceMarker ∷ n.ReferenceString
    ∷ n.Resource ∷ n.ResourceDestination ∷ n.ResourceDestinationLiteral ∷ n.ResourceDestinationLiteralMarker ∷ n.ResourceDestinationRaw
    ∷ n.ResourceDestinationString ∷ n.ResourceMarker ∷ n.ResourceTitle ∷ n.ResourceTitleMarker ∷ n.ResourceTitleString ∷ n.SpaceOrTab ∷ n.Strong
    ∷ n.StrongSequence ∷ n.StrongText ∷ n.ThematicBreak ∷ n.ThematicBreakSequence ∷ []

all_listed : (name : Name) → is_listed all_names name ≡ true
all_listed n.AttentionSequence = refl
all_listed n.Autolink = refl
all_listed n.AutolinkEmail = refl
all_listed n.AutolinkMarker = refl
all_listed n.AutolinkProtocol = refl
all_listed n.BlankLineEnding = refl
all_listed n.BlockQuote = refl
all_listed n.BlockQuoteMarker = refl
all_listed n.BlockQuotePrefix = refl
all_listed n.ByteOrderMark = refl
all_listed n.CharacterEscape = refl
all_listed n.CharacterEscapeMarker = refl
all_listed n.CharacterEscapeValue = refl
all_listed n.CharacterReference = refl
all_listed n.CharacterReferenceMarker = refl
all_listed n.CharacterReferenceMarkerHexadecimal = refl
all_listed n.CharacterReferenceMarkerNumeric = refl
all_listed n.CharacterReferenceMarkerSemi = refl
all_listed n.CharacterReferenceValue = refl
all_listed n.CodeFenced = refl
all_listed n.CodeFencedFence = refl
all_listed n.CodeFencedFenceInfo = refl
all_listed n.CodeFencedFenceMeta = refl
all_listed n.CodeFencedFenceSequence = refl
all_listed n.CodeFlowChunk = refl
all_listed n.CodeIndented = refl
all_listed n.CodeText = refl
all_listed n.CodeTextData = refl
all_listed n.CodeTextSequence = refl
all_listed n.Content = refl
all_listed n.Data = refl
all_listed n.Definition = refl
all_listed n.DefinitionDestination = refl
all_listed n.DefinitionDestinationLiteral = refl
all_listed n.DefinitionDestinationLiteralMarker = refl
all_listed n.DefinitionDestinationRaw = refl
all_listed n.DefinitionDestinationString = refl
all_listed n.DefinitionLabel = refl
all_listed n.DefinitionLabelMarker = refl
all_listed n.DefinitionLabelString = refl
all_listed n.DefinitionMarker = refl
all_listed n.DefinitionTitle = refl
all_listed n.DefinitionTitleMarker = refl
all_listed n.DefinitionTitleString = refl
all_listed n.Emphasis = refl
all_listed n.EmphasisSequence = refl
all_listed n.EmphasisText = refl
all_listed n.Frontmatter = refl
all_listed n.FrontmatterChunk = refl
all_listed n.FrontmatterFence = refl
all_listed n.FrontmatterSequence = refl
all_listed n.GfmAutolinkLiteralEmail = refl
all_listed n.GfmAutolinkLiteralMailto = refl
all_listed n.GfmAutolinkLiteralProtocol = refl
all_listed n.GfmAutolinkLiteralWww = refl
all_listed n.GfmAutolinkLiteralXmpp = refl
all_listed n.GfmFootnoteCall = refl
all_listed n.GfmFootnoteCallLabel = refl
all_listed n.GfmFootnoteCallMarker = refl
all_listed n.GfmFootnoteDefinition = refl
all_listed n.GfmFootnoteDefinitionLabel = refl
all_listed n.GfmFootnoteDefinitionLabelMarker = refl
all_listed n.GfmFootnoteDefinitionLabelString = refl
all_listed n.GfmFootnoteDefinitionMarker = refl
all_listed n.GfmFootnoteDefinitionPrefix = refl
all_listed n.GfmStrikethrough = refl
all_listed n.GfmStrikethroughSequence = refl
all_listed n.GfmStrikethroughText = refl
all_listed n.GfmTable = refl
all_listed n.GfmTableBody = refl
all_listed n.GfmTableCell = refl
all_listed n.GfmTableCellDivider = refl
all_listed n.GfmTableCellText = refl
all_listed n.GfmTableDelimiterCell = refl
all_listed n.GfmTableDelimiterCellValue = refl
all_listed n.GfmTableDelimiterFiller = refl
all_listed n.GfmTableDelimiterMarker = refl
all_listed n.GfmTableDelimiterRow = refl
all_listed n.GfmTableHead = refl
all_listed n.GfmTableRow = refl
all_listed n.GfmTaskListItemCheck = refl
all_listed n.GfmTaskListItemMarker = refl
all_listed n.GfmTaskListItemValueChecked = refl
all_listed n.GfmTaskListItemValueUnchecked = refl
all_listed n.HardBreakEscape = refl
all_listed n.HardBreakTrailing = refl
all_listed n.HeadingAtx = refl
all_listed n.HeadingAtxSequence = refl
all_listed n.HeadingAtxText = refl
all_listed n.HeadingSetext = refl
all_listed n.HeadingSetextText = refl
all_listed n.HeadingSetextUnderline = refl
all_listed n.HeadingSetextUnderlineSequence = refl
all_listed n.HtmlFlow = refl
all_listed n.HtmlFlowData = refl
all_listed n.HtmlText = refl
all_listed n.HtmlTextData = refl
all_listed n.Image = refl
all_listed n.Label = refl
all_listed n.LabelEnd = refl
all_listed n.LabelImage = refl
all_listed n.LabelImageMarker = refl
all_listed n.LabelLink = refl
all_listed n.LabelMarker = refl
all_listed n.LabelText = refl
all_listed n.LineEnding = refl
all_listed n.Link = refl
all_listed n.ListItem = refl
all_listed n.ListItemMarker = refl
all_listed n.ListItemPrefix = refl
all_listed n.ListItemValue = refl
all_listed n.ListOrdered = refl
all_listed n.ListUnordered = refl
all_listed n.Mark = refl
all_listed n.MarkSequence = refl
all_listed n.MarkText = refl
all_listed n.MathFlow = refl
all_listed n.MathFlowChunk = refl
all_listed n.MathFlowFence = refl
all_listed n.MathFlowFenceMeta = refl
all_listed n.MathFlowFenceSequence = refl
all_listed n.MathText = refl
all_listed n.MathTextData = refl
all_listed n.MathTextSequence = refl
all_listed n.MdxEsm = refl
all_listed n.MdxFlowExpression = refl
all_listed n.MdxJsxFlowTag = refl
all_listed n.MdxJsxTextTag = refl
all_listed n.MdxTextExpression = refl
all_listed n.Paragraph = refl
all_listed n.Reference = refl
all_listed n.ReferenceMarker = refl
all_listed n.ReferenceString = refl
all_listed n.Resource = refl
all_listed n.ResourceDestination = refl
all_listed n.ResourceDestinationLiteral = refl
all_listed n.ResourceDestinationLiteralMarker = refl
all_listed n.ResourceDestinationRaw = refl
all_listed n.ResourceDestinationString = refl
all_listed n.ResourceMarker = refl
all_listed n.ResourceTitle = refl
all_listed n.ResourceTitleMarker = refl
all_listed n.ResourceTitleString = refl
all_listed n.SpaceOrTab = refl
all_listed n.Strong = refl
all_listed n.StrongSequence = refl
all_listed n.StrongText = refl
all_listed n.ThematicBreak = refl
all_listed n.ThematicBreakSequence = refl

pub of_each : (test : Name → Bool) → list_all test all_names ≡ true → (name : Name) → test name ≡ true
of_each test all name = of_listed test all_names name all (all_listed name)

-- the same in each form
abbrev pub in_forms : (Form → Bool) → Bool
in_forms test = list_all test (Plain ∷ Ordered ∷ Closing ∷ Opening ∷ OfImage ∷ OfCall ∷ [])

pub of_form : (test : Form → Bool) → in_forms test ≡ true → (form : Form) → test form ≡ true
of_form test all form =
    let plain = and_parts (test Plain) (list_all test (Ordered ∷ Closing ∷ Opening ∷ OfImage ∷ OfCall ∷ [])) all in
    let ordered = and_parts (test Ordered) (list_all test (Closing ∷ Opening ∷ OfImage ∷ OfCall ∷ [])) plain.1 in
    let closing = and_parts (test Closing) (list_all test (Opening ∷ OfImage ∷ OfCall ∷ [])) ordered.1 in
    let opening = and_parts (test Opening) (list_all test (OfImage ∷ OfCall ∷ [])) closing.1 in
    let image = and_parts (test OfImage) (list_all test (OfCall ∷ [])) opening.1 in
    let call = and_parts (test OfCall) true image.1 in
    by_form test plain.0 ordered.0 closing.0 opening.0 image.0 call.0 form
  where
    by_form : (test : Form → Bool) → test Plain ≡ true → test Ordered ≡ true → test Closing ≡ true → test Opening ≡ true → test OfImage ≡ true
        → test OfCall ≡ true → (form : Form) → test form ≡ true
    by_form test a b c d e f Plain = a
    by_form test a b c d e f Ordered = b
    by_form test a b c d e f Closing = c
    by_form test a b c d e f Opening = d
    by_form test a b c d e f OfImage = e
    by_form test a b c d e f OfCall = f

pub of_each_form : (test : Name → Form → Bool) → list_all (λ name. in_forms (test name)) all_names ≡ true → (name : Name) (form : Form)
    → test name form ≡ true
of_each_form test all name form = of_form (test name) (of_each (λ name. in_forms (test name)) all name) form
