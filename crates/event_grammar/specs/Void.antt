-- Events that hold no other.
use Rattle.std.specs.Prelude.{Bool, true, false, not, ◌&&◌, List, [], ◌∷◌}
use Rattle.engine_events.specs.Names.{is_listed}
use Rattle.engine_events.specs.declared.event.Name.{Name}
use Rattle.engine_events.specs.declared.event.Name.TheVariants as n
use Rattle.event_grammar.specs.declared.slot.Slot.{Slot}
use Rattle.event_grammar.specs.declared.slot.Form.TheVariants.{Plain}
use Rattle.event_grammar.specs.Grammar.{row, mdx_names}

abbrev pub is_empty : List Slot → Bool
is_empty [] = true
is_empty (slot ∷ slots) = false

-- a name without a row, but for those of MDX
abbrev pub is_void : Name → Bool
is_void name = is_empty (row name Plain) && not (is_listed mdx_names name)

-- the names of `VOID_EVENTS`
abbrev pub void_names : List Name
void_names =
    n.AttentionSequence ∷ n.AutolinkEmail ∷ n.AutolinkMarker ∷ n.AutolinkProtocol ∷ n.BlankLineEnding ∷ n.BlockQuoteMarker ∷ n.ByteOrderMark
    ∷ n.CharacterEscapeMarker ∷ n.CharacterEscapeValue ∷ n.CharacterReferenceMarker ∷ n.CharacterReferenceMarkerHexadecimal
    ∷ n.CharacterReferenceMarkerNumeric ∷ n.CharacterReferenceMarkerSemi ∷ n.CharacterReferenceValue ∷ n.CodeFencedFenceSequence ∷ n.CodeFlowChunk
    ∷ n.CodeTextData ∷ n.CodeTextSequence ∷ n.Content ∷ n.Data ∷ n.DefinitionDestinationLiteralMarker ∷ n.DefinitionLabelMarker ∷ n.DefinitionMarker
    ∷ n.DefinitionTitleMarker ∷ n.EmphasisSequence ∷ n.FrontmatterChunk ∷ n.FrontmatterSequence ∷ n.GfmAutolinkLiteralEmail
    ∷ n.GfmAutolinkLiteralMailto ∷ n.GfmAutolinkLiteralProtocol ∷ n.GfmAutolinkLiteralWww ∷ n.GfmAutolinkLiteralXmpp ∷ n.GfmFootnoteCallMarker
    ∷ n.GfmFootnoteDefinitionLabelMarker ∷ n.GfmFootnoteDefinitionMarker ∷ n.GfmStrikethroughSequence ∷ n.GfmTableCellDivider
    ∷ n.GfmTableDelimiterFiller ∷ n.GfmTableDelimiterMarker ∷ n.GfmTaskListItemMarker ∷ n.GfmTaskListItemValueChecked
    ∷ n.GfmTaskListItemValueUnchecked ∷ n.HardBreakEscape ∷ n.HardBreakTrailing ∷ n.HeadingAtxSequence ∷ n.HeadingSetextUnderlineSequence
    ∷ n.HtmlFlowData ∷ n.HtmlTextData ∷ n.LabelImageMarker ∷ n.LabelMarker ∷ n.LineEnding ∷ n.ListItemMarker ∷ n.ListItemValue ∷ n.MarkSequence
    ∷ n.MathFlowChunk ∷ n.MathFlowFenceSequence ∷ n.MathTextData ∷ n.MathTextSequence ∷ n.ReferenceMarker ∷ n.ResourceDestinationLiteralMarker ∷ n.ResourceMarker
    ∷ n.ResourceTitleMarker ∷ n.SpaceOrTab ∷ n.StrongSequence ∷ n.ThematicBreakSequence ∷ []
