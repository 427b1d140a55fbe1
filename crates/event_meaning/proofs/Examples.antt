-- Pages of small lists, by computation.
use Rattle.std.proofs.Common.{◌≡◌, refl, ℕ, List, [], ◌∷◌, ◌++◌, Option, None}
use Rattle.std.specs.Prelude.{codes}
use Rattle.std.specs.Char.{encode_utf8}
use Rattle.std.specs.Fmt.{digits}
use Rattle.std.specs.Str.{chars, is_utf8}
use Rattle.std.specs.Str.Lossy.{utf8_lossy, utf8_valid_len}
use Rattle.caseless.proofs.Computing.{caseless}
use Rattle.markdown_compile_options.specs.Defaults.{default_compile_options}
use Rattle.engine_events.specs.Events.{event}
use Rattle.engine_events.specs.declared.event.Event.{Event}
use Rattle.engine_events.specs.declared.event.Kind.{Kind}
use Rattle.engine_events.specs.declared.event.Kind.TheVariants.{Enter, Exit}
use Rattle.engine_events.specs.declared.event.Name.{Name}
use Rattle.engine_events.specs.declared.event.Name.TheVariants as n
use Rattle.event_meaning.specs.Spelled.{html_of_events}

-- `unfolding texts` lets `refl` compute characters and labels
unfoldable texts : Unit {0}
unfolding digits encode_utf8 chars is_utf8 utf8_valid_len utf8_lossy caseless
texts = tt

-- no name is known
abbrev no_names : List ℕ → Option (List ℕ)
no_names name = None

abbrev at : Kind → Name → ℕ → Event
at kind name index = event kind name (record { line = 1; column = 1; index = index; vs = 0 }) None

abbrev in_ : Name → ℕ → List Event
in_ name index = at Enter name index ∷ []

abbrev out_ : Name → ℕ → List Event
out_ name index = at Exit name index ∷ []

abbrev void_ : Name → ℕ → ℕ → List Event
void_ name from to = in_ name from ++ out_ name to

-- a heading, and the ending after it
abbrev heading_text : List ℕ
heading_text = codes "# a" ++ 10 ∷ []

abbrev heading_events : List Event
heading_events =
    in_ n.HeadingAtx 0 ++ void_ n.HeadingAtxSequence 0 1 ++ void_ n.SpaceOrTab 1 2 ++ in_ n.HeadingAtxText 2 ++ void_ n.Data 2 3
    ++ out_ n.HeadingAtxText 3 ++ out_ n.HeadingAtx 3 ++ void_ n.LineEnding 3 4

heading : html_of_events no_names default_compile_options heading_text heading_events
    ≡ codes "<h1>a</h1>" ++ 10 ∷ []
unfolding texts
heading = refl

-- emphasis, an escape and a reference
abbrev text_text : List ℕ
text_text = codes "*a*\\*&#98;"

abbrev text_events : List Event
text_events =
    in_ n.Paragraph 0 ++ in_ n.Emphasis 0 ++ void_ n.EmphasisSequence 0 1 ++ in_ n.EmphasisText 1 ++ void_ n.Data 1 2 ++ out_ n.EmphasisText 2
    ++ void_ n.EmphasisSequence 2 3 ++ out_ n.Emphasis 3 ++ in_ n.CharacterEscape 3 ++ void_ n.CharacterEscapeMarker 3 4
    ++ void_ n.CharacterEscapeValue 4 5 ++ out_ n.CharacterEscape 5 ++ in_ n.CharacterReference 5 ++ void_ n.CharacterReferenceMarker 5 6
    ++ void_ n.CharacterReferenceMarkerNumeric 6 7 ++ void_ n.CharacterReferenceValue 7 9 ++ void_ n.CharacterReferenceMarkerSemi 9 10
    ++ out_ n.CharacterReference 10 ++ out_ n.Paragraph 10

text : html_of_events no_names default_compile_options text_text text_events
    ≡ codes "<p><em>a</em>*b</p>"
unfolding texts
text = refl

-- a list whose items have a line between them
abbrev loose_text : List ℕ
loose_text = codes "- a" ++ 10 ∷ [] ++ 10 ∷ [] ++ codes "- b"

abbrev loose_events : List Event
loose_events =
    in_ n.ListUnordered 0 ++ in_ n.ListItem 0 ++ in_ n.ListItemPrefix 0 ++ void_ n.ListItemMarker 0 1 ++ void_ n.SpaceOrTab 1 2 ++ out_ n.ListItemPrefix 2
    ++ in_ n.Paragraph 2 ++ void_ n.Data 2 3 ++ out_ n.Paragraph 3 ++ out_ n.ListItem 3 ++ void_ n.LineEnding 3 4 ++ void_ n.BlankLineEnding 4 5
    ++ in_ n.ListItem 5 ++ in_ n.ListItemPrefix 5 ++ void_ n.ListItemMarker 5 6 ++ void_ n.SpaceOrTab 6 7 ++ out_ n.ListItemPrefix 7 ++ in_ n.Paragraph 7
    ++ void_ n.Data 7 8 ++ out_ n.Paragraph 8 ++ out_ n.ListItem 8 ++ out_ n.ListUnordered 8

loose : html_of_events no_names default_compile_options loose_text loose_events
    ≡ codes "<ul>" ++ 10 ∷ [] ++ codes "<li>" ++ 10 ∷ [] ++ codes "<p>a</p>" ++ 10 ∷ [] ++ codes "</li>" ++ 10 ∷ [] ++ codes "<li>" ++ 10 ∷ []
    ++ codes "<p>b</p>" ++ 10 ∷ [] ++ codes "</li>" ++ 10 ∷ [] ++ codes "</ul>"
unfolding texts
loose = refl

-- fenced code with an info
abbrev fenced_text : List ℕ
fenced_text = codes "~~~ x" ++ 10 ∷ [] ++ codes "a" ++ 10 ∷ [] ++ codes "~~~"

abbrev fenced_events : List Event
fenced_events =
    in_ n.CodeFenced 0 ++ in_ n.CodeFencedFence 0 ++ void_ n.CodeFencedFenceSequence 0 3 ++ void_ n.SpaceOrTab 3 4 ++ in_ n.CodeFencedFenceInfo 4
    ++ void_ n.Data 4 5 ++ out_ n.CodeFencedFenceInfo 5 ++ out_ n.CodeFencedFence 5 ++ void_ n.LineEnding 5 6 ++ void_ n.CodeFlowChunk 6 7
    ++ void_ n.LineEnding 7 8 ++ in_ n.CodeFencedFence 8 ++ void_ n.CodeFencedFenceSequence 8 11 ++ out_ n.CodeFencedFence 11 ++ out_ n.CodeFenced 11

fenced : html_of_events no_names default_compile_options fenced_text fenced_events
    ≡ codes "<pre><code class=\"language-x\">a" ++ 10 ∷ [] ++ codes "</code></pre>"
unfolding texts
fenced = refl

-- a link with a destination and a title
abbrev link_text : List ℕ
link_text = codes "[a](<b?c> 'd')"

abbrev link_events : List Event
link_events =
    in_ n.Paragraph 0 ++ in_ n.Link 0 ++ in_ n.Label 0 ++ in_ n.LabelLink 0 ++ void_ n.LabelMarker 0 1 ++ out_ n.LabelLink 1 ++ in_ n.LabelText 1
    ++ void_ n.Data 1 2 ++ out_ n.LabelText 2 ++ in_ n.LabelEnd 2 ++ void_ n.LabelMarker 2 3 ++ out_ n.LabelEnd 3 ++ out_ n.Label 3 ++ in_ n.Resource 3
    ++ void_ n.ResourceMarker 3 4 ++ in_ n.ResourceDestination 4 ++ in_ n.ResourceDestinationLiteral 4 ++ void_ n.ResourceDestinationLiteralMarker 4 5
    ++ in_ n.ResourceDestinationString 5 ++ void_ n.Data 5 8 ++ out_ n.ResourceDestinationString 8 ++ void_ n.ResourceDestinationLiteralMarker 8 9
    ++ out_ n.ResourceDestinationLiteral 9 ++ out_ n.ResourceDestination 9 ++ void_ n.SpaceOrTab 9 10 ++ in_ n.ResourceTitle 10
    ++ void_ n.ResourceTitleMarker 10 11 ++ in_ n.ResourceTitleString 11 ++ void_ n.Data 11 12 ++ out_ n.ResourceTitleString 12
    ++ void_ n.ResourceTitleMarker 12 13 ++ out_ n.ResourceTitle 13 ++ void_ n.ResourceMarker 13 14 ++ out_ n.Resource 14 ++ out_ n.Link 14
    ++ out_ n.Paragraph 14

link : html_of_events no_names default_compile_options link_text link_events
    ≡ codes "<p><a href=\"b?c\" title=\"d\">a</a></p>"
unfolding texts
link = refl

-- a reference and its definition
abbrev reference_text : List ℕ
reference_text = codes "[a]" ++ 10 ∷ [] ++ 10 ∷ [] ++ codes "[a]: b"

abbrev reference_events : List Event
reference_events =
    in_ n.Paragraph 0 ++ in_ n.Link 0 ++ in_ n.Label 0 ++ in_ n.LabelLink 0 ++ void_ n.LabelMarker 0 1 ++ out_ n.LabelLink 1 ++ in_ n.LabelText 1
    ++ void_ n.Data 1 2 ++ out_ n.LabelText 2 ++ in_ n.LabelEnd 2 ++ void_ n.LabelMarker 2 3 ++ out_ n.LabelEnd 3 ++ out_ n.Label 3 ++ out_ n.Link 3
    ++ out_ n.Paragraph 3 ++ void_ n.LineEnding 3 4 ++ void_ n.BlankLineEnding 4 5 ++ in_ n.Definition 5 ++ in_ n.DefinitionLabel 5
    ++ void_ n.DefinitionLabelMarker 5 6 ++ in_ n.DefinitionLabelString 6 ++ void_ n.Data 6 7 ++ out_ n.DefinitionLabelString 7
    ++ void_ n.DefinitionLabelMarker 7 8 ++ out_ n.DefinitionLabel 8 ++ void_ n.DefinitionMarker 8 9 ++ void_ n.SpaceOrTab 9 10
    ++ in_ n.DefinitionDestination 10 ++ in_ n.DefinitionDestinationRaw 10 ++ in_ n.DefinitionDestinationString 10 ++ void_ n.Data 10 11
    ++ out_ n.DefinitionDestinationString 11 ++ out_ n.DefinitionDestinationRaw 11 ++ out_ n.DefinitionDestination 11 ++ out_ n.Definition 11

reference : html_of_events no_names default_compile_options reference_text reference_events
    ≡ codes "<p><a href=\"b\">a</a></p>" ++ 10 ∷ []
unfolding texts
reference = refl

-- a table with a body
abbrev table_text : List ℕ
table_text = codes "|a|" ++ 10 ∷ [] ++ codes "|-|" ++ 10 ∷ [] ++ codes "|b|"

abbrev table_events : List Event
table_events =
    in_ n.GfmTable 0 ++ in_ n.GfmTableHead 0 ++ in_ n.GfmTableRow 0 ++ in_ n.GfmTableCell 0 ++ void_ n.GfmTableCellDivider 0 1 ++ in_ n.GfmTableCellText 1
    ++ void_ n.Data 1 2 ++ out_ n.GfmTableCellText 2 ++ void_ n.GfmTableCellDivider 2 3 ++ out_ n.GfmTableCell 3 ++ out_ n.GfmTableRow 3
    ++ void_ n.LineEnding 3 4 ++ in_ n.GfmTableDelimiterRow 4 ++ in_ n.GfmTableDelimiterCell 4 ++ void_ n.GfmTableCellDivider 4 5
    ++ in_ n.GfmTableDelimiterCellValue 5 ++ void_ n.GfmTableDelimiterFiller 5 6 ++ out_ n.GfmTableDelimiterCellValue 6 ++ void_ n.GfmTableCellDivider 6 7
    ++ out_ n.GfmTableDelimiterCell 7 ++ out_ n.GfmTableDelimiterRow 7 ++ out_ n.GfmTableHead 7 ++ void_ n.LineEnding 7 8 ++ in_ n.GfmTableBody 8
    ++ in_ n.GfmTableRow 8 ++ in_ n.GfmTableCell 8 ++ void_ n.GfmTableCellDivider 8 9 ++ in_ n.GfmTableCellText 9 ++ void_ n.Data 9 10
    ++ out_ n.GfmTableCellText 10 ++ void_ n.GfmTableCellDivider 10 11 ++ out_ n.GfmTableCell 11 ++ out_ n.GfmTableRow 11 ++ out_ n.GfmTableBody 11
    ++ out_ n.GfmTable 11

table : html_of_events no_names default_compile_options table_text table_events
    ≡ codes "<table>" ++ 10 ∷ [] ++ codes "<thead>" ++ 10 ∷ [] ++ codes "<tr>" ++ 10 ∷ [] ++ codes "<th>a</th>" ++ 10 ∷ [] ++ codes "</tr>" ++ 10 ∷ []
    ++ codes "</thead>" ++ 10 ∷ [] ++ codes "<tbody>" ++ 10 ∷ [] ++ codes "<tr>" ++ 10 ∷ [] ++ codes "<td>b</td>" ++ 10 ∷ [] ++ codes "</tr>" ++ 10 ∷ []
    ++ codes "</tbody>" ++ 10 ∷ [] ++ codes "</table>"
unfolding texts
table = refl

-- a call of a footnote
abbrev note_text : List ℕ
note_text = codes "[^a]" ++ 10 ∷ [] ++ 10 ∷ [] ++ codes "[^a]: b"

abbrev note_events : List Event
note_events =
    in_ n.Paragraph 0 ++ in_ n.GfmFootnoteCall 0 ++ in_ n.Label 0 ++ in_ n.GfmFootnoteCallLabel 0 ++ void_ n.LabelMarker 0 1
    ++ void_ n.GfmFootnoteCallMarker 1 2 ++ out_ n.GfmFootnoteCallLabel 2 ++ in_ n.LabelText 2 ++ void_ n.Data 2 3 ++ out_ n.LabelText 3
    ++ in_ n.LabelEnd 3 ++ void_ n.LabelMarker 3 4 ++ out_ n.LabelEnd 4 ++ out_ n.Label 4 ++ out_ n.GfmFootnoteCall 4 ++ out_ n.Paragraph 4
    ++ void_ n.LineEnding 4 5 ++ void_ n.BlankLineEnding 5 6 ++ in_ n.GfmFootnoteDefinition 6 ++ in_ n.GfmFootnoteDefinitionPrefix 6
    ++ in_ n.GfmFootnoteDefinitionLabel 6 ++ void_ n.GfmFootnoteDefinitionLabelMarker 6 7 ++ void_ n.GfmFootnoteDefinitionMarker 7 8
    ++ in_ n.GfmFootnoteDefinitionLabelString 8 ++ void_ n.Data 8 9 ++ out_ n.GfmFootnoteDefinitionLabelString 9
    ++ void_ n.GfmFootnoteDefinitionLabelMarker 9 10 ++ out_ n.GfmFootnoteDefinitionLabel 10 ++ void_ n.DefinitionMarker 10 11 ++ void_ n.SpaceOrTab 11 12
    ++ out_ n.GfmFootnoteDefinitionPrefix 12 ++ in_ n.Paragraph 12 ++ void_ n.Data 12 13 ++ out_ n.Paragraph 13 ++ out_ n.GfmFootnoteDefinition 13

note : html_of_events no_names default_compile_options note_text note_events
    ≡
    codes "<p><sup><a href=\"#user-content-fn-a\" id=\"user-content-fnref-a\" data-footnote-ref=\"\" aria-describedby=\"footnote-label\">1</a></sup></p>"
    ++ 10 ∷ [] ++ codes "<section data-footnotes=\"\" class=\"footnotes\"><h2 id=\"footnote-label\" class=\"sr-only\">Footnotes</h2>" ++ 10 ∷ []
    ++ codes "<ol>" ++ 10 ∷ [] ++ codes "<li id=\"user-content-fn-a\">" ++ 10 ∷ []
    ++ codes "<p>b <a href=\"#user-content-fnref-a\" data-footnote-backref=\"\" aria-label=\"Back to content\" class=\"data-footnote-backref\">"
    ++ 226 ∷ 134 ∷ 169 ∷ [] ++ codes "</a></p>" ++ 10 ∷ [] ++ codes "</li>" ++ 10 ∷ [] ++ codes "</ol>" ++ 10 ∷ [] ++ codes "</section>" ++ 10 ∷ []
unfolding texts
note = refl
