-- Faults of small lists, by computation.
use Rattle.std.proofs.Common.{◌≡◌, refl, ℕ, ◌+◌, List, [], ◌∷◌, ◌++◌, Option, None, Some}
use Rattle.std.specs.Prelude.{codes}
use Rattle.event_faults.proofs.Prelude.{event, Event, event_fault, Kind, Name}
use Rattle.engine_events.specs.declared.event.Kind.TheVariants.{Enter, Exit}
use Rattle.engine_events.specs.declared.event.Name.TheVariants as n
use Rattle.event_faults.specs.declared.fault.FaultKind.TheVariants as kinds
use Rattle.event_faults.specs.Faults.{fault}
use Rattle.std.specs.Char.{encode_utf8}
use Rattle.std.specs.Str.{chars, is_utf8}
use Rattle.std.specs.Str.Lossy.{utf8_lossy, utf8_valid_len}
use Rattle.caseless.proofs.Computing.{caseless}

-- `unfolding texts` lets `refl` compute characters and labels
unfoldable texts : Unit {0}
unfolding encode_utf8 chars is_utf8 utf8_valid_len utf8_lossy caseless
texts = tt

-- no name is known
abbrev no_names : List ℕ → Option (List ℕ)
no_names name = None

abbrev at : Kind → Name → ℕ → Event
at kind name index = event kind name (record { line = 1; column = 1; index = index; vs = 0 }) None

abbrev in_ : Name → ℕ → List Event
in_ name index = at Enter name index ∷ []

abbrev out_ : Name → ℕ → List Event
out_ name index = at Exit name index ∷ []

abbrev void_ : Name → ℕ → ℕ → List Event
void_ name from to = in_ name from ++ out_ name to

nothing : fault no_names [] [] ≡ None
unfolding texts
nothing = refl

mdx : fault no_names [] (void_ n.MdxEsm 0 0) ≡ Some (event_fault kinds.Mdx 0)
unfolding texts
mdx = refl

lone_exit : fault no_names [] (out_ n.Paragraph 0) ≡ Some (event_fault kinds.Child 0)
unfolding texts
lone_exit = refl

empty_break : fault no_names [] (void_ n.ThematicBreak 0 0) ≡ Some (event_fault kinds.Child 1)
unfolding texts
empty_break = refl

beyond : fault no_names [] (void_ n.LineEnding 1 1) ≡ Some (event_fault kinds.Place 0)
unfolding texts
beyond = refl

-- `a` without the last event
abbrev paragraph : List Event
paragraph = in_ n.Paragraph 0 ++ void_ n.Data 0 1 ++ out_ n.Paragraph 1

whole : fault no_names (codes "a") paragraph ≡ None
unfolding texts
whole = refl

unclosed : fault no_names (codes "a") (in_ n.Paragraph 0 ++ void_ n.Data 0 1) ≡ Some (event_fault kinds.Open 3)
unfolding texts
unclosed = refl

-- `[a]`, two line endings, `[a]: x`
abbrev link : List Event
link =
    in_ n.Paragraph 0 ++ in_ n.Link 0 ++ in_ n.Label 0 ++ in_ n.LabelLink 0 ++ void_ n.LabelMarker 0 1 ++ out_ n.LabelLink 1
    ++ in_ n.LabelText 1 ++ void_ n.Data 1 2 ++ out_ n.LabelText 2 ++ in_ n.LabelEnd 2 ++ void_ n.LabelMarker 2 3 ++ out_ n.LabelEnd 3
    ++ out_ n.Label 3 ++ out_ n.Link 3 ++ out_ n.Paragraph 3

abbrev endings : List Event
endings = void_ n.LineEnding 3 4 ++ void_ n.BlankLineEnding 4 5

abbrev definition : List Event
definition =
    in_ n.Definition 5 ++ in_ n.DefinitionLabel 5 ++ void_ n.DefinitionLabelMarker 5 6 ++ in_ n.DefinitionLabelString 6 ++ void_ n.Data 6 7
    ++ out_ n.DefinitionLabelString 7 ++ void_ n.DefinitionLabelMarker 7 8 ++ out_ n.DefinitionLabel 8 ++ void_ n.DefinitionMarker 8 9
    ++ void_ n.SpaceOrTab 9 10 ++ in_ n.DefinitionDestination 10 ++ in_ n.DefinitionDestinationRaw 10 ++ in_ n.DefinitionDestinationString 10
    ++ void_ n.Data 10 11 ++ out_ n.DefinitionDestinationString 11 ++ out_ n.DefinitionDestinationRaw 11 ++ out_ n.DefinitionDestination 11
    ++ out_ n.Definition 11

defined : fault no_names (codes "[a]\n\n[a]: x") (link ++ endings ++ definition) ≡ None
unfolding texts
defined = refl

-- the exit of the link is the event with the index 16
undefined : fault no_names (codes "[a]\n\n[a]: x") (link ++ endings) ≡ Some (event_fault kinds.Reference 16)
unfolding texts
undefined = refl

-- ---- more

-- an ordered item has a value, and another has none
abbrev item : Name → List Event → List Event
item list prefix = in_ list 0 ++ in_ n.ListItem 0 ++ in_ n.ListItemPrefix 0 ++ prefix ++ out_ n.ListItemPrefix 2 ++ out_ n.ListItem 2 ++ out_ list 2

ordered : fault no_names (codes "1.") (item n.ListOrdered (void_ n.ListItemValue 0 1 ++ void_ n.ListItemMarker 1 2)) ≡ None
unfolding texts
ordered = refl

no_value : fault no_names (codes "1.") (item n.ListOrdered (void_ n.ListItemMarker 0 2)) ≡ Some (event_fault kinds.Child 3)
unfolding texts
no_value = refl

value : fault no_names (codes "1.") (item n.ListUnordered (void_ n.ListItemValue 0 1 ++ void_ n.ListItemMarker 1 2)) ≡ Some (event_fault kinds.Child 3)
unfolding texts
value = refl

no_digit : fault no_names (codes "a.") (item n.ListOrdered (void_ n.ListItemValue 0 1 ++ void_ n.ListItemMarker 1 2)) ≡ Some (event_fault kinds.Place 4)
unfolding texts
no_digit = refl

-- a meta needs an info
abbrev fence : List Event → List Event
fence more = in_ n.CodeFenced 0 ++ in_ n.CodeFencedFence 0 ++ void_ n.CodeFencedFenceSequence 0 3 ++ more ++ out_ n.CodeFencedFence 5 ++ out_ n.CodeFenced 5

abbrev around : Name → List Event
around name = in_ name 3 ++ out_ name 4

plain_fence : fault no_names (codes "```ab") (fence []) ≡ None
unfolding texts
plain_fence = refl

info : fault no_names (codes "```ab") (fence (around n.CodeFencedFenceInfo)) ≡ None
unfolding texts
info = refl

info_meta : fault no_names (codes "```ab") (fence (around n.CodeFencedFenceInfo ++ in_ n.CodeFencedFenceMeta 4 ++ out_ n.CodeFencedFenceMeta 5)) ≡ None
unfolding texts
info_meta = refl

meta_alone : fault no_names (codes "```ab") (fence (around n.CodeFencedFenceMeta)) ≡ Some (event_fault kinds.Child 4)
unfolding texts
meta_alone = refl

-- columns of a tab, and characters of two bytes
abbrev data_at : ℕ → Kind → ℕ → ℕ → Event
data_at index kind vs line = event kind n.SpaceOrTab (record { line = line; column = 1; index = index; vs = vs }) None

tab : fault no_names (codes "\t") (data_at 0 Enter 0 1 ∷ data_at 0 Exit 3 1 ∷ data_at 0 Enter 3 1 ∷ data_at 1 Exit 0 1 ∷ []) ≡ None
unfolding texts
tab = refl

past_tab : fault no_names (codes "\t") (data_at 0 Enter 0 1 ∷ data_at 0 Exit 4 1 ∷ []) ≡ Some (event_fault kinds.Place 1)
unfolding texts
past_tab = refl

back : fault no_names (codes "\t") (data_at 0 Enter 2 1 ∷ data_at 0 Exit 1 1 ∷ []) ≡ Some (event_fault kinds.Place 1)
unfolding texts
back = refl

half : fault no_names (195 ∷ 169 ∷ []) (data_at 0 Enter 0 1 ∷ data_at 1 Exit 0 1 ∷ []) ≡ Some (event_fault kinds.Place 1)
unfolding texts
half = refl

-- a head of one cell, with one delimiter, with two and with none
abbrev cell : Name → ℕ → List Event → List Event
cell name from inside = in_ name from ++ inside ++ out_ name (from + 1)

abbrev delimiter : ℕ → List Event
delimiter from = cell n.GfmTableDelimiterCell from (cell n.GfmTableDelimiterCellValue from (void_ n.GfmTableDelimiterFiller from (from + 1)))

abbrev table : List Event → List Event
table delimiters =
    in_ n.GfmTable 0 ++ in_ n.GfmTableHead 0 ++ in_ n.GfmTableRow 0 ++ cell n.GfmTableCell 0 (cell n.GfmTableCellText 0 (void_ n.Data 0 1)) ++ out_ n.GfmTableRow 1
    ++ void_ n.LineEnding 1 2 ++ in_ n.GfmTableDelimiterRow 2 ++ delimiters ++ out_ n.GfmTableDelimiterRow 5 ++ out_ n.GfmTableHead 5 ++ out_ n.GfmTable 5

one_each : fault no_names (codes "a\n-|-") (table (delimiter 2)) ≡ None
unfolding texts
one_each = refl

cell_more : fault no_names (codes "a\n-|-") (table (delimiter 2 ++ void_ n.GfmTableCellDivider 3 4 ++ delimiter 4)) ≡ Some (event_fault kinds.Child 21)
unfolding texts
cell_more = refl

cell_less : fault no_names (codes "a\n-|-") (table (void_ n.GfmTableCellDivider 2 3)) ≡ Some (event_fault kinds.Child 15)
unfolding texts
cell_less = refl

-- a link in a link, and a line ending in an ATX heading
abbrev label : List Event → List Event
label inside =
    in_ n.Label 0 ++ in_ n.LabelLink 0 ++ void_ n.LabelMarker 0 1 ++ out_ n.LabelLink 1 ++ in_ n.LabelText 1 ++ inside ++ out_ n.LabelText 1
    ++ in_ n.LabelEnd 1 ++ void_ n.LabelMarker 1 2 ++ out_ n.LabelEnd 2 ++ out_ n.Label 2

nested : fault no_names (codes "[]") (in_ n.Paragraph 0 ++ in_ n.Link 0 ++ label (in_ n.Emphasis 1 ++ void_ n.EmphasisSequence 1 1 ++ in_ n.EmphasisText 1 ++ in_ n.Link 1))
    ≡ Some (event_fault kinds.Child 12)
unfolding texts
nested = refl

broken : fault no_names (codes "#\n") (in_ n.HeadingAtx 0 ++ void_ n.HeadingAtxSequence 0 1 ++ in_ n.HeadingAtxText 1 ++ void_ n.LineEnding 1 2)
    ≡ Some (event_fault kinds.Child 4)
unfolding texts
broken = refl
