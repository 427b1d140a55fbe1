-- What two neighbours in a list of events may be: which events hold something, where data ends, and where raw HTML begins. What calls of footnotes hold.
use Rattle.std.specs.Prelude.{◌≡◌, ◌==◌, ℕ, Bool, true, false, not, ◌&&◌, if◌then◌else◌, List, [], ◌∷◌, slice_index}
use Rattle.definition_text.specs.Ascii.{less_than}
use Rattle.engine_events.specs.Names.{is_listed, same_name}
use Rattle.engine_events.specs.declared.event.Event.{Event}
use Rattle.engine_events.specs.declared.event.Name.{Name}
use Rattle.engine_events.specs.declared.event.Name.TheVariants as n
use Rattle.event_grammar.specs.Grammar.{block_names}
use Rattle.event_grammar.specs.Points.{edge, spot_of}
use Rattle.event_grammar.specs.Trees.{is_enter, is_pair}

-- The names of events that hold something, though their rows of the grammar ask for no child. Others whose rows ask for none may hold nothing.
abbrev pub full_names : List Name
full_names =
    n.Paragraph ∷ n.HeadingAtxText ∷ n.HeadingSetextText ∷ n.HtmlFlow ∷ n.HtmlText ∷ n.CodeFencedFenceInfo ∷ n.CodeFencedFenceMeta ∷ n.MathFlowFenceMeta
    ∷ n.DefinitionLabelString ∷ n.DefinitionDestinationString ∷ n.DefinitionTitleString ∷ n.ReferenceString ∷ n.ResourceDestinationString
    ∷ n.ResourceTitleString ∷ []

-- an event of such a name holds nothing: it is directly followed by its exit
abbrev pub is_hollow : Event → Event → Bool
is_hollow event next = is_pair event next && is_listed full_names event.name

-- data is directly followed by data
abbrev pub is_cut : Event → Event → Bool
is_cut event next = not (is_enter event.kind) && (is_enter next.kind && (same_name event.name n.Data && same_name next.name n.Data))

-- raw HTML in a text, where what is first in it doesn't begin at a `<` (CommonMark 6.6)
abbrev pub is_untagged : List ℕ → Event → Event → Bool
is_untagged text event next =
    (is_enter event.kind && same_name event.name n.HtmlText) && not (slice_index text (edge (spot_of next)) == less_than)

-- whether no two neighbours are so
abbrev pub none_after : {A : Type 0} → (A → A → Bool) → A → List A → Bool
none_after are one [] = true
none_after are one (next ∷ others) = not (are one next)

abbrev pub no_neighbours : {A : Type 0} → (A → A → Bool) → List A → Bool
no_neighbours are [] = true
no_neighbours are (one ∷ others) = none_after are one others && no_neighbours are others

-- ---- calls of footnotes

-- what no string holds: what stands in texts alone, and blocks
abbrev pub outside_strings : List Name
outside_strings =
    n.Link ∷ n.Image ∷ n.GfmFootnoteCall ∷ n.Emphasis ∷ n.Strong ∷ n.GfmStrikethrough ∷ n.Mark ∷ n.CodeText ∷ n.MathText ∷ n.HtmlText ∷ n.Autolink
    ∷ n.GfmAutolinkLiteralEmail ∷ n.GfmAutolinkLiteralMailto ∷ n.GfmAutolinkLiteralProtocol ∷ n.GfmAutolinkLiteralWww ∷ n.GfmAutolinkLiteralXmpp
    ∷ n.HardBreakEscape ∷ n.HardBreakTrailing ∷ n.GfmTaskListItemCheck ∷ n.ListItem ∷ block_names

-- whether a call is open after an event
abbrev pub in_call : Bool → Event → Bool
in_call inside event = if same_name event.name n.GfmFootnoteCall then is_enter event.kind else inside

-- a call holds only what a string may hold: its row of the grammar would take all that a text may hold
abbrev pub calls_hold : Bool → List Event → Bool
calls_hold inside [] = true
calls_hold inside (event ∷ events) =
    not (inside && (is_enter event.kind && is_listed outside_strings event.name)) && calls_hold (in_call inside event) events

-- events of such names hold something, no data is directly followed by data, raw HTML in texts begins with a `<`, and calls hold what strings may hold
pub record HaveShape (text : List ℕ) (events : List Event) : Type 0 where
  pub hold : no_neighbours is_hollow events ≡ true
  pub apart : no_neighbours is_cut events ≡ true
  pub tags : no_neighbours (is_untagged text) events ≡ true
  pub calls : calls_hold false events ≡ true
