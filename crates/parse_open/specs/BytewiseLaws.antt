-- How data is cut into events changes nothing of what is spelled.
use Rattle.std.specs.Prelude.{◌≡◌, ℕ, Bool, List}
use Rattle.engine_events.specs.declared.event.Event.{Event}
use Rattle.definition_inline.specs.CharacterReference.{Names}
use Rattle.event_check.specs.Matches.{MatchesGrammar}
use Rattle.event_grammar.specs.References.{own_label}
use Rattle.event_grammar.specs.Trees.{Nodes, tree}
use Rattle.event_meaning.specs.Spelled.{page_of, spelled}
use Rattle.event_meaning.specs.Strings.{string_of}
use Rattle.event_meaning.specs.Texts.{inlines_of}
use Rattle.parse_output.specs.Forest.{bytewise}
use Rattle.parse_open.specs.BytewiseSound.{HaveNoData, AreSound}

-- A string spells the same with its data cut into bytes (CommonMark 2.4 and 2.5).
abbrev pub StringsSpellTheSame : Type 0
StringsSpellTheSame = (names : Names) (bytes : List ℕ) (ns : Nodes) → AreSound ns → string_of names bytes (bytewise ns) ≡ string_of names bytes ns

-- The label of a link, an image or a call is the same (CommonMark 6.3).
abbrev pub LabelsAreTheSame : Type 0
LabelsAreTheSame = (bytes : List ℕ) (ns : Nodes) → AreSound ns → own_label bytes (bytewise ns) ≡ own_label bytes ns

-- A text spells the same, in a link or outside (CommonMark 6).
abbrev pub TextsSpellTheSame : Type 0
TextsSpellTheSame =
    (names : Names) (bytes : List ℕ) (linked : Bool) (ns : Nodes) → AreSound ns
    → inlines_of names bytes linked (bytewise ns) ≡ inlines_of names bytes linked ns

-- Nodes spell the same page with their data cut into bytes, if none of them is data.
abbrev pub PagesSpellTheSame : Type 0
PagesSpellTheSame =
    (names : Names) (bytes : List ℕ) (ns : Nodes) → HaveNoData ns → AreSound ns → page_of names bytes (bytewise ns) ≡ page_of names bytes ns

-- A list of events in the grammar spells the page of its nodes with their data cut into bytes: so do all lists in which the same bytes are data.
abbrev pub EventsSpellTheSame : Type 0
EventsSpellTheSame =
    (names : Names) (bytes : List ℕ) (events : List Event) (ns : Nodes) → MatchesGrammar names bytes events → bytewise (tree events) ≡ ns
    → spelled names events bytes ≡ page_of names bytes ns

-- The nodes of a list of events in the grammar are sound.
abbrev pub GrammarIsSound : Type 0
GrammarIsSound = (names : Names) (bytes : List ℕ) (events : List Event) → MatchesGrammar names bytes events → HaveNoData (tree events) × AreSound (tree events)
