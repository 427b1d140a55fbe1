-- How rows that are filled make a list of events that is in the grammar.
use Rattle.std.specs.Prelude.{◌≡◌, ℕ, true, false, ◌&&◌, List, Option, None, Some}
use Rattle.engine_events.specs.Names.{is_listed}
use Rattle.engine_events.specs.declared.event.Event.{Event}
use Rattle.engine_events.specs.declared.event.Kind.TheVariants.{Enter, Exit}
use Rattle.event_check.specs.Matches.{MatchesGrammar}
use Rattle.event_grammar.specs.declared.slot.Between.TheVariants.{Lines}
use Rattle.event_grammar.specs.declared.slot.Form.{Form}
use Rattle.event_grammar.specs.declared.slot.Form.TheVariants.{Plain}
use Rattle.event_grammar.specs.declared.slot.Slot.{Slot}
use Rattle.event_grammar.specs.Facts.{is_fact}
use Rattle.event_grammar.specs.Grammar.{document_row, row, mdx_names, link_names}
use Rattle.event_grammar.specs.InGrammar.{Within, within, inside, Before, before, after, node_name, CellsAgree, KidsFit, PlacesFit}
use Rattle.event_grammar.specs.Points.{bytes_between, spot, spot_of}
use Rattle.event_grammar.specs.References.{first_lost}
use Rattle.event_grammar.specs.Slots.{Taken, take_child}
use Rattle.event_grammar.specs.Trees.{Node, Nodes, Around, Nil, Cons, events_of}
use Rattle.parse_slots.specs.Left.{ends, left_by}

-- what is asked of a child, and of those after it, by whether the row takes it
abbrev pub ChildHolds : Option Taken → List Slot → (Form → Type 0) → (List Slot → Type 0) → Type 0 → Type 0
ChildHolds (Some t) slots Own Later Between = Own t.form × Later t.rest
ChildHolds None slots Own Later Between = Own Plain × Between

module _ (names : List ℕ → Option (List ℕ)) (bytes : List ℕ) where
  abbrev mutual
    -- All that the grammar asks of an event beside its row and those of the events in it: enters and exits go by pairs, no name is of MDX, no link is in
    -- a link, cells agree with the head, and bytes are what names require.
    pub NodeHolds : Within → Form → Before → Node → Type 0
    NodeHolds x form b (Around enter kids exit) =
        (enter.kind ≡ Enter) × (exit.kind ≡ Exit) × (exit.name ≡ enter.name) × (is_listed mdx_names enter.name ≡ false)
        × ((x.linked && is_listed link_names enter.name) ≡ false) × CellsAgree b enter.name kids
        × (is_fact names enter.name form b.sibling (bytes_between bytes (spot_of enter) (spot_of exit)) ≡ true)
        × KidsHold (inside x enter.name form) (before None 0) (row enter.name form) kids

    pub KidsHold : Within → Before → List Slot → Nodes → Type 0
    KidsHold x b slots Nil = Unit {0}
    KidsHold x b slots (Cons node ns) =
        ChildHolds (take_child slots (node_name node)) slots (λ form. NodeHolds x form b node) (λ rest. KidsHold x (after b node) rest ns)
        (KidsHold x b slots ns)

-- Nodes fit a row exactly if they fill it, and all else that the grammar asks holds of them.
abbrev pub RowsAreFilled : Type 0
RowsAreFilled =
    (names : List ℕ → Option (List ℕ)) (bytes : List ℕ) (x : Within) (b : Before) (slots : List Slot) (ns : Nodes)
    → (ends (left_by x.around slots ns) ≡ true → KidsHold names bytes x b slots ns → KidsFit names bytes x b slots ns)
    × (KidsFit names bytes x b slots ns → ends (left_by x.around slots ns) ≡ true)

-- A list of events matches the grammar if it is that of nodes that fill the row of the document, and all else that the grammar asks holds of them.
abbrev pub FilledListsMatch : Type 0
FilledListsMatch =
    (names : List ℕ → Option (List ℕ)) (bytes : List ℕ) (events : List Event) (ns : Nodes) → events ≡ events_of ns
    → ends (left_by Lines document_row ns) ≡ true → KidsHold names bytes (within Lines false) (before None 0) document_row ns
    → PlacesFit bytes (spot 0 0) events → first_lost bytes ns ≡ None
    → MatchesGrammar names bytes events
