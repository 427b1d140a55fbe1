-- The grammar of events by patterns: which trees are in it, held beside the table of rows.
use Rattle.std.specs.Prelude.{◌≡◌, ℕ, true, false, ◌&&◌, List, [], ◌∷◌, drop, Option, None}
use Rattle.engine_events.specs.Names.{is_listed}
use Rattle.engine_events.specs.declared.event.Event.{Event}
use Rattle.engine_events.specs.declared.event.Kind.TheVariants.{Enter, Exit}
use Rattle.event_grammar.specs.declared.slot.Between.TheVariants.{Lines}
use Rattle.event_grammar.specs.declared.slot.Child.{Child}
use Rattle.event_grammar.specs.declared.slot.Form.{Form}
use Rattle.event_grammar.specs.declared.slot.Form.TheVariants.{Plain}
use Rattle.event_grammar.specs.declared.slot.Slot.{Slot}
use Rattle.event_grammar.specs.declared.slot.Slot.TheVariants.{One, Opt, Lead, Many}
use Rattle.event_grammar.specs.Grammar.{row, document_row, mdx_names, link_names}
use Rattle.event_grammar.specs.Slots.{has, form_of, take_child, stands_between}
use Rattle.event_grammar.specs.Points.{spot, bytes_between, spot_of}
use Rattle.event_grammar.specs.Facts.{is_fact}
use Rattle.event_grammar.specs.Trees.{Node, Nodes, Around, Nil, Cons, events_of}
use Rattle.event_grammar.specs.References.{first_lost}
use Rattle.event_grammar.specs.InGrammar.{Within, within, inside, Before, before, after, node_name, CellsAgree, PlacesFit}

mutual
  -- an event matches as this form, after these
  pub data NodeMatches (names : List ℕ → Option (List ℕ)) (bytes : List ℕ) : Within → Form → Before → Node → Type 0 where
    matches : {x : Within} {form : Form} {b : Before} {enter exit : Event} {kids : Nodes}
        → enter.kind ≡ Enter → exit.kind ≡ Exit → exit.name ≡ enter.name
        → is_listed mdx_names enter.name ≡ false
        → (x.linked && is_listed link_names enter.name) ≡ false
        → CellsAgree b enter.name kids
        → is_fact names enter.name form b.sibling (bytes_between bytes (spot_of enter) (spot_of exit)) ≡ true
        → KidsMatch names bytes (inside x enter.name form) (before None 0) (row enter.name form) kids
        → NodeMatches names bytes x form b (Around enter kids exit)

  -- children match places: at one stands one, one or none, any number, or one before that of the next place and otherwise none of either; what may stand
  -- between does anywhere, where none of the places that are next has it
  pub data KidsMatch (names : List ℕ → Option (List ℕ)) (bytes : List ℕ) : Within → Before → List Slot → Nodes → Type 0 where
    nothing : {x : Within} {b : Before} → KidsMatch names bytes x b [] Nil
    between : {x : Within} {b : Before} {slots : List Slot} {node : Node} {ns : Nodes}
        → take_child slots (node_name node) ≡ None → stands_between x.around (node_name node) ≡ true
        → NodeMatches names bytes x Plain b node → KidsMatch names bytes x b slots ns
        → KidsMatch names bytes x b slots (Cons node ns)
    one : {x : Within} {b : Before} {c : Child} {slots : List Slot} {node : Node} {ns : Nodes}
        → has c (node_name node) ≡ true → NodeMatches names bytes x (form_of c) b node → KidsMatch names bytes x (after b node) slots ns
        → KidsMatch names bytes x b (One c ∷ slots) (Cons node ns)
    opt : {x : Within} {b : Before} {c : Child} {slots : List Slot} {node : Node} {ns : Nodes}
        → has c (node_name node) ≡ true → NodeMatches names bytes x (form_of c) b node → KidsMatch names bytes x (after b node) slots ns
        → KidsMatch names bytes x b (Opt c ∷ slots) (Cons node ns)
    no_opt : {x : Within} {b : Before} {c : Child} {slots : List Slot} {ns : Nodes}
        → KidsMatch names bytes x b slots ns → KidsMatch names bytes x b (Opt c ∷ slots) ns
    many : {x : Within} {b : Before} {c : Child} {slots : List Slot} {node : Node} {ns : Nodes}
        → has c (node_name node) ≡ true → NodeMatches names bytes x (form_of c) b node → KidsMatch names bytes x (after b node) (Many c ∷ slots) ns
        → KidsMatch names bytes x b (Many c ∷ slots) (Cons node ns)
    no_more : {x : Within} {b : Before} {c : Child} {slots : List Slot} {ns : Nodes}
        → KidsMatch names bytes x b slots ns → KidsMatch names bytes x b (Many c ∷ slots) ns
    lead : {x : Within} {b : Before} {c : Child} {slots : List Slot} {node : Node} {ns : Nodes}
        → has c (node_name node) ≡ true → NodeMatches names bytes x (form_of c) b node → KidsMatch names bytes x (after b node) slots ns
        → KidsMatch names bytes x b (Lead c ∷ slots) (Cons node ns)
    no_lead : {x : Within} {b : Before} {c : Child} {slots : List Slot} {ns : Nodes}
        → KidsMatch names bytes x b (drop 1 slots) ns → KidsMatch names bytes x b (Lead c ∷ slots) ns

-- a list of events of a text matches the grammar: it is that of nodes that match, at places in order, with labels that are defined
pub record MatchesGrammar (names : List ℕ → Option (List ℕ)) (bytes : List ℕ) (events : List Event) : Type 0 where
  pub nodes : Nodes
  pub nested : events ≡ events_of nodes
  pub match_ : KidsMatch names bytes (within Lines false) (before None 0) document_row nodes
  pub places : PlacesFit bytes (spot 0 0) events
  pub defined : first_lost bytes nodes ≡ None
