-- What drafts say of a text, as nodes: those read so far in the innermost event that is open, and around it.
use Rattle.std.specs.Prelude.{◌≡◌, ℕ, suc, zero, ◌+◌, ◌-◌, Bool, true, false, ◌&&◌, if◌then◌else◌, List, [], ◌∷◌, ◌++◌, None}
use Rattle.engine_events.specs.Events.{event}
use Rattle.engine_events.specs.Names.{same_name}
use Rattle.engine_events.specs.declared.event.Event.{Event}
use Rattle.engine_events.specs.declared.event.Kind.TheVariants as kind
use Rattle.engine_events.specs.declared.event.Name.{Name}
use Rattle.engine_events.specs.declared.event.Name.TheVariants as n
use Rattle.engine_events.specs.declared.place.Point.{Point}
use Rattle.event_grammar.specs.Points.{edge, spot_of}
use Rattle.event_grammar.specs.Trees.{Node, Nodes, Around, Nil, Cons, Part, Growth, growth}
use Rattle.event_grammar.specs.Void.{is_void}
use Rattle.parse_output.specs.declared.draft.Draft.{Draft}
use Rattle.parse_output.specs.declared.draft.Draft.TheVariants as draft
use Rattle.parse_output.specs.declared.end.End.{End}
use Rattle.parse_output.specs.Ends.{end_at, enter_at, exit_at, first_end, same_end}
use Rattle.parse_output.specs.Voids.{IsSizedToken}

abbrev pub append : Nodes → Nodes → Nodes
append Nil others = others
append (Cons node ns) others = Cons node (append ns others)

abbrev pub one : Node → Nodes
one node = Cons node Nil

abbrev pub is_nil : Nodes → Bool
is_nil Nil = true
is_nil (Cons node ns) = false

-- ---- data, byte by byte: how it is cut into events says nothing

abbrev pub byte_point : ℕ → Point
byte_point index = record { line = 0; column = 0; index = index; vs = 0 }

-- the byte at an index
abbrev pub byte_node : ℕ → Node
byte_node index = Around (event kind.Enter n.Data (byte_point index) None) Nil (event kind.Exit n.Data (byte_point (index + 1)) None)

-- so many bytes from an index on
abbrev pub byte_nodes : ℕ → ℕ → Nodes
byte_nodes index zero = Nil
byte_nodes index (suc count) = Cons (byte_node index) (byte_nodes (index + 1) count)

-- the bytes between two events
abbrev pub bytes_from : Event → Event → Nodes
bytes_from enter exit = byte_nodes (edge (spot_of enter)) (edge (spot_of exit) - edge (spot_of enter))

-- a node, or its bytes if it is data
abbrev pub cut : Node → Nodes
cut (Around enter kids exit) = if same_name enter.name n.Data && is_nil kids then bytes_from enter exit else one (Around enter kids exit)

abbrev mutual
  pub node_bytewise : Node → Nodes
  node_bytewise (Around enter kids exit) = cut (Around enter (bytewise kids) exit)

  -- nodes with all data in them cut into bytes
  pub bytewise : Nodes → Nodes
  bytewise Nil = Nil
  bytewise (Cons node ns) = append (node_bytewise node) (bytewise ns)

-- ---- drafts

-- a draft of data
abbrev pub IsData : Draft → Type 0
IsData (draft.Enter name) = ⊥
IsData (draft.Exit name) = ⊥
IsData (draft.Void name owed index) = name ≡ n.Data

-- where a draft ends that begins at an end
abbrev pub draft_end : End → Draft → End
draft_end from (draft.Enter name) = from
draft_end from (draft.Exit name) = from
draft_end from (draft.Void name owed index) = end_at index owed

abbrev pub drafts_end : End → List Draft → End
drafts_end from [] = from
drafts_end from (d ∷ ds) = drafts_end (draft_end from d) ds

-- the events of a draft that begins at an end
abbrev pub draft_events : List ℕ → End → Draft → List Event
draft_events text from (draft.Enter name) = enter_at text name from ∷ []
draft_events text from (draft.Exit name) = exit_at text name from ∷ []
draft_events text from (draft.Void name owed index) = enter_at text name from ∷ exit_at text name (end_at index owed) ∷ []

abbrev pub drafts_events : List ℕ → End → List Draft → List Event
drafts_events text from [] = []
drafts_events text from (d ∷ ds) = draft_events text from d ++ drafts_events text (draft_end from d) ds

-- a draft goes onward in a text: what is entered may hold others, and what holds no other has a size
abbrev pub GoesOnward : List ℕ → End → Draft → Type 0
GoesOnward text from (draft.Enter name) = is_void name ≡ false
GoesOnward text from (draft.Exit name) = Unit {0}
GoesOnward text from (draft.Void name owed index) = IsSizedToken text name from (end_at index owed)

abbrev pub AreInOrder : List ℕ → End → List Draft → Type 0
AreInOrder text from [] = Unit {0}
AreInOrder text from (d ∷ ds) = GoesOnward text from d × AreInOrder text (draft_end from d) ds

-- ---- the nodes of drafts

-- what holds no other, from an end to another; nothing of no size
abbrev pub void_nodes : List ℕ → Name → End → End → Nodes
void_nodes text name from to = if same_end to from then Nil else cut (Around (enter_at text name from) Nil (exit_at text name to))

-- the bytes of data from an end to another
abbrev pub data_nodes : List ℕ → End → End → Nodes
data_nodes text from to = bytes_from (enter_at text n.Data from) (exit_at text n.Data to)

-- after more nodes in the innermost event that is open
abbrev pub with_nodes : Growth → Nodes → Growth
with_nodes g ns = growth (append g.kids ns) g.outer

-- after an enter
abbrev pub entered : Growth → Event → Growth
entered g enter = growth Nil (record { enter = enter; before = g.kids } ∷ g.outer)

-- after an exit, where these are open
abbrev pub exited_from : Nodes → Event → List Part → Growth
exited_from kids exit [] = growth kids []
exited_from kids exit (part ∷ parts) = growth (append part.before (cut (Around part.enter kids exit))) parts

abbrev pub exited : Growth → Event → Growth
exited g exit = exited_from g.kids exit g.outer

-- after a draft that begins at an end
abbrev pub drafted : List ℕ → End → Growth → Draft → Growth
drafted text from g (draft.Enter name) = entered g (enter_at text name from)
drafted text from g (draft.Exit name) = exited g (exit_at text name from)
drafted text from g (draft.Void name owed index) =
    with_nodes g (cut (Around (enter_at text name from) Nil (exit_at text name (end_at index owed))))

abbrev pub drafted_all : List ℕ → End → Growth → List Draft → Growth
drafted_all text from g [] = g
drafted_all text from g (d ∷ ds) = drafted_all text (draft_end from d) (drafted text from g d) ds

-- what drafts say of a text from its start on
abbrev pub forest : List ℕ → List Draft → Growth
forest text ds = drafted_all text first_end (growth Nil []) ds
