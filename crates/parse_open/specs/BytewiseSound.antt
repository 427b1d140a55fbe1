-- Nodes as the grammar has them, where empty data changes nothing: data that has no byte, or is some columns of one tab.
use Rattle.std.specs.Prelude.{◌≡◌, ◌≤◌, true, ℕ, List, [], ◌∷◌}
use Rattle.engine_events.specs.Names.{is_listed}
use Rattle.engine_events.specs.declared.event.Event.{Event}
use Rattle.engine_events.specs.declared.event.Name.{Name}
use Rattle.engine_events.specs.declared.event.Name.TheVariants as n
use Rattle.event_grammar.specs.InGrammar.{node_name}
use Rattle.event_grammar.specs.Points.{edge, spot_of}
use Rattle.event_grammar.specs.Trees.{Node, Nodes, Around, Nil, Cons}

-- these stand one after another, from an index to another
abbrev pub AreBetween : ℕ → Nodes → ℕ → Type 0
AreBetween from Nil to = from ≤ to
AreBetween from (Cons (Around enter kids exit) ns) to =
    (from ≤ edge (spot_of enter)) × (edge (spot_of enter) ≤ edge (spot_of exit)) × AreBetween (edge (spot_of exit)) ns to

-- none of these is data
abbrev pub HaveNoData : Nodes → Type 0
HaveNoData Nil = Unit {0}
HaveNoData (Cons node ns) = (node_name node ≡ n.Data → ⊥) × HaveNoData ns

-- events of which it counts what is last in them
abbrev pub fenced_names : List Name
fenced_names = n.CodeFenced ∷ n.MathFlow ∷ []

-- data holds no other, what an event holds is between its enter and its exit, and none of it is data where it counts what is last
abbrev pub IsRegular : Event → Nodes → Event → Type 0
IsRegular enter kids exit =
    (enter.name ≡ n.Data → kids ≡ Nil) × AreBetween (edge (spot_of enter)) kids (edge (spot_of exit))
    × (is_listed fenced_names enter.name ≡ true → HaveNoData kids)

abbrev mutual
  -- an event is regular, and so is each in it
  pub IsSound : Node → Type 0
  IsSound (Around enter kids exit) = IsRegular enter kids exit × AreSound kids

  pub AreSound : Nodes → Type 0
  AreSound Nil = Unit {0}
  AreSound (Cons node ns) = IsSound node × AreSound ns
