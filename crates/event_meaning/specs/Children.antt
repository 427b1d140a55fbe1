-- The children of an event by their names, and the bytes of an event.
use Rattle.std.specs.Prelude.{ℕ, ◌+◌, ◌-◌, Bool, ◌==◌, ◌&&◌, not, if◌then◌else◌, List, [], ◌∷◌, ◌++◌, Option, None, Some, codes}
use Rattle.engine_events.specs.Columns.{tab_size}
use Rattle.engine_events.specs.Names.{same_name}
use Rattle.engine_events.specs.declared.event.Name.{Name}
use Rattle.std.specs.List.{repeat}
use Rattle.event_grammar.specs.InGrammar.{node_name, kids_of}
use Rattle.event_grammar.specs.Points.{bytes_between, column_at, spot_of}
use Rattle.event_grammar.specs.Trees.{Node, Nodes, Around, Nil, Cons}
use Rattle.event_grammar.specs.declared.spot.Spot.{Spot}

-- the first child of a name
abbrev pub child : Name → Nodes → Option Node
child name Nil = None
child name (Cons node ns) = if same_name (node_name node) name then Some node else child name ns

-- all children of a name
abbrev pub children : Name → Nodes → List Node
children name Nil = []
children name (Cons node ns) = if same_name (node_name node) name then node ∷ children name ns else children name ns

abbrev pub inside_of : Option Node → Nodes
inside_of None = Nil
inside_of (Some node) = kids_of node

-- the children of the first child of a name; none where there is none
abbrev pub kids_in : Name → Nodes → Nodes
kids_in name ns = inside_of (child name ns)

-- the children after the first of a name
abbrev pub after_child : Name → Nodes → Nodes
after_child name Nil = Nil
after_child name (Cons node ns) = if same_name (node_name node) name then ns else after_child name ns

-- the children before the first of a name, or all where there is none
abbrev pub before_child : Name → Nodes → Nodes
before_child name Nil = Nil
before_child name (Cons node ns) = if same_name (node_name node) name then Nil else Cons node (before_child name ns)

-- whether the last of these has a name; `before` says it of the one before them
abbrev pub ends_in : Name → Bool → Nodes → Bool
ends_in name before Nil = before
ends_in name before (Cons node ns) = ends_in name (same_name (node_name node) name) ns

-- ---- bytes

module _ (bytes : List ℕ) where
  -- the bytes of an event: a tab that its end cuts is among them, one that its start cuts isn't
  abbrev pub text_of : Node → List ℕ
  text_of (Around enter kids exit) = bytes_between bytes (spot_of enter) (spot_of exit)

  abbrev pub text_or_none : Option Node → List ℕ
  text_or_none None = []
  text_or_none (Some node) = text_of node

  -- the bytes of the first child of a name
  abbrev pub text_in : Name → Nodes → List ℕ
  text_in name ns = text_or_none (child name ns)

  -- how many columns of a tab stand after a spot that cuts it
  abbrev pub columns_after : Spot → ℕ
  columns_after p = if p.vs == 0 then 0 else tab_size (column_at bytes p.index) - p.vs

  -- the same with spaces for the columns of tabs that its ends cut; the tab that the end cuts stands for its first column
  abbrev pub spaced_between : Spot → Spot → List ℕ
  spaced_between p q =
      if not (p.vs == 0) && (p.index == q.index) then repeat (q.vs - p.vs) (codes " ")
      else repeat (columns_after p) (codes " ") ++ bytes_between bytes p q ++ repeat (q.vs - 1) (codes " ")

  abbrev pub spaced_text_of : Node → List ℕ
  spaced_text_of (Around enter kids exit) = spaced_between (spot_of enter) (spot_of exit)
