-- Nodes, each of which begins where the one before it ends, and their text.
use Rattle.std.specs.Prelude.{◌≡◌, ◌≤◌, ℕ, List, [], ◌++◌}
use Rattle.event_grammar.specs.Points.{bytes_between, edge, spot, spot_of}
use Rattle.event_grammar.specs.References.{node_text}
use Rattle.event_grammar.specs.Trees.{Nodes, Around, Nil, Cons}
use Rattle.event_grammar.specs.declared.spot.Spot.{Spot}
use Rattle.parse_output.specs.declared.end.End.{End}
use Rattle.parse_output.specs.Ends.{end_columns}

-- an end as a spot
abbrev pub end_spot : List ℕ → End → Spot
end_spot text end = spot end.index (end_columns text end)

-- where the bytes before an end are over: a tab that it cuts is among them
abbrev pub end_edge : List ℕ → End → ℕ
end_edge text end = edge (end_spot text end)

-- the bytes between two ends: a tab that the first cuts isn't among them, one that the other cuts is
abbrev pub text_between : List ℕ → End → End → List ℕ
text_between text from to = bytes_between text (end_spot text from) (end_spot text to)

-- nodes from an edge to another, without bytes between them
abbrev pub AreJoined : ℕ → Nodes → ℕ → Type 0
AreJoined from Nil to = from ≡ to
AreJoined from (Cons (Around enter kids exit) ns) to = (from ≡ edge (spot_of enter)) × (from ≤ edge (spot_of exit)) × AreJoined (edge (spot_of exit)) ns to

-- the bytes of nodes, one after another, without the prefixes of quotes in them
abbrev pub flat_text : List ℕ → Nodes → List ℕ
flat_text text Nil = []
flat_text text (Cons node ns) = node_text text node ++ flat_text text ns
