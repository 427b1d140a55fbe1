-- What is written of the prefixes of containers on later lines: it spells nothing in a string, in a text and among blocks.
use Rattle.std.specs.Prelude.{◌≡◌, ◌⊎◌, List, [], ◌∷◌}
use Rattle.engine_events.specs.declared.event.Name.{Name}
use Rattle.engine_events.specs.declared.event.Name.TheVariants.{BlockQuoteMarker, BlockQuotePrefix, SpaceOrTab}
use Rattle.event_grammar.specs.declared.slot.Between.TheVariants.{Spaces}
use Rattle.event_grammar.specs.declared.slot.Form.TheVariants.{Plain}
use Rattle.event_grammar.specs.Grammar.{row}
use Rattle.event_grammar.specs.InGrammar.{kids_of, node_name}
use Rattle.event_grammar.specs.Trees.{Node, Nodes, Nil, Cons}
use Rattle.parse_slots.specs.Left.{Fill}

-- what holds no other, of a name
abbrev pub IsVoidOf : Name → Node → Type 0
IsVoidOf name node = (node_name node ≡ name) × (kids_of node ≡ Nil)

-- in the prefix of a quote are its marker and white space
abbrev pub AreOfPrefix : Nodes → Type 0
AreOfPrefix Nil = Unit {0}
AreOfPrefix (Cons node ns) = (IsVoidOf BlockQuoteMarker node ⊎ IsVoidOf SpaceOrTab node) × AreOfPrefix ns

-- the prefix of a quote, whose row is filled
abbrev pub IsQuotePrefix : Node → Type 0
IsQuotePrefix node =
    (node_name node ≡ BlockQuotePrefix) × AreOfPrefix (kids_of node) × Fill Spaces (row BlockQuotePrefix Plain) (kids_of node) []

-- white space, or the prefix of a quote
abbrev pub IsQuiet : Node → Type 0
IsQuiet node = IsVoidOf SpaceOrTab node ⊎ IsQuotePrefix node

abbrev pub AreQuiet : Nodes → Type 0
AreQuiet Nil = Unit {0}
AreQuiet (Cons node ns) = IsQuiet node × AreQuiet ns

-- the names of all that is in quiet nodes
abbrev pub quiet_names : List Name
quiet_names = SpaceOrTab ∷ BlockQuotePrefix ∷ BlockQuoteMarker ∷ []
