-- Empty data, which nothing is left of: what comes before it is then last.
use Rattle.std.specs.Prelude.{◌≡◌, ℕ, List, None}
use Rattle.engine_events.specs.Events.{event}
use Rattle.engine_events.specs.declared.event.Kind.TheVariants as kind
use Rattle.engine_events.specs.declared.event.Name.{Name}
use Rattle.engine_events.specs.declared.event.Name.TheVariants as n
use Rattle.definition_inline.specs.CharacterReference.{Names}
use Rattle.event_grammar.specs.Trees.{Node, Nodes, Around, Nil, Cons}
use Rattle.event_meaning.specs.Spelled.{page_of}
use Rattle.parse_output.specs.Forest.{byte_point, bytewise}

-- what holds no other, from an index to another
abbrev pub void : Name → ℕ → ℕ → Node
void name from to = Around (event kind.Enter name (byte_point from) None) Nil (event kind.Exit name (byte_point to) None)

-- the ending of a blank line, and data without a byte
abbrev pub empty_data : Nodes
empty_data = Cons (void n.BlankLineEnding 0 1) (Cons (void n.Data 1 1) Nil)

-- The page ends in a blank line only without the data.
abbrev pub RefusedExample : Type 0
RefusedExample = (names : Names) (bytes : List ℕ) → page_of names bytes (bytewise empty_data) ≡ page_of names bytes empty_data → ⊥
