-- Line endings in a text.
use Rattle.std.specs.Prelude.{◌≡◌, ℕ, List, true}
use Rattle.engine_events.specs.Names.{same_name}
use Rattle.engine_events.specs.declared.event.Name.TheVariants as n
use Rattle.event_grammar.specs.Facts.{is_ending}
use Rattle.event_grammar.specs.Trees.{Node, Nodes, Around, Nil, Cons}
use Rattle.event_meaning.specs.Children.{text_of}

module _ (bytes : List ℕ) where
  abbrev mutual
    -- the bytes of each line ending are one, here and in all events in it
    pub HasEndings : Node → Type 0
    HasEndings (Around enter kids exit) =
        (same_name enter.name n.LineEnding ≡ true → is_ending (text_of bytes (Around enter kids exit)) ≡ true) × HaveEndings kids

    pub HaveEndings : Nodes → Type 0
    HaveEndings Nil = Unit {0}
    HaveEndings (Cons n ns) = HasEndings n × HaveEndings ns
