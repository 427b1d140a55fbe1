-- The numbers of items.
use Rattle.std.specs.Prelude.{◌≡◌, ℕ, List, true}
use Rattle.engine_events.specs.Names.{same_name}
use Rattle.engine_events.specs.declared.event.Name.TheVariants as n
use Rattle.event_grammar.specs.Facts.{are_digits}
use Rattle.event_grammar.specs.Trees.{Node, Nodes, Around, Nil, Cons}
use Rattle.event_meaning.specs.Children.{text_of}

module _ (bytes : List ℕ) where
  abbrev mutual
    -- the number of an item has 1 to 9 digits, here and in all events in it
    pub HasNumber : Node → Type 0
    HasNumber (Around enter kids exit) =
        (same_name enter.name n.ListItemValue ≡ true → are_digits 9 (text_of bytes (Around enter kids exit)) ≡ true) × HaveNumbers kids

    pub HaveNumbers : Nodes → Type 0
    HaveNumbers Nil = Unit {0}
    HaveNumbers (Cons n ns) = HasNumber n × HaveNumbers ns
