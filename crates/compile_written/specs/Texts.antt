-- Nodes whose bytes are texts.
use Rattle.std.specs.Prelude.{◌≡◌, ℕ, List, true}
use Rattle.std.specs.Str.{is_utf8}
use Rattle.event_grammar.specs.Trees.{Node, Nodes, Around, Nil, Cons}
use Rattle.event_meaning.specs.Children.{text_of}

module _ (bytes : List ℕ) where
  abbrev mutual
    -- the bytes of an event are UTF-8, and those of all events in it
    pub IsTextNode : Node → Type 0
    IsTextNode (Around enter kids exit) = (is_utf8 (text_of bytes (Around enter kids exit)) ≡ true) × AreTexts kids

    pub AreTexts : Nodes → Type 0
    AreTexts Nil = Unit {0}
    AreTexts (Cons n ns) = IsTextNode n × AreTexts ns
