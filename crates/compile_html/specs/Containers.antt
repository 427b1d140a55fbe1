-- Where lists stand in a tree of events: in containers and in lists alone, from where the content of these begins.
use Rattle.std.specs.Prelude.{◌≡◌, ℕ, Bool, true, false, if◌then◌else◌, List, [], ◌++◌}
use Rattle.engine_events.specs.Names.{same_name, is_listed}
use Rattle.engine_events.specs.declared.event.Name.{Name}
use Rattle.event_grammar.specs.InGrammar.{node_name}
use Rattle.event_grammar.specs.Trees.{Node, Nodes, Around, Nil, Cons}
use Rattle.event_meaning.specs.Blocks.{start_of}
use Rattle.compile_written.specs.GfmFootnoteDefinition.{container_names}
use Rattle.compile_written.specs.List.{node_lists, loose_lists}

module _ (bytes : List ℕ) where
  -- whether the lists are loose that are among the children before the first of this name
  abbrev pub lists_before : Name → Nodes → List Bool
  lists_before start Nil = []
  lists_before start (Cons node ns) = if same_name (node_name node) start then [] else node_lists bytes node ++ lists_before start ns

  abbrev mutual
    pub HoldsLists : Node → Type 0
    HoldsLists (Around enter kids exit) =
        (is_listed container_names enter.name ≡ false → loose_lists bytes kids ≡ [])
        × (is_listed container_names enter.name ≡ true → lists_before (start_of enter.name) kids ≡ [])
        × HoldLists kids

    pub HoldLists : Nodes → Type 0
    HoldLists Nil = Unit {0}
    HoldLists (Cons n ns) = HoldsLists n × HoldLists ns
