-- Nodes as the grammar makes them: what printers ask of events.
use Rattle.std.specs.Prelude.{◌≡◌, ℕ, List, [], ◌∷◌, ◌++◌, true, false, drop}
use Rattle.engine_events.specs.Names.{same_name, is_listed}
use Rattle.engine_events.specs.declared.event.Event.{Event}
use Rattle.engine_events.specs.declared.event.Name.{Name}
use Rattle.engine_events.specs.declared.event.Name.TheVariants as n
use Rattle.event_grammar.specs.Facts.{is_size}
use Rattle.event_grammar.specs.declared.spot.Spot.{Spot}
use Rattle.event_grammar.specs.InGrammar.{node_name, PlacesFit}
use Rattle.event_grammar.specs.Trees.{Node, Nodes, Around, Nil, Cons, node_events, events_of, IsNode, AreNodes}
use Rattle.event_meaning.specs.Children.{text_in}
use Rattle.compile_rows.specs.Texts.{HasEndings, HaveEndings}
use Rattle.compile_written.specs.Texts.{IsTextNode, AreTexts}

-- ---- ATX headings

module _ (bytes : List ℕ) where
  abbrev mutual
    -- the sequence of a heading has 1 to 6 bytes, here and in all events in it
    pub HasRank : Node → Type 0
    HasRank (Around enter kids exit) =
        (same_name enter.name n.HeadingAtx ≡ true → is_size 6 (text_in bytes n.HeadingAtxSequence kids) ≡ true) × HaveRanks kids

    pub HaveRanks : Nodes → Type 0
    HaveRanks Nil = Unit {0}
    HaveRanks (Cons n ns) = HasRank n × HaveRanks ns

-- ---- HTML

-- chunks of code and math
abbrev pub chunk_names : List Name
chunk_names = n.CodeFlowChunk ∷ n.MathFlowChunk ∷ []

-- no child is a chunk
abbrev pub HaveNoChunk : Nodes → Type 0
HaveNoChunk Nil = Unit {0}
HaveNoChunk (Cons n ns) = (is_listed chunk_names (node_name n) ≡ false) × HaveNoChunk ns

abbrev mutual
  -- HTML holds no chunk, here and in all events in it
  pub HasHtml : Node → Type 0
  HasHtml (Around enter kids exit) = (same_name enter.name n.HtmlFlow ≡ true → HaveNoChunk kids) × HaveHtml kids

  pub HaveHtml : Nodes → Type 0
  HaveHtml Nil = Unit {0}
  HaveHtml (Cons n ns) = HasHtml n × HaveHtml ns

-- ---- places

-- the places of events lie in the text, and never go back
abbrev pub HavePlaces : List ℕ → List Event → Type 0
HavePlaces bytes events = (at : Spot) × PlacesFit bytes at events

-- ---- all of these

pub record IsSound (bytes : List ℕ) (node : Node) : Type 0 where
  pub is_node : IsNode node
  pub texts : IsTextNode bytes node
  pub endings : HasEndings bytes node
  pub rank : HasRank bytes node
  pub html : HasHtml node
  pub places : HavePlaces bytes (node_events node)

pub record AreSound (bytes : List ℕ) (ns : Nodes) : Type 0 where
  pub nodes : AreNodes ns
  pub texts : AreTexts bytes ns
  pub endings : HaveEndings bytes ns
  pub ranks : HaveRanks bytes ns
  pub html : HaveHtml ns
  pub places : HavePlaces bytes (events_of ns)

-- ---- in a list

-- a node is entered at an index
abbrev pub StandsAt : List Event → ℕ → Node → Type 0
StandsAt events index node = (back : List Event) × (drop index events ≡ node_events node ++ back)
