-- A list in the grammar is that of nodes, whose bytes are texts.
use Rattle.std.proofs.Common.{ℕ, List, Option, subst}
use Rattle.compile_written.proofs.Prelude.{AreNodes, AreTexts, Event, IsNode, Node, Nodes, PlacesFit}
use Rattle.event_check.specs.Matches.{NodeMatches, matches, KidsMatch, nothing, between, one, opt, no_opt, many, no_more, lead, no_lead, MatchesGrammar}
use Rattle.event_grammar.specs.declared.slot.Form.{Form}
use Rattle.event_grammar.specs.declared.slot.Slot.{Slot}
use Rattle.event_grammar.specs.InGrammar.{Within, Before}
use Rattle.event_grammar.specs.Points.{spot}
use Rattle.compile_written.proofs.PlaceTexts.{texts_law}

module _ (names : List ℕ → Option (List ℕ)) (bytes : List ℕ) where
  mutual
    node_is : (x : Within) (form : Form) (b : Before) (node : Node) → NodeMatches names bytes x form b node → IsNode node
    node_is x form b node (matches {kids = kids} p q r s t u v w) = (p, q, r, nodes_are _ _ _ kids w)

    nodes_are : (x : Within) (b : Before) (slots : List Slot) (ns : Nodes) → KidsMatch names bytes x b slots ns → AreNodes ns
    nodes_are x b slots ns nothing = tt
    nodes_are x b slots ns (between {node = node} {ns = others} h s f k) = (node_is _ _ _ node f, nodes_are _ _ _ others k)
    nodes_are x b slots ns (one {node = node} {ns = others} h f k) = (node_is _ _ _ node f, nodes_are _ _ _ others k)
    nodes_are x b slots ns (opt {node = node} {ns = others} h f k) = (node_is _ _ _ node f, nodes_are _ _ _ others k)
    nodes_are x b slots ns (no_opt {ns = others} k) = nodes_are _ _ _ others k
    nodes_are x b slots ns (many {node = node} {ns = others} h f k) = (node_is _ _ _ node f, nodes_are _ _ _ others k)
    nodes_are x b slots ns (no_more {ns = others} k) = nodes_are _ _ _ others k
    nodes_are x b slots ns (lead {node = node} {ns = others} h f k) = (node_is _ _ _ node f, nodes_are _ _ _ others k)
    nodes_are x b slots ns (no_lead {ns = others} k) = nodes_are _ _ _ others k

  -- Each event of a list in the grammar is entered and exited.
  pub checked_nodes : (events : List Event) (m : MatchesGrammar names bytes events) → AreNodes m.nodes
  checked_nodes events m = nodes_are _ _ _ m.nodes m.match_

  -- The bytes of each event of a list in the grammar are UTF-8.
  pub checked_texts : (events : List Event) (m : MatchesGrammar names bytes events) → AreTexts bytes m.nodes
  checked_texts events m = texts_law bytes m.nodes (spot 0 0) (subst (PlacesFit bytes (spot 0 0)) m.nested m.places)
