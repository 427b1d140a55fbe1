-- The bytes of an event that is read as a node.
use Rattle.std.proofs.Common.{◌≡◌, ◌==◌, ◌&&◌, ◌-◌, ◌++◌, ℕ, List, [], true, false, not, codes, sym, ap, ◌∙◌}
use Rattle.compile_raw.proofs.Prelude.{after_child, append-nil, AreNodes, Around, bytes_between, columns_after, cond-false, cond-true, events_of, IsNode}
use Rattle.compile_raw.proofs.Prelude.{IsTextNode, kids_of, Name, Nodes, repeat, Spot, spot_of, text_of, valid}
use Rattle.event_grammar.specs.Trees as tree
use Rattle.compile_levels.specs.Siblings.{Reads}
use Rattle.compile_levels.specs.declared.node.Node.{Node}
use Rattle.event_meaning.specs.Children.{spaced_between, spaced_text_of}
use Rattle.compile_written.proofs.FormedTexts.{valid_is}
use Rattle.compile_raw.proofs.Children.{after_has}

module _ (bytes : List ℕ) where
  pub text_read : (node : Node) (n : tree.Node) → Reads node n → bytes_between bytes node.start node.end ≡ text_of bytes n
  text_read node (Around enter kids exit) h =
      ap (λ (p : Spot). bytes_between bytes p node.end) h.1 ∙ ap (λ (q : Spot). bytes_between bytes (spot_of enter) q) h.2

  pub spaced_read : (node : Node) (n : tree.Node) → Reads node n → spaced_between bytes node.start node.end ≡ spaced_text_of bytes n
  spaced_read node (Around enter kids exit) h =
      ap (λ (p : Spot). spaced_between bytes p node.end) h.1 ∙ ap (λ (q : Spot). spaced_between bytes (spot_of enter) q) h.2

  pub valid_text : (n : tree.Node) → IsTextNode bytes n → valid (text_of bytes n) ≡ text_of bytes n
  valid_text (Around enter kids exit) h = valid_is (text_of bytes (Around enter kids exit)) h.0

  -- in one tab
  pub cut_spaced : (p q : Spot) → (not (p.vs == 0) && (p.index == q.index)) ≡ true → repeat (q.vs - p.vs) (codes " ") ++ [] ++ [] ≡ spaced_between bytes p q
  cut_spaced p q h =
      let spaces = repeat (q.vs - p.vs) (codes " ") in
      append-nil (spaces ++ []) ∙ append-nil spaces
      ∙ sym (cond-true (not (p.vs == 0) && (p.index == q.index)) spaces
      (repeat (columns_after bytes p) (codes " ") ++ bytes_between bytes p q ++ repeat (q.vs - 1) (codes " ")) h)

  pub not_cut_spaced : (p q : Spot) → (not (p.vs == 0) && (p.index == q.index)) ≡ false
      → repeat (columns_after bytes p) (codes " ") ++ bytes_between bytes p q ++ repeat (q.vs - 1) (codes " ") ≡ spaced_between bytes p q
  not_cut_spaced p q h =
      sym (cond-false (not (p.vs == 0) && (p.index == q.index)) (repeat (q.vs - p.vs) (codes " "))
      (repeat (columns_after bytes p) (codes " ") ++ bytes_between bytes p q ++ repeat (q.vs - 1) (codes " ")) h)

-- the events in it
pub inside_read : (node : Node) (n : tree.Node) → Reads node n → node.inside.now ≡ events_of (kids_of n)
inside_read node (Around enter kids exit) h = h.3

pub after_nodes : (name : Name) (ns : Nodes) → AreNodes ns → AreNodes (after_child name ns)
after_nodes name ns k = after_has name AreNodes IsNode tt (λ node others h. (h.0, h.1)) ns k
