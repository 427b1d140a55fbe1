-- A child that was looked for among events, by the tree.
use Rattle.std.proofs.Common.{◌≡◌, List, [], Option, None, Some, sym, ap, ◌∙◌, subst}
use Rattle.compile_blocks.proofs.Prelude.{after_child, Around, child, Event, events_of, first_none, inside_of, IsChildOf, kids_in, kids_of, MatchOption, Name}
use Rattle.compile_blocks.proofs.Prelude.{Nodes, Sibling}
use Rattle.event_grammar.specs.Trees as tree
use Rattle.compile_levels.specs.Siblings.{Reads}
use Rattle.compile_levels.specs.declared.node.Node.{Node}
use Rattle.compile_blocks.specs.Found.{IsFound}

pub reads_inside : (node : Node) (first : tree.Node) → Reads node first → node.inside.now ≡ events_of (kids_of first)
reads_inside node (Around enter kids exit) h = h.3

module _ (name : Name) (ns : Nodes) where
  -- the events are those of the nodes
  pub found_law : (events : List Event) (found : Option Sibling) → events ≡ events_of ns
      → MatchOption found (child name ns ≡ None) (λ f. IsChildOf name events ns f) → IsFound name ns found
  found_law events found e h = let P : List Event → Type 0 = λ es. MatchOption found (child name ns ≡ None) (λ f. IsChildOf name es ns f) in subst P e h

  pub none_found : (found : Option Sibling) → found ≡ None → IsFound name ns found → child name ns ≡ None
  none_found found e h = subst (IsFound name ns) e h

  pub some_found : (found : Option Sibling) (sibling : Sibling) → found ≡ Some sibling → IsFound name ns found → IsChildOf name (events_of ns) ns sibling
  some_found found sibling e h = subst (IsFound name ns) e h

  -- the events in it, and those after it
  pub inside_none : child name ns ≡ None → [] ≡ events_of (kids_in name ns)
  inside_none e = sym (ap (λ o. events_of (inside_of o)) e)

  pub inside_some : (events : List Event) (sibling : Sibling) → IsChildOf name events ns sibling → sibling.node.inside.now ≡ events_of (kids_in name ns)
  inside_some events sibling f = reads_inside sibling.node f.node f.reads ∙ sym (ap (λ o. events_of (inside_of o)) f.named)

  pub after_none : child name ns ≡ None → [] ≡ events_of (after_child name ns)
  after_none e = sym (ap events_of (first_none name ns e).1)
