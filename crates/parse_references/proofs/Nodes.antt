-- Nodes that lead on, one after another, and what they lead to.
use Rattle.std.proofs.Common.{◌≡◌, ℕ, ◌+◌, Bool, false, ◌||◌, List, None, Some, length, refl, ap₂}
use Rattle.std.specs.Prelude.{if◌then◌else◌}
use Rattle.std.specs.Option.{option_or}
use Rattle.engine_events.specs.Names.{is_listed}
use Rattle.event_grammar.specs.Grammar.{link_names}
use Rattle.event_grammar.specs.References.{footnote_labels, link_labels, lost, lost_in}
use Rattle.event_grammar.specs.Trees.{Node, Nodes, Around, Nil, Cons, events_of}
use Rattle.parse_output.specs.Forest.{append}
use Rattle.parse_references.specs.Laws.{NodesLeadOn}
use Rattle.parse_references.specs.Leads.{LeadOn, LeadsOn}

module _ (bytes : List ℕ) (links footnotes : List (List ℕ)) where
  lead_both : (linked : Bool) (ns ms : Nodes) → LeadOn bytes links footnotes linked ns → LeadOn bytes links footnotes linked ms
      → LeadOn bytes links footnotes linked (append ns ms)
  lead_both linked Nil ms first second = second
  lead_both linked (Cons node ns) ms first second = (first.0, lead_both linked ns ms first.1 second)

  mutual
    never_lost_in : (linked : Bool) (at : ℕ) (node : Node) → LeadsOn bytes links footnotes linked node → lost_in bytes links footnotes at node ≡ None
    never_lost_in linked at (Around enter kids exit) h =
        ap₂ (λ o b. option_or o (if b then None else Some (at + 1 + length (events_of kids))))
        (never_lost (linked || is_listed link_names enter.name) (at + 1) kids h.2) h.1

    never_lost : (linked : Bool) (at : ℕ) (ns : Nodes) → LeadOn bytes links footnotes linked ns → lost bytes links footnotes at ns ≡ None
    never_lost linked at Nil h = refl
    never_lost linked at (Cons (Around enter kids exit) ns) h =
        ap₂ option_or (never_lost_in linked at (Around enter kids exit) h.0) (never_lost linked (at + 2 + length (events_of kids)) ns h.1)

pub nodes_lead_on : NodesLeadOn
nodes_lead_on = record {
  both = lead_both;
  defined = λ bytes ns h. never_lost bytes (link_labels bytes ns) (footnote_labels bytes ns) false 0 ns h;
}
