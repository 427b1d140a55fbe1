-- A list of events has no fault exactly if it is in the grammar.
use Rattle.std.proofs.Common.{◌≡◌, ℕ, ◌+◌, Bool, true, false, if◌then◌else◌, List, [], ◌∷◌, ◌++◌, Option, None, Some, refl, sym, ap, ◌∙◌, subst}
use Rattle.std.specs.Prelude.{◌↔◌}
use Rattle.event_check.proofs.Prelude.{append-nil, AreNodes, before, Before, between, Check, check_at, document_row, end, Event, event_fault, EventFault}
use Rattle.event_check.proofs.Prelude.{events_of, fault_from, fits, Form, IsInGrammar, KidsFit, Kind, may_exit, moved, Name, Node, NodeFits, Nodes, Open}
use Rattle.event_check.proofs.Prelude.{PlacesFit, Slot, Spot, spot_of, takes, tree, with_above, Within, within}
use Rattle.engine_events.specs.declared.event.Kind.TheVariants.{Enter, Exit}
use Rattle.engine_events.specs.declared.event.Name.TheVariants as n
use Rattle.event_faults.specs.declared.fault.FaultKind.TheVariants as kinds
use Rattle.event_grammar.specs.declared.slot.Between.TheVariants.{Lines}
use Rattle.event_grammar.specs.Points.{spot}
use Rattle.event_faults.specs.Checks.{at_start, the_document, exited_to}
use Rattle.event_grammar.specs.Trees.{IsNode}
use Rattle.event_grammar.specs.References.{first_lost}
use Rattle.event_faults.specs.Faults.{fault, or_lost, lost_fault}
use Rattle.event_faults.proofs.TreeLaw.{tree_law}
use Rattle.event_references.specs.Texts.{texts_of}
use Rattle.event_references.specs.Lost.{new_media, lost_from}
use Rattle.event_references.proofs.LostLaw.{lost_law}
use Rattle.event_check.proofs.NodeKinds.{tree_kinds}
use Rattle.event_check.proofs.Steps.{enters, goes_on, no_fault}
use Rattle.event_check.proofs.Fits.{sound, loose_ends}
use Rattle.event_check.proofs.FitsBack.{complete}

-- ---- where the last event was

some_is : (a b : Check) → Some a ≡ Some b → a ≡ b
some_is a b h = cc

none_some : (A : Type 0) (c : Check) → (let o : Option Check = None in o ≡ Some c) → A
none_some A c h = absurd (cc)

exited_spot : (c next : Check) (outer : List Open) (name : Name) (at : Spot) → exited_to c at name outer ≡ Some next → next.spot ≡ at
exited_spot c next [] name at h = none_some _ next h
exited_spot c next (o ∷ os) name at h = sym (ap (λ (z : Check). z.spot) (some_is (check_at (with_above o name c.inner.cells) os at) next h))

exit_spot : (b : Bool) (c next : Check) (name : Name) (at : Spot) → (if b then exited_to c at name c.outer else None) ≡ Some next → next.spot ≡ at
exit_spot true c next name at h = exited_spot c next c.outer name at h
exit_spot false c next name at h = none_some _ next h

moved_spot : (kind : Kind) (c next : Check) (name : Name) (at : Spot) → moved c kind name at ≡ Some next → next.spot ≡ at
moved_spot Enter c next name at h = ap (λ (z : Check). z.spot) (enters c.inner c.outer name at c.spot next h).next_is
moved_spot Exit c next name at h = exit_spot (may_exit c.inner name) c next name at h

-- ---- nodes that fit are nodes

module _ (names : List ℕ → Option (List ℕ)) (bytes : List ℕ) where
  mutual
    node_is : (x : Within) (form : Form) (b : Before) (node : Node) → NodeFits names bytes x form b node → IsNode node
    node_is x form b node (fits {kids = kids} p q r s t u v w) = (p, q, r, are_nodes _ _ _ kids w)

    are_nodes : (x : Within) (b : Before) (slots : List Slot) (ns : Nodes) → KidsFit names bytes x b slots ns → AreNodes ns
    are_nodes x b slots ns (end h) = tt
    are_nodes x b slots ns (takes {node = node} {ns = others} h f k) = (node_is _ _ _ node f, are_nodes _ _ _ others k)
    are_nodes x b slots ns (between {node = node} {ns = others} h s f k) = (node_is _ _ _ node f, are_nodes _ _ _ others k)

  -- ---- places

  places_are : (es : List Event) (c : Check) (i : ℕ) → fault_from names bytes c i es ≡ None → PlacesFit bytes c.spot es
  places_are [] c i h = tt
  places_are (e ∷ es) c i h =
      let g = goes_on names bytes c i e es h in (
        g.stands.later,
        g.stands.spot,
        subst (λ (z : Spot). PlacesFit bytes z es) (moved_spot e.kind c g.next e.name (spot_of e) g.stands.goes) (places_are es g.next (i + 1) g.others),
      )

  -- ---- the law, but for references

  -- the events are those of nodes that fit, at places that do
  pub record Fit (events : List Event) (nodes : Nodes) : Type 0 where
    pub nested : events ≡ events_of nodes
    pub fit : KidsFit names bytes (within Lines false) (before None 0) document_row nodes
    pub places : PlacesFit bytes (spot 0 0) events

  pub fits_then : (events : List Event) → fault_from names bytes at_start 0 events ≡ None → Fit events (tree events)
  fits_then events h =
      let nested = tree_law names bytes events h in
      let same : events ≡ events_of (tree events) ++ [] = nested ∙ sym (append-nil (events_of (tree events))) in
      let ran = sound names bytes (tree events) (tree_kinds events) the_document [] (spot 0 0) 0 []
      (subst (λ (z : List Event). fault_from names bytes at_start 0 z ≡ None) same h) in
      record {
        nested = nested;
        fit = ran.fit (loose_ends ran.rest (ran.loose refl));
        places = places_are events at_start 0 h;
      }

  no_limit : (limit : ℕ) → (let o : Option ℕ = None in o ≡ Some limit) → (cells : ℕ) → cells ≡ limit
  no_limit limit h cells = absurd (cc)

  pub then_fits : (events : List Event) (nodes : Nodes) → Fit events nodes → fault_from names bytes at_start 0 events ≡ None
  then_fits events nodes f =
      let same : events ≡ events_of nodes ++ [] = f.nested ∙ sym (append-nil (events_of nodes)) in
      ap (fault_from names bytes at_start 0) same
      ∙ (complete names bytes nodes the_document [] (spot 0 0) 0 [] f.fit (λ (limit : ℕ) h. no_limit limit h _)
      (subst (PlacesFit bytes (spot 0 0)) same f.places)).goes

  -- ---- the law

  -- what leads nowhere first is the same for each tree with these events
  lost_same : (nodes others : Nodes) → AreNodes nodes → AreNodes others → events_of nodes ≡ events_of others → first_lost bytes nodes ≡ first_lost bytes others
  lost_same nodes others k l same =
      sym (lost_law bytes nodes k)
      ∙ ap (λ (z : List Event). lost_from bytes (texts_of bytes n.DefinitionLabelString z) (texts_of bytes n.GfmFootnoteDefinitionLabelString z) new_media [] 0 z) same
      ∙ lost_law bytes others l

  lost_none : (o : Option ℕ) → lost_fault names bytes o ≡ None → o ≡ None
  lost_none None h = refl
  lost_none (Some i) h = no_fault _ (event_fault kinds.Reference i) h

  holds_by : (events : List Event) (o : Option EventFault) → fault_from names bytes at_start 0 events ≡ o → or_lost names bytes events o ≡ None
      → IsInGrammar names bytes events
  holds_by events (Some f) e h = no_fault _ f h
  holds_by events None e h =
      let f = fits_then events e in
      record { nodes = tree events; nested = f.nested; fit = f.fit; places = f.places; defined = lost_none (first_lost bytes (tree events)) h }

  pub fault_free : (events : List Event) → fault names bytes events ≡ None → IsInGrammar names bytes events
  fault_free events h = holds_by events (fault_from names bytes at_start 0 events) refl h

  pub in_grammar : (events : List Event) → IsInGrammar names bytes events → fault names bytes events ≡ None
  in_grammar events g =
      let none = then_fits events g.nodes (record { nested = g.nested; fit = g.fit; places = g.places }) in
      let f = fits_then events none in
      let same = lost_same (tree events) g.nodes (are_nodes _ _ _ (tree events) f.fit) (are_nodes _ _ _ g.nodes g.fit) (sym f.nested ∙ g.nested) in
      ap (or_lost names bytes events) none ∙ ap (lost_fault names bytes) (same ∙ g.defined)

  -- The law of the grammar: a list has no fault exactly if it is in the grammar.
  pub grammar_law : (events : List Event) → (fault names bytes events ≡ None) ↔ IsInGrammar names bytes events
  grammar_law events = (fault_free events, in_grammar events)

  -- ---- what code finds

  -- without a fault before, what leads nowhere first among the events does so in their tree
  pub lost_found : (events : List Event) → fault_from names bytes at_start 0 events ≡ None
      → lost_from bytes (texts_of bytes n.DefinitionLabelString events) (texts_of bytes n.GfmFootnoteDefinitionLabelString events) new_media [] 0 events
      ≡ first_lost bytes (tree events)
  lost_found events h =
      let f = fits_then events h in
      ap (λ (z : List Event). lost_from bytes (texts_of bytes n.DefinitionLabelString z) (texts_of bytes n.GfmFootnoteDefinitionLabelString z) new_media [] 0 z) f.nested
      ∙ lost_law bytes (tree events) (are_nodes _ _ _ (tree events) f.fit)

  abbrev lost_event : List Event → Option ℕ
  lost_event events =
      lost_from bytes (texts_of bytes n.DefinitionLabelString events) (texts_of bytes n.GfmFootnoteDefinitionLabelString events) new_media [] 0 events

  pub first_is : (events : List Event) (found : EventFault) → fault_from names bytes at_start 0 events ≡ Some found → fault names bytes events ≡ Some found
  first_is events found h = ap (or_lost names bytes events) h

  -- without another fault it is that of a reference
  lost_is : (events : List Event) (lost : Option ℕ) → fault_from names bytes at_start 0 events ≡ None → lost_event events ≡ lost
      → fault names bytes events ≡ lost_fault names bytes lost
  lost_is events lost h k = ap (or_lost names bytes events) h ∙ ap (lost_fault names bytes) (sym (lost_found events h) ∙ k)

  pub reference_is : (events : List Event) (index : ℕ) → fault_from names bytes at_start 0 events ≡ None → lost_event events ≡ Some index
      → fault names bytes events ≡ Some (event_fault kinds.Reference index)
  reference_is events index h k = lost_is events (Some index) h k

  pub holds : (events : List Event) → fault_from names bytes at_start 0 events ≡ None → lost_event events ≡ None → IsInGrammar names bytes events
  holds events h k = fault_free events (lost_is events None h k)

  pub not_both : (A : Type 0) (events : List Event) (found : EventFault) → fault names bytes events ≡ Some found → IsInGrammar names bytes events → A
  not_both A events found h g = no_fault A found (sym h ∙ in_grammar events g)
