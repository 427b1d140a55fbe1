-- Nodes fit a row exactly if they fill it, and all else holds of them.
use Rattle.std.proofs.Common.{◌≡◌, ℕ, Bool, true, false, ◌&&◌, if◌then◌else◌, List, Option, None, Some, refl, ap, ◌∙◌}
use Rattle.std.proofs.lemmas.Bool.{and_parts}
use Rattle.event_grammar.specs.declared.slot.Form.{Form}
use Rattle.event_grammar.specs.declared.slot.Form.TheVariants.{Plain}
use Rattle.event_grammar.specs.declared.slot.Slot.{Slot}
use Rattle.event_check.proofs.Matching.{kids_match}
use Rattle.event_grammar.specs.declared.slot.Between.TheVariants.{Lines}
use Rattle.event_grammar.specs.Grammar.{document_row}
use Rattle.event_grammar.specs.InGrammar.{Within, within, Before, before, after, node_name, NodeFits, fits, KidsFit, end, takes, between}
use Rattle.event_grammar.specs.Slots.{Taken, take_child, stands_between}
use Rattle.event_grammar.specs.Trees.{Node, Nodes, Around, Nil, Cons}
use Rattle.parse_slots.specs.Left.{ends, is_filled, left_after, left_by}
use Rattle.parse_slots.proofs.Steps.{left_between, left_taken}
use Rattle.parse_slots.specs.Laws.{ChildHolds, FilledListsMatch, KidsHold, NodeHolds, RowsAreFilled}

no_end : (A : Type 0) → ends None ≡ true → A
no_end A h = absurd (let k : false ≡ true = h in cc)

-- the two parts of what is left after a child
if_ends : (t : Bool) (o : Option (List Slot)) → ends (if t then o else None) ≡ true → (t ≡ true) × (ends o ≡ true)
if_ends true o h = (refl, h)
if_ends false o h = no_end _ h

module _ (names : List ℕ → Option (List ℕ)) (bytes : List ℕ) where
  -- ---- what is filled fits

  child_fits : (x : Within) (b : Before) (slots : List Slot) (node : Node) (ns : Nodes)
      → ((form : Form) → is_filled x.around form node ≡ true → NodeHolds names bytes x form b node → NodeFits names bytes x form b node)
      → ((b : Before) (slots : List Slot) → ends (left_by x.around slots ns) ≡ true → KidsHold names bytes x b slots ns → KidsFit names bytes x b slots ns)
      → (t : Option Taken) → take_child slots (node_name node) ≡ t
      → ends (left_after t slots (stands_between x.around (node_name node)) (λ form. is_filled x.around form node) (λ rest. left_by x.around rest ns)) ≡ true
      → ChildHolds t slots (λ form. NodeHolds names bytes x form b node) (λ rest. KidsHold names bytes x (after b node) rest ns) (KidsHold names bytes x b slots ns)
      → KidsFit names bytes x b slots (Cons node ns)
  child_fits x b slots node ns own others (Some t) is e h =
      let both = if_ends (is_filled x.around t.form node) (left_by x.around t.rest ns) e in
      takes is (own t.form both.0 h.0) (others (after b node) t.rest both.1 h.1)
  child_fits x b slots node ns own others None is e h =
      let both = if_ends (stands_between x.around (node_name node) && is_filled x.around Plain node) (left_by x.around slots ns) e in
      let parts = and_parts (stands_between x.around (node_name node)) (is_filled x.around Plain node) both.0 in
      between is parts.0 (own Plain parts.1 h.0) (others b slots both.1 h.1)

  mutual
    node_fits : (x : Within) (form : Form) (b : Before) (node : Node) → is_filled x.around form node ≡ true → NodeHolds names bytes x form b node
        → NodeFits names bytes x form b node
    node_fits x form b (Around enter kids exit) filled h = fits h.0 h.1 h.2 h.3 h.4 h.5 h.6 (kids_fit _ _ _ kids filled h.7)

    kids_fit : (x : Within) (b : Before) (slots : List Slot) (ns : Nodes) → ends (left_by x.around slots ns) ≡ true → KidsHold names bytes x b slots ns
        → KidsFit names bytes x b slots ns
    kids_fit x b slots Nil e h = end e
    kids_fit x b slots (Cons node ns) e h =
        child_fits x b slots node ns (λ form. node_fits x form b node) (λ b slots. kids_fit x b slots ns) (take_child slots (node_name node)) refl e h

  -- ---- what fits is filled

  mutual
    node_filled : (x : Within) (form : Form) (b : Before) (node : Node) → NodeFits names bytes x form b node → is_filled x.around form node ≡ true
    node_filled x form b node (fits p q r s t u v w) = kids_filled _ _ _ _ w

    kids_filled : (x : Within) (b : Before) (slots : List Slot) (ns : Nodes) → KidsFit names bytes x b slots ns → ends (left_by x.around slots ns) ≡ true
    kids_filled x b slots ns (end h) = h
    kids_filled x b slots ns (takes {node = node} {ns = others} {t = t} h f k) =
        ap ends (left_taken x.around slots node others t h (node_filled _ _ _ _ f)) ∙ kids_filled _ _ _ _ k
    kids_filled x b slots ns (between {node = node} {ns = others} h s f k) =
        ap ends (left_between x.around slots node others h s (node_filled _ _ _ _ f)) ∙ kids_filled _ _ _ _ k

pub rows_are_filled : RowsAreFilled
rows_are_filled names bytes x b slots ns = (kids_fit names bytes x b slots ns, kids_filled names bytes x b slots ns)

pub filled_lists_match : FilledListsMatch
filled_lists_match names bytes events ns nested filled hold places defined = record {
  nodes = ns;
  nested = nested;
  match_ = kids_match names bytes (within Lines false) (before None 0) document_row ns
      (kids_fit names bytes (within Lines false) (before None 0) document_row ns filled hold);
  places = places;
  defined = defined;
}
