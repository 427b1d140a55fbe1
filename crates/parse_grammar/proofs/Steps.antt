-- A row of which each child passes a test, child by child.
use Rattle.std.proofs.Common.{◌≡◌, Bool, true, ◌&&◌, List, [], ◌∷◌, Option, None, Some, refl}
use Rattle.std.proofs.lemmas.Bool.{and_parts}
use Rattle.std.specs.List.{list_all}
use Rattle.engine_events.specs.declared.event.Name.{Name}
use Rattle.event_grammar.specs.declared.slot.Between.{Between}
use Rattle.event_grammar.specs.declared.slot.Child.{Child}
use Rattle.event_grammar.specs.declared.slot.Form.{Form}
use Rattle.event_grammar.specs.declared.slot.Form.TheVariants.{Plain}
use Rattle.event_grammar.specs.declared.slot.Slot.{Slot}
use Rattle.event_grammar.specs.declared.slot.Slot.TheVariants.{One, Opt, Lead, Many}
use Rattle.event_grammar.specs.Grammar.{line_names, space_names}
use Rattle.event_grammar.specs.InGrammar.{node_name}
use Rattle.event_grammar.specs.Slots.{Taken, has, take_child, taken, stands_between}
use Rattle.event_grammar.specs.Trees.{Node, Nodes, Cons}
use Rattle.parse_slots.specs.Left.{ends, is_filled, left_after, left_by}
use Rattle.parse_references.proofs.Rows.{between_passes, child_of, if_ends, no_take, one_passes, passes, took_or}

module _ (test : Form → Name → Bool) where
  abbrev pub row_passes : List Slot → Bool
  row_passes slots = list_all (λ slot. passes test (child_of slot)) slots

  -- a child that such a row takes passes, and so does what is left
  module _ (name : Name) where
    abbrev PassesAfter : Taken → Type 0
    PassesAfter t = (test t.form name ≡ true) × (row_passes t.rest ≡ true)

    here : (child : Child) (slots : List Slot) → passes test child ≡ true → row_passes slots ≡ true → has child name ≡ true → PassesAfter (taken child slots)
    here child slots one others is = (one_passes test child name one is, others)

    pub taken_passes : (slots : List Slot) → row_passes slots ≡ true → (t : Taken) → take_child slots name ≡ Some t → PassesAfter t
    taken_passes [] all t is = no_take PassesAfter t is
    taken_passes (One child ∷ slots) all t is =
        let parts = and_parts (passes test child) (row_passes slots) all in
        took_or PassesAfter (has child name) (taken child slots) None (here child slots parts.0 parts.1) (no_take PassesAfter) t is
    taken_passes (Opt child ∷ slots) all t is =
        let parts = and_parts (passes test child) (row_passes slots) all in
        took_or PassesAfter (has child name) (taken child slots) (take_child slots name) (here child slots parts.0 parts.1) (taken_passes slots parts.1) t is
    taken_passes (Many child ∷ slots) all t is =
        let parts = and_parts (passes test child) (row_passes slots) all in
        took_or PassesAfter (has child name) (taken child (Many child ∷ slots)) (take_child slots name) (here child (Many child ∷ slots) parts.0 all)
        (taken_passes slots parts.1) t is
    taken_passes (Lead child ∷ []) all t is =
        let parts = and_parts (passes test child) true all in
        took_or PassesAfter (has child name) (taken child []) None (here child [] parts.0 refl) (no_take PassesAfter) t is
    taken_passes (Lead child ∷ slot ∷ slots) all t is =
        let parts = and_parts (passes test child) (row_passes (slot ∷ slots)) all in
        let more = and_parts (passes test (child_of slot)) (row_passes slots) parts.1 in
        took_or PassesAfter (has child name) (taken child (slot ∷ slots)) (take_child slots name) (here child (slot ∷ slots) parts.0 parts.1)
        (taken_passes slots more.1) t is

  -- the first of nodes that fill such a row, and those after it
  pub record Step (around : Between) (node : Node) (ns : Nodes) : Type 0 where
    pub form : Form
    pub passed : test form (node_name node) ≡ true
    pub filled : is_filled around form node ≡ true
    pub rest : List Slot
    pub passing : row_passes rest ≡ true
    pub left : ends (left_by around rest ns) ≡ true

  -- what stands between children passes, too
  module _ (spaces : list_all (test Plain) space_names ≡ true) (lines : list_all (test Plain) line_names ≡ true) where
    pub step : (around : Between) (slots : List Slot) (node : Node) (ns : Nodes) → row_passes slots ≡ true
        → ends (left_by around slots (Cons node ns)) ≡ true → Step around node ns
    step around slots node ns all e = split (take_child slots (node_name node)) refl e
      where
        split : (t : Option Taken) → take_child slots (node_name node) ≡ t
            → ends (left_after t slots (stands_between around (node_name node)) (λ form. is_filled around form node) (λ rest. left_by around rest ns)) ≡ true
            → Step around node ns
        split (Some t) is h =
            let after = taken_passes (node_name node) slots all t is in
            if_ends (Step around node ns) (is_filled around t.form node) (left_by around t.rest ns) ends refl
            (λ filled left. record { form = t.form; passed = after.0; filled = filled; rest = t.rest; passing = after.1; left = left }) h
        split None is h =
            if_ends (Step around node ns) (stands_between around (node_name node) && is_filled around Plain node) (left_by around slots ns) ends refl
            (λ both left.
            let parts = and_parts (stands_between around (node_name node)) (is_filled around Plain node) both in
            record {
              form = Plain;
              passed = between_passes (test Plain) spaces lines around (node_name node) parts.0;
              filled = parts.1;
              rest = slots;
              passing = all;
              left = left;
            }) h
