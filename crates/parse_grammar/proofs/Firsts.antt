-- The first of nodes where a row needs a child of a name, or may have one last.
use Rattle.std.proofs.Common.{inl, inr, ◌⊎◌, ◌≡◌, Bool, true, false, ◌&&◌, List, Option, None, Some, refl, sym, ap, subst, ◌∙◌}
use Rattle.std.proofs.lemmas.Bool.{and_parts, cases_Bool, cond-false, cond-true, not-true, true≢false}
use Rattle.std.specs.Prelude.{if◌then◌else◌, not}
use Rattle.std.specs.List.{list_all}
use denote.Enum.Bare.{same_true}
use Rattle.engine_events.specs.contracts.event.Name.{the_type}
use Rattle.engine_events.specs.declared.event.Name.{Name}
use Rattle.engine_events.specs.Names.{same_name}
use Rattle.event_grammar.specs.declared.slot.Between.{Between}
use Rattle.event_grammar.specs.declared.slot.Child.TheVariants.{Only}
use Rattle.event_grammar.specs.declared.slot.Form.TheVariants.{Plain}
use Rattle.event_grammar.specs.declared.slot.Slot.{Slot}
use Rattle.event_grammar.specs.Grammar.{line_names, space_names}
use Rattle.event_grammar.specs.InGrammar.{kids_of, node_name}
use Rattle.event_grammar.specs.Slots.{Taken, take_child, taken, stands_between}
use Rattle.event_grammar.specs.Trees.{Node, Nodes, Cons}
use Rattle.event_meaning.specs.Children.{child, inside_of, kids_in}
use Rattle.parse_slots.specs.Left.{ends, is_filled, left_after, left_by}
use Rattle.parse_references.proofs.Rows.{between_passes, if_ends}

-- ---- names

-- names that are the same are so the other way round
pub other_way : (a b : Name) → same_name a b ≡ true → same_name b a ≡ true
other_way a b same =
    let is = same_true the_type tt a b same in
    subst (λ x. same_name x a ≡ true) is (subst (λ x. same_name a x ≡ true) (sym is) same)

pub apart_way : (a b : Name) → same_name a b ≡ false → same_name b a ≡ false
apart_way a b apart = elim (cases_Bool (same_name b a)) [
  | inl same ↦ absurd (true≢false (sym (other_way b a same) ∙ apart))
  | inr other ↦ other
]

-- what stands between has none of the names that white space, endings and prefixes don't have
pub between_other : (name : Name) → list_all (λ x. not (same_name x name)) space_names ≡ true → list_all (λ x. not (same_name x name)) line_names ≡ true
    → (around : Between) (other : Name) → stands_between around other ≡ true → same_name other name ≡ false
between_other name spaces lines around other is =
    not-true (same_name other name) (between_passes (λ x. not (same_name x name)) spaces lines around other is)

-- ---- the first child of a name

-- the first of some nodes has it, or not
pub child_here : (name : Name) (node : Node) (ns : Nodes) → same_name (node_name node) name ≡ true → kids_in name (Cons node ns) ≡ kids_of node
child_here name node ns same = ap inside_of (cond-true (same_name (node_name node) name) (Some node) (child name ns) same)

pub child_later : (name : Name) (node : Node) (ns : Nodes) → same_name (node_name node) name ≡ false → kids_in name (Cons node ns) ≡ kids_in name ns
child_later name node ns other = ap inside_of (cond-false (same_name (node_name node) name) (Some node) (child name ns) other)

-- ---- where a row has a place for it

module _ (name : Name) (around : Between) (slots rest : List Slot) (node : Node) (ns : Nodes) where
  -- the row takes the first node at that place
  pub record IsFirst : Type 0 where
    pub same : same_name (node_name node) name ≡ true
    pub is_named : node_name node ≡ name
    pub filled : is_filled around Plain node ≡ true
    pub left : ends (left_by around rest ns) ≡ true

  -- it may stand between others
  pub record IsBefore : Type 0 where
    pub other : same_name (node_name node) name ≡ false
    pub between : stands_between around (node_name node) ≡ true
    pub filled : is_filled around Plain node ≡ true
    pub left : ends (left_by around slots ns) ≡ true

  abbrev After : Option Taken → Type 0
  After t = ends (left_after t slots (stands_between around (node_name node)) (λ form. is_filled around form node) (λ rest. left_by around rest ns)) ≡ true

  pub first_is : ((other : Name) → take_child slots other ≡ (if same_name name other then Some (taken (Only name) rest) else None))
      → ends (left_by around slots (Cons node ns)) ≡ true → IsFirst ⊎ IsBefore
  first_is takes e = elim (cases_Bool (same_name name (node_name node))) [
    | inl same ↦
        inl (here (take_child slots (node_name node)) same
        (takes (node_name node) ∙ ap (λ (b : Bool). if b then Some (taken (Only name) rest) else None) same) e)
    | inr other ↦
        inr (before (take_child slots (node_name node)) other
        (takes (node_name node) ∙ ap (λ (b : Bool). if b then Some (taken (Only name) rest) else None) other) e)
  ]
    where
      here : (t : Option Taken) → same_name name (node_name node) ≡ true → t ≡ Some (taken (Only name) rest) → After t → IsFirst
      here t same is e =
          if_ends IsFirst (is_filled around Plain node) (left_by around rest ns) ends refl
          (λ filled left. record {
            same = other_way name (node_name node) same;
            is_named = sym (same_true the_type tt name (node_name node) same);
            filled = filled;
            left = left;
          }) (subst After is e)

      before : (t : Option Taken) → same_name name (node_name node) ≡ false → t ≡ None → After t → IsBefore
      before t other is e =
          if_ends IsBefore (stands_between around (node_name node) && is_filled around Plain node) (left_by around slots ns) ends refl
          (λ both left.
          let parts = and_parts (stands_between around (node_name node)) (is_filled around Plain node) both in
          record { other = apart_way name (node_name node) other; between = parts.0; filled = parts.1; left = left }) (subst After is e)
