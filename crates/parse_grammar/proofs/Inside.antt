-- Children that a row needs, and what is found in them.
use Rattle.std.proofs.Common.{inl, inr, ◌≡◌, ℕ, Bool, true, false, ◌&&◌, ◌||◌, List, [], ◌∷◌, ◌++◌, Option, None, Some, map, refl, sym, ap, subst, ◌∙◌}
use Rattle.std.proofs.lemmas.Bool.{and_parts, cases_Bool, cond-false, cond-true, cond_both, or_left, or_right, true≢false}
use Rattle.std.specs.Prelude.{if◌then◌else◌}
use denote.Enum.Bare.{same_true}
use Rattle.engine_events.specs.contracts.event.Name.{the_type}
use Rattle.engine_events.specs.Names.{same_name}
use Rattle.engine_events.specs.declared.event.Name.{Name}
use Rattle.definition_text.specs.Content.{content_codes}
use Rattle.definition_inline.specs.LabelMatch.{normal_label}
use Rattle.event_grammar.specs.declared.slot.Between.{Between}
use Rattle.event_grammar.specs.declared.slot.Child.TheVariants.{Only}
use Rattle.event_grammar.specs.declared.slot.Form.{Form}
use Rattle.event_grammar.specs.declared.slot.Form.TheVariants.{Plain}
use Rattle.event_grammar.specs.declared.slot.Slot.{Slot}
use Rattle.event_grammar.specs.declared.slot.Slot.TheVariants.{One}
use Rattle.event_grammar.specs.InGrammar.{kids_of, node_name}
use Rattle.event_grammar.specs.References.{label_text, named, named_in}
use Rattle.event_grammar.specs.Slots.{may_end, Taken, take_child, taken, stands_between}
use Rattle.event_grammar.specs.Trees.{Node, Nodes, Around, Nil, Cons}
use Rattle.event_meaning.specs.Children.{child}
use Rattle.parse_slots.specs.Left.{ends, is_filled, left_after, left_by}
use Rattle.parse_references.proofs.Rows.{if_ends}
use Rattle.parse_grammar.proofs.Kept.{any_label}

-- ---- the first of nodes that fill a row

-- what is left of a row after a child that it takes or that stands between
abbrev pub rest_after : Option Taken → List Slot → List Slot
rest_after (Some t) slots = t.rest
rest_after None slots = slots

pub record FilledParts (around : Between) (slots : List Slot) (node : Node) (ns : Nodes) : Type 0 where
  pub form : Form
  pub filled : is_filled around form node ≡ true
  pub left : ends (left_by around (rest_after (take_child slots (node_name node)) slots) ns) ≡ true

pub parts_filled : (around : Between) (slots : List Slot) (node : Node) (ns : Nodes) → ends (left_by around slots (Cons node ns)) ≡ true
    → FilledParts around slots node ns
parts_filled around slots node ns e = split (take_child slots (node_name node)) refl e
  where
    split : (t : Option Taken) → take_child slots (node_name node) ≡ t
        → ends (left_after t slots (stands_between around (node_name node)) (λ form. is_filled around form node) (λ rest. left_by around rest ns)) ≡ true
        → FilledParts around slots node ns
    split (Some t) is h =
        if_ends (FilledParts around slots node ns) (is_filled around t.form node) (left_by around t.rest ns) ends refl
        (λ filled left. record {
          form = t.form;
          filled = filled;
          left = ap (λ (o : Option Taken). ends (left_by around (rest_after o slots) ns)) is ∙ left;
        }) h
    split None is h =
        if_ends (FilledParts around slots node ns) (stands_between around (node_name node) && is_filled around Plain node) (left_by around slots ns) ends refl
        (λ both left. record {
          form = Plain;
          filled = (and_parts (stands_between around (node_name node)) (is_filled around Plain node) both).1;
          left = ap (λ (o : Option Taken). ends (left_by around (rest_after o slots) ns)) is ∙ left;
        }) h

-- ---- a child that a row needs

pub same_node : (x y : Node) → Some x ≡ Some y → x ≡ y
same_node x y h = cc

module _ (name : Name) where
  -- whether it does, at one of its first places
  abbrev pub needs : List Slot → Bool
  needs (One (Only a) ∷ slots) = same_name a name || needs slots
  needs slots = false

  goes_on : (slots : List Slot) → needs slots ≡ true → may_end slots ≡ true → ⊥
  goes_on (One (Only a) ∷ slots) h may = true≢false (sym may)
  goes_on slots h may = true≢false (sym h)

  -- after another child it does so still
  needs_rest : (slots : List Slot) (other : Name) → needs slots ≡ true → same_name other name ≡ false
      → needs (rest_after (take_child slots other) slots) ≡ true
  needs_rest (One (Only a) ∷ slots) other h apart = elim (cases_Bool (same_name a other)) [
    | inl same ↦
        ap (λ (b : Bool). needs (rest_after (if b then Some (taken (Only a) slots) else None) (One (Only a) ∷ slots))) same
        ∙ ap (λ (b : Bool). b || needs slots) (sym (ap (λ x. same_name x name) (same_true the_type tt a other same) ∙ apart)) ∙ h
    | inr unlike ↦ ap (λ (b : Bool). needs (rest_after (if b then Some (taken (Only a) slots) else None) (One (Only a) ∷ slots))) unlike ∙ h
  ]
  needs_rest slots other h apart = absurd (true≢false (sym h))

  -- the first child of the name
  pub record IsThere (around : Between) (ns : Nodes) : Type 0 where
    pub node : Node
    pub is_child : child name ns ≡ Some node
    pub is_named : node_name node ≡ name
    pub form : Form
    pub filled : is_filled around form node ≡ true

  pub is_there : (around : Between) (ns : Nodes) (slots : List Slot) → needs slots ≡ true → ends (left_by around slots ns) ≡ true → IsThere around ns
  is_there around Nil slots h e = absurd (goes_on slots h e)
  is_there around (Cons node ns) slots h e =
      let parts = parts_filled around slots node ns e in
      elim (cases_Bool (same_name (node_name node) name)) [
        | inl same ↦ record {
          node = node;
          is_child = cond-true (same_name (node_name node) name) (Some node) (child name ns) same;
          is_named = same_true the_type tt (node_name node) name same;
          form = parts.form;
          filled = parts.filled;
        }
        | inr apart ↦
            let later = is_there around ns (rest_after (take_child slots (node_name node)) slots) (needs_rest slots (node_name node) h apart) parts.left in
            record {
              node = later.node;
              is_child = cond-false (same_name (node_name node) name) (Some node) (child name ns) apart ∙ later.is_child;
              is_named = later.is_named;
              form = later.form;
              filled = later.filled;
            }
      ]

-- ---- labels among nodes

module _ (bytes : List ℕ) (test : List ℕ → Bool) where
  -- whether a label is that of one of these nodes
  abbrev pub any_node : List Node → Bool
  any_node nodes = any_label test (map content_codes (map (label_text bytes) nodes))

  pub any_nodes : (xs ys : List Node) → any_node (xs ++ ys) ≡ (any_node xs || any_node ys)
  any_nodes [] ys = refl
  any_nodes (x ∷ xs) ys = more (test (normal_label (content_codes (label_text bytes x)))) (any_nodes xs ys)
    where
      more : (b : Bool) → any_node (xs ++ ys) ≡ (any_node xs || any_node ys) → (b || any_node (xs ++ ys)) ≡ ((b || any_node xs) || any_node ys)
      more true h = refl
      more false h = h

  module _ (name : Name) where
    pub in_node : (node : Node) → any_node (named name (kids_of node)) ≡ true → any_node (named_in name node) ≡ true
    in_node (Around enter kids exit) h =
        cond_both (same_name enter.name name) (Around enter kids exit ∷ named name kids) (named name kids) (λ xs. any_node xs ≡ true)
        (λ _. or_right (test (normal_label (content_codes (label_text bytes (Around enter kids exit))))) (any_node (named name kids)) h) (λ _. h)

    pub in_first : (node : Node) (ns : Nodes) → any_node (named_in name node) ≡ true → any_node (named name (Cons node ns)) ≡ true
    in_first node ns h = any_nodes (named_in name node) (named name ns) ∙ or_left (any_node (named_in name node)) (any_node (named name ns)) h

    pub in_others : (node : Node) (ns : Nodes) → any_node (named name ns) ≡ true → any_node (named name (Cons node ns)) ≡ true
    in_others node ns h = any_nodes (named_in name node) (named name ns) ∙ or_right (any_node (named_in name node)) (any_node (named name ns)) h

    own_named : (node : Node) → same_name (node_name node) name ≡ true → test (normal_label (content_codes (label_text bytes node))) ≡ true
        → any_node (named_in name node) ≡ true
    own_named (Around enter kids exit) same h =
        ap any_node (cond-true (same_name enter.name name) (Around enter kids exit ∷ named name kids) (named name kids) same)
        ∙ or_left (test (normal_label (content_codes (label_text bytes (Around enter kids exit))))) (any_node (named name kids)) h

    -- the label of a child of the name
    pub of_child : (ns : Nodes) (x : Node) → child name ns ≡ Some x → test (normal_label (content_codes (label_text bytes x))) ≡ true
        → any_node (named name ns) ≡ true
    of_child Nil x is h = absurd (let k : None ≡ Some x = is in cc)
    of_child (Cons node ns) x is h = elim (cases_Bool (same_name (node_name node) name)) [
      | inl same ↦
          let node_is : node ≡ x = same_node node x (sym (cond-true (same_name (node_name node) name) (Some node) (child name ns) same) ∙ is) in
          in_first node ns
          (own_named node same (subst (λ y. test (normal_label (content_codes (label_text bytes y))) ≡ true) (sym node_is) h))
      | inr apart ↦
          in_others node ns (of_child ns x (sym (cond-false (same_name (node_name node) name) (Some node) (child name ns) apart) ∙ is) h)
    ]

    -- one in a child of another name
    pub in_child : (other : Name) (ns : Nodes) (x : Node) → child other ns ≡ Some x → any_node (named name (kids_of x)) ≡ true
        → any_node (named name ns) ≡ true
    in_child other Nil x is h = absurd (let k : None ≡ Some x = is in cc)
    in_child other (Cons node ns) x is h = elim (cases_Bool (same_name (node_name node) other)) [
      | inl same ↦
          let node_is : node ≡ x = same_node node x (sym (cond-true (same_name (node_name node) other) (Some node) (child other ns) same) ∙ is) in
          in_first node ns (subst (λ y. any_node (named_in name y) ≡ true) (sym node_is) (in_node x h))
      | inr apart ↦
          in_others node ns (in_child other ns x (sym (cond-false (same_name (node_name node) other) (Some node) (child other ns) apart) ∙ is) h)
    ]
