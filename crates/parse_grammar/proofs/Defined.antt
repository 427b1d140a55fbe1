-- The labels of the definitions of links that nodes spell are among those of the nodes.
use Rattle.std.proofs.Common.{inl, inr, ◌≡◌, ℕ, Bool, true, false, ◌||◌, List, [], ◌∷◌, ◌++◌, Option, map, refl, sym, ap, subst, ◌∙◌}
use Rattle.std.proofs.lemmas.Bool.{cases_Bool, cond-false, cond-true, or_cases, true≢false}
use denote.Enum.Bare.{same_true}
use Rattle.engine_events.specs.contracts.event.Name.{the_type}
use Rattle.engine_events.specs.Names.{same_name}
use Rattle.engine_events.specs.declared.event.Name.{Name}
use Rattle.engine_events.specs.declared.event.Name.TheVariants as n
use Rattle.definition_text.specs.Content.{content_codes}
use Rattle.definition_inline.specs.CharacterReference.{Names}
use Rattle.definition_inline.specs.LabelMatch.{normal_label}
use Rattle.definition_inline.specs.Targets.{labels_of}
use Rattle.event_grammar.specs.declared.slot.Between.{Between}
use Rattle.event_grammar.specs.declared.slot.Form.{Form}
use Rattle.event_grammar.specs.declared.slot.Slot.{Slot}
use Rattle.event_grammar.specs.Grammar.{row}
use Rattle.event_grammar.specs.InGrammar.{kids_of, node_name}
use Rattle.event_grammar.specs.References.{label_text, named, named_in}
use Rattle.event_grammar.specs.Trees.{Node, Nodes, Around, Nil, Cons}
use Rattle.event_meaning.specs.Blocks.{label_of}
use Rattle.event_meaning.specs.Children.{child, inside_of}
use Rattle.event_meaning.specs.Spelled.{definition_of}
use Rattle.parse_slots.specs.Left.{ends, is_filled, left_by}
use Rattle.parse_grammar.proofs.Inside.{any_node, in_child, in_first, in_node, in_others, is_there, IsThere, of_child, parts_filled, rest_after}
use Rattle.parse_grammar.proofs.Kept.{any_label}
use Rattle.event_grammar.specs.Slots.{take_child, between_of}

-- what is in a node of a name fills its row
pub inside_filled : (around : Between) (form : Form) (node : Node) (name : Name) → node_name node ≡ name → is_filled around form node ≡ true
    → ends (left_by (between_of (row name form) around name) (row name form) (kids_of node)) ≡ true
inside_filled around form (Around enter kids exit) name is filled =
    subst (λ name. ends (left_by (between_of (row name form) around name) (row name form) kids) ≡ true) is filled

module _ (names : Names) (bytes : List ℕ) (test : List ℕ → Bool) where
  -- whether a label is that of one of these definitions
  abbrev pub any_definition : List Node → Bool
  any_definition nodes = any_label test (labels_of (map (definition_of names bytes) nodes))

  any_definitions : (xs ys : List Node) → any_definition (xs ++ ys) ≡ (any_definition xs || any_definition ys)
  any_definitions [] ys = refl
  any_definitions (x ∷ xs) ys = more (test (normal_label (definition_of names bytes x).label)) (any_definitions xs ys)
    where
      more : (b : Bool) → any_definition (xs ++ ys) ≡ (any_definition xs || any_definition ys)
          → (b || any_definition (xs ++ ys)) ≡ ((b || any_definition xs) || any_definition ys)
      more true h = refl
      more false h = h

  abbrev HasLabel : Nodes → Type 0
  HasLabel ns = any_node bytes test (named n.DefinitionLabelString ns) ≡ true

  -- its own label
  own_label : (around : Between) (form : Form) (node : Node) → node_name node ≡ n.Definition → is_filled around form node ≡ true
      → test (normal_label (definition_of names bytes node).label) ≡ true → HasLabel (kids_of node)
  own_label around form node is filled h =
      let outer = between_of (row n.Definition form) around n.Definition in
      let label : IsThere n.DefinitionLabel outer (kids_of node) =
      is_there n.DefinitionLabel outer (kids_of node) (row n.Definition form) refl (inside_filled around form node n.Definition is filled) in
      let inner = between_of (row n.DefinitionLabel label.form) outer n.DefinitionLabel in
      let string : IsThere n.DefinitionLabelString inner (kids_of label.node) =
      is_there n.DefinitionLabelString inner (kids_of label.node) (row n.DefinitionLabel label.form) refl
      (inside_filled outer label.form label.node n.DefinitionLabel label.is_named label.filled) in
      let label_is : (definition_of names bytes node).label ≡ content_codes (label_text bytes string.node) =
      ap (λ (o : Option Node). label_of names bytes (child n.DefinitionLabelString (inside_of o))) label.is_child
      ∙ ap (λ (o : Option Node). label_of names bytes o) string.is_child in
      in_child bytes test n.DefinitionLabelString n.DefinitionLabel (kids_of node) label.node label.is_child
      (of_child bytes test n.DefinitionLabelString (kids_of label.node) string.node string.is_child (ap (λ l. test (normal_label l)) (sym label_is) ∙ h))

  mutual
    node_defined : (around : Between) (form : Form) (node : Node) → is_filled around form node ≡ true → any_definition (named_in n.Definition node) ≡ true
        → any_node bytes test (named_in n.DefinitionLabelString node) ≡ true
    node_defined around form (Around enter kids exit) filled h = elim (cases_Bool (same_name enter.name n.Definition)) [
      | inl same ↦
          elim (or_cases (test (normal_label (definition_of names bytes (Around enter kids exit)).label)) (any_definition (named n.Definition kids))
          (ap any_definition (sym (cond-true (same_name enter.name n.Definition) (Around enter kids exit ∷ named n.Definition kids) (named n.Definition kids) same))
          ∙ h)) [
            | inl own ↦
                in_node bytes test n.DefinitionLabelString (Around enter kids exit)
                (own_label around form (Around enter kids exit) (same_true the_type tt enter.name n.Definition same) filled own)
            | inr later ↦
                in_node bytes test n.DefinitionLabelString (Around enter kids exit)
                (kids_defined (between_of (row enter.name form) around enter.name) (row enter.name form) kids filled later)
          ]
      | inr other ↦
          in_node bytes test n.DefinitionLabelString (Around enter kids exit)
          (kids_defined (between_of (row enter.name form) around enter.name) (row enter.name form) kids filled
          (ap any_definition (sym (cond-false (same_name enter.name n.Definition) (Around enter kids exit ∷ named n.Definition kids) (named n.Definition kids) other))
          ∙ h))
    ]

    pub kids_defined : (around : Between) (slots : List Slot) (ns : Nodes) → ends (left_by around slots ns) ≡ true
        → any_definition (named n.Definition ns) ≡ true → HasLabel ns
    kids_defined around slots Nil e h = absurd (true≢false (sym h))
    kids_defined around slots (Cons node ns) e h =
        let parts = parts_filled around slots node ns e in
        elim (or_cases (any_definition (named_in n.Definition node)) (any_definition (named n.Definition ns))
        (sym (any_definitions (named_in n.Definition node) (named n.Definition ns)) ∙ h)) [
          | inl here ↦ in_first bytes test n.DefinitionLabelString node ns (node_defined around parts.form node parts.filled here)
          | inr later ↦
              in_others bytes test n.DefinitionLabelString node ns
              (kids_defined around (rest_after (take_child slots (node_name node)) slots) ns parts.left later)
        ]
