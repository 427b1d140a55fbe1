-- The labels of the footnotes that nodes spell are among those of the nodes.
use Rattle.std.proofs.Common.{inl, inr, ◌≡◌, ℕ, Bool, true, false, ◌||◌, List, [], ◌∷◌, ◌++◌, Option, refl, sym, ap, ◌∙◌, append_assoc}
use Rattle.std.proofs.lemmas.Bool.{cases_Bool, cond-false, cond-true, or_cases, true≢false}
use Rattle.engine_events.specs.Names.{same_name}
use Rattle.engine_events.specs.declared.event.Name.{Name}
use Rattle.engine_events.specs.declared.event.Name.TheVariants as n
use Rattle.definition_text.specs.Columns.{Code}
use Rattle.definition_text.specs.Content.{content_codes}
use Rattle.definition_inline.specs.CharacterReference.{Names}
use Rattle.definition_inline.specs.LabelMatch.{normal_label}
use Rattle.definition_page.specs.Page as page
use Rattle.event_grammar.specs.declared.slot.Between.{Between}
use Rattle.event_grammar.specs.declared.slot.Form.{Form}
use Rattle.event_grammar.specs.declared.slot.Slot.{Slot}
use Rattle.event_grammar.specs.Grammar.{row}
use Rattle.event_grammar.specs.InGrammar.{kids_of}
use Rattle.event_grammar.specs.References.{label_text, named}
use Rattle.event_grammar.specs.Slots.{take_child, between_of}
use Rattle.event_grammar.specs.Trees.{Node, Nodes, Around, Nil, Cons}
use Rattle.event_meaning.specs.Blocks.{block_of, blocks_from, blocks_of, footnote_label, join, label_of, start_of}
use Rattle.event_meaning.specs.Children.{child, inside_of, text_of}
use Rattle.event_meaning.specs.Spelled.{block_footnotes, footnotes}
use Rattle.parse_slots.specs.Left.{ends, left_by}
use Rattle.parse_grammar.proofs.Defined.{inside_filled}
use Rattle.parse_grammar.proofs.Inside.{any_node, in_child, in_first, in_node, in_others, is_there, IsThere, of_child, parts_filled, rest_after}
use Rattle.parse_grammar.proofs.Kept.{any_both, any_label}

or_false : (b : Bool) → (b || false) ≡ true → b ≡ true
or_false true e = refl
or_false false e = e

module _ (names : Names) (bytes : List ℕ) (test : List ℕ → Bool) where
  -- whether a label is that of a footnote among these blocks
  abbrev pub any_footnote : page.Blocks → Bool
  any_footnote bs = any_label test (footnotes bs)

  joined : (bs cs : page.Blocks) → footnotes (join bs cs) ≡ footnotes bs ++ footnotes cs
  joined page.Nil cs = refl
  joined (page.Cons b bs) cs =
      ap (λ xs. block_footnotes b ++ xs) (joined bs cs) ∙ sym (append_assoc (block_footnotes b) (footnotes bs) (footnotes cs))

  either : (bs cs : page.Blocks) → any_footnote (join bs cs) ≡ true → (any_footnote bs || any_footnote cs) ≡ true
  either bs cs h = sym (any_both test (footnotes bs) (footnotes cs)) ∙ sym (ap (any_label test) (joined bs cs)) ∙ h

  -- a label among labels and no others
  alone : (xs : List (List Code)) → any_label test (xs ++ []) ≡ true → any_label test xs ≡ true
  alone xs h = or_false (any_label test xs) (sym (any_both test xs []) ∙ h)

  abbrev HasLabel : Nodes → Type 0
  HasLabel ns = any_node bytes test (named n.GfmFootnoteDefinitionLabelString ns) ≡ true

  -- the label of a footnote definition
  own_label : (around : Between) (form : Form) (kids : Nodes)
      → ends (left_by (between_of (row n.GfmFootnoteDefinition form) around n.GfmFootnoteDefinition) (row n.GfmFootnoteDefinition form) kids) ≡ true
      → test (normal_label (footnote_label names bytes kids)) ≡ true → HasLabel kids
  own_label around form kids e h =
      let outer = between_of (row n.GfmFootnoteDefinition form) around n.GfmFootnoteDefinition in
      let prefix : IsThere n.GfmFootnoteDefinitionPrefix outer kids =
      is_there n.GfmFootnoteDefinitionPrefix outer kids (row n.GfmFootnoteDefinition form) refl e in
      let inner = between_of (row n.GfmFootnoteDefinitionPrefix prefix.form) outer n.GfmFootnoteDefinitionPrefix in
      let label : IsThere n.GfmFootnoteDefinitionLabel inner (kids_of prefix.node) =
      is_there n.GfmFootnoteDefinitionLabel inner (kids_of prefix.node) (row n.GfmFootnoteDefinitionPrefix prefix.form) refl
      (inside_filled outer prefix.form prefix.node n.GfmFootnoteDefinitionPrefix prefix.is_named prefix.filled) in
      let innermost = between_of (row n.GfmFootnoteDefinitionLabel label.form) inner n.GfmFootnoteDefinitionLabel in
      let string : IsThere n.GfmFootnoteDefinitionLabelString innermost (kids_of label.node) =
      is_there n.GfmFootnoteDefinitionLabelString innermost (kids_of label.node) (row n.GfmFootnoteDefinitionLabel label.form) refl
      (inside_filled inner label.form label.node n.GfmFootnoteDefinitionLabel label.is_named label.filled) in
      let label_is : footnote_label names bytes kids ≡ content_codes (label_text bytes string.node) =
      ap (λ (o : Option Node). label_of names bytes (child n.GfmFootnoteDefinitionLabelString (inside_of (child n.GfmFootnoteDefinitionLabel (inside_of o)))))
      prefix.is_child
      ∙ ap (λ (o : Option Node). label_of names bytes (child n.GfmFootnoteDefinitionLabelString (inside_of o))) label.is_child
      ∙ ap (λ (o : Option Node). label_of names bytes o) string.is_child in
      in_child bytes test n.GfmFootnoteDefinitionLabelString n.GfmFootnoteDefinitionPrefix kids prefix.node prefix.is_child
      (in_child bytes test n.GfmFootnoteDefinitionLabelString n.GfmFootnoteDefinitionLabel (kids_of prefix.node) label.node label.is_child
      (of_child bytes test n.GfmFootnoteDefinitionLabelString (kids_of label.node) string.node string.is_child
      (ap (λ l. test (normal_label l)) (sym label_is) ∙ h)))

  -- what a block spells
  block_called : (top : Bool) (text : List ℕ) (kids : Nodes) (inner : page.Blocks) (around : Between) (form : Form) (name : Name)
      → ends (left_by (between_of (row name form) around name) (row name form) kids) ≡ true → (any_footnote inner ≡ true → HasLabel kids)
      → any_footnote (block_of names bytes top name text kids inner) ≡ true → HasLabel kids
  block_called top text kids inner around form n.BlockQuote e held h = held (alone (footnotes inner) (alone (footnotes inner ++ []) h))
  block_called top text kids inner around form n.ListItem e held h = held (alone (footnotes inner) (alone (footnotes inner ++ []) h))
  block_called top text kids inner around form n.ListUnordered e held h = held (alone (footnotes inner) h)
  block_called top text kids inner around form n.ListOrdered e held h = held (alone (footnotes inner) h)
  block_called top text kids inner around form n.GfmFootnoteDefinition e held h =
      let label = footnote_label names bytes kids in
      elim (or_cases (any_label test (footnotes inner)) (any_label test (label ∷ []))
      (sym (any_both test (footnotes inner) (label ∷ [])) ∙ alone (footnotes inner ++ label ∷ []) h)) [
        | inl in_it ↦ held in_it
        | inr own ↦ own_label around form kids e (or_false (test (normal_label label)) own)
      ]
  block_called top text kids inner around form name e held h = absurd (true≢false (sym h))

  mutual
    pub kids_called : (around : Between) (slots : List Slot) (top : Bool) (ns : Nodes) → ends (left_by around slots ns) ≡ true
        → any_footnote (blocks_of names bytes top ns) ≡ true → HasLabel ns
    kids_called around slots top Nil e h = absurd (true≢false (sym h))
    kids_called around slots top (Cons (Around enter kids exit) ns) e h =
        let parts = parts_filled around slots (Around enter kids exit) ns e in
        let inner = blocks_from names bytes (start_of enter.name) kids in
        let own = block_of names bytes top enter.name (text_of bytes (Around enter kids exit)) kids inner in
        elim (or_cases (any_footnote own) (any_footnote (blocks_of names bytes top ns)) (either own (blocks_of names bytes top ns) h)) [
          | inl here ↦
              in_first bytes test n.GfmFootnoteDefinitionLabelString (Around enter kids exit) ns
              (in_node bytes test n.GfmFootnoteDefinitionLabelString (Around enter kids exit)
              (block_called top (text_of bytes (Around enter kids exit)) kids inner around parts.form enter.name parts.filled
              (λ some. from_called (between_of (row enter.name parts.form) around enter.name) (row enter.name parts.form) (start_of enter.name) kids parts.filled some)
              here))
          | inr later ↦
              in_others bytes test n.GfmFootnoteDefinitionLabelString (Around enter kids exit) ns
              (kids_called around (rest_after (take_child slots enter.name) slots) top ns parts.left later)
        ]

    from_called : (around : Between) (slots : List Slot) (start : Name) (ns : Nodes) → ends (left_by around slots ns) ≡ true
        → any_footnote (blocks_from names bytes start ns) ≡ true → HasLabel ns
    from_called around slots start Nil e h = absurd (true≢false (sym h))
    from_called around slots start (Cons (Around enter kids exit) ns) e h =
        let parts = parts_filled around slots (Around enter kids exit) ns e in
        let inner = blocks_from names bytes (start_of enter.name) kids in
        let own = block_of names bytes false enter.name (text_of bytes (Around enter kids exit)) kids inner in
        let others = blocks_of names bytes false ns in
        elim (cases_Bool (same_name enter.name start)) [
          | inl same ↦
              elim (or_cases (any_footnote own) (any_footnote others)
              (either own others (ap any_footnote (sym (cond-true (same_name enter.name start) (join own others) (blocks_from names bytes start ns) same)) ∙ h))) [
                | inl here ↦
                    in_first bytes test n.GfmFootnoteDefinitionLabelString (Around enter kids exit) ns
                    (in_node bytes test n.GfmFootnoteDefinitionLabelString (Around enter kids exit)
                    (block_called false (text_of bytes (Around enter kids exit)) kids inner around parts.form enter.name parts.filled
                    (λ some. from_called (between_of (row enter.name parts.form) around enter.name) (row enter.name parts.form) (start_of enter.name) kids parts.filled some)
                    here))
                | inr later ↦
                    in_others bytes test n.GfmFootnoteDefinitionLabelString (Around enter kids exit) ns
                    (kids_called around (rest_after (take_child slots enter.name) slots) false ns parts.left later)
              ]
          | inr other ↦
              in_others bytes test n.GfmFootnoteDefinitionLabelString (Around enter kids exit) ns
              (from_called around (rest_after (take_child slots enter.name) slots) start ns parts.left
              (ap any_footnote (sym (cond-false (same_name enter.name start) (join own others) (blocks_from names bytes start ns) other)) ∙ h))
        ]
