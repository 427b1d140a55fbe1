-- Rows of events around a text: which child holds it, by computed tests of names.
use Rattle.std.proofs.Common.{inl, inr, ◌⊎◌, ◌≡◌, ℕ, Bool, true, ◌&&◌, ◌||◌, List, [], ◌∷◌, None, Some, refl, sym}
use Rattle.std.proofs.lemmas.Bool.{and_parts, or_cases, true≢false}
use Rattle.std.specs.Prelude.{not}
use Rattle.engine_events.specs.Names.{same_name, is_listed}
use Rattle.engine_events.specs.declared.event.Name.{Name}
use Rattle.engine_events.specs.declared.event.Name.TheVariants as n
use Rattle.event_grammar.specs.declared.slot.Child.{Child}
use Rattle.event_grammar.specs.declared.slot.Form.{Form}
use Rattle.event_grammar.specs.declared.slot.Slot.{Slot}
use Rattle.event_grammar.specs.declared.slot.Slot.TheVariants.{One, Opt, Lead, Many}
use Rattle.event_grammar.specs.Grammar.{row, text_row}
use Rattle.event_grammar.specs.Slots.{Taken, has, take_child, taken}
use Rattle.event_meaning.specs.Texts.{text_names}
use Rattle.parse_references.proofs.Rows.{is_without, no_take, one_passes, passes, row_without, took_or}

-- so deep are the rows of what is looked into
abbrev pub depth : ℕ
depth = 6

-- none of these names is that of a node that is dark, or of one in it
module _ (off : List Name) where
  -- nothing is looked for in an event of a name
  abbrev pub is_dark : Form → Name → Bool
  is_dark form name = is_without off depth form name && (not (is_listed text_names name) && not (same_name name n.Label))

  -- A text is held by one child of a row, and what is before and after it is without the names.
  module _ (holds : Form → Name → Bool) where
    abbrev pub spells_in : List Slot → Bool
    spells_in [] = true
    spells_in (One child ∷ slots) = (passes is_dark child && spells_in slots) || (passes holds child && row_without off depth slots)
    spells_in (Opt child ∷ slots) = ((passes is_dark child && spells_in slots) || (passes holds child && row_without off depth slots)) && spells_in slots
    spells_in (Many child ∷ slots) = passes is_dark child && spells_in slots
    spells_in (Lead child ∷ []) = passes is_dark child || passes holds child
    spells_in (Lead child ∷ slot ∷ slots) =
        ((passes is_dark child && spells_in (slot ∷ slots)) || (passes holds child && row_without off depth (slot ∷ slots))) && spells_in slots

    module _ (name : Name) where
      -- the child is dark, and what is left may hold the text, or it holds the text, and what is left is without the names
      abbrev pub HoldsAfter : Taken → Type 0
      HoldsAfter t = ((is_dark t.form name ≡ true) × (spells_in t.rest ≡ true)) ⊎ ((holds t.form name ≡ true) × (row_without off depth t.rest ≡ true))

      either : (child : Child) (slots : List Slot)
          → ((passes is_dark child && spells_in slots) || (passes holds child && row_without off depth slots)) ≡ true → has child name ≡ true
          → HoldsAfter (taken child slots)
      either child slots e is = elim (or_cases (passes is_dark child && spells_in slots) (passes holds child && row_without off depth slots) e) [
        | inl dark ↦
            let parts = and_parts (passes is_dark child) (spells_in slots) dark in inl (one_passes is_dark child name parts.0 is, parts.1)
        | inr held ↦
            let parts = and_parts (passes holds child) (row_without off depth slots) held in inr (one_passes holds child name parts.0 is, parts.1)
      ]

      last : (child : Child) → (passes is_dark child || passes holds child) ≡ true → has child name ≡ true → HoldsAfter (taken child [])
      last child e is = elim (or_cases (passes is_dark child) (passes holds child) e) [
        | inl dark ↦ inl (one_passes is_dark child name dark is, refl)
        | inr held ↦ inr (one_passes holds child name held is, refl)
      ]

      pub taken_in : (slots : List Slot) → spells_in slots ≡ true → (t : Taken) → take_child slots name ≡ Some t → HoldsAfter t
      taken_in [] e t is = no_take HoldsAfter t is
      taken_in (One child ∷ slots) e t is =
          took_or HoldsAfter (has child name) (taken child slots) None (either child slots e) (no_take HoldsAfter) t is
      taken_in (Opt child ∷ slots) e t is =
          let parts = and_parts ((passes is_dark child && spells_in slots) || (passes holds child && row_without off depth slots)) (spells_in slots) e in
          took_or HoldsAfter (has child name) (taken child slots) (take_child slots name) (either child slots parts.0) (taken_in slots parts.1) t is
      taken_in (Many child ∷ slots) e t is =
          let parts = and_parts (passes is_dark child) (spells_in slots) e in
          took_or HoldsAfter (has child name) (taken child (Many child ∷ slots)) (take_child slots name)
          (λ h. inl (one_passes is_dark child name parts.0 h, e)) (taken_in slots parts.1) t is
      taken_in (Lead child ∷ []) e t is =
          took_or HoldsAfter (has child name) (taken child []) None (last child e) (no_take HoldsAfter) t is
      taken_in (Lead child ∷ slot ∷ slots) e t is =
          let parts =
          and_parts ((passes is_dark child && spells_in (slot ∷ slots)) || (passes holds child && row_without off depth (slot ∷ slots))) (spells_in slots) e in
          took_or HoldsAfter (has child name) (taken child (slot ∷ slots)) (take_child slots name) (either child (slot ∷ slots) parts.0) (taken_in slots parts.1) t is

-- a text is held by itself, or in a label
abbrev pub is_text : Form → Name → Bool
is_text form name = is_listed text_names name

abbrev pub is_text_or_label : List Name → Form → Name → Bool
is_text_or_label off form name = is_listed text_names name || (same_name name n.Label && spells_in off is_text (row name form))

-- each of these has the row of a text, in every form
abbrev HasTextRow : Name → Type 0
HasTextRow name = (form : Form) → row name form ≡ text_row

pub text_rows : (name : Name) → is_listed text_names name ≡ true → HasTextRow name
text_rows n.EmphasisText listed form = refl
text_rows n.StrongText listed form = refl
text_rows n.GfmStrikethroughText listed form = refl
text_rows n.MarkText listed form = refl
text_rows n.LabelText listed form = refl
text_rows n.HeadingAtxText listed form = refl
text_rows n.HeadingSetextText listed form = refl
text_rows n.GfmTableCellText listed form = refl
text_rows name listed form = absurd (true≢false (sym listed))
