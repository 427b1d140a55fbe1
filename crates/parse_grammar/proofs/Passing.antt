-- What the rows of the grammar may take, computed of every name.
use Rattle.std.proofs.Common.{◌≡◌, Bool, true, ◌&&◌, ◌||◌, List, [], ◌∷◌, None, Some, refl}
use Rattle.std.proofs.lemmas.Bool.{and_parts}
use Rattle.std.specs.List.{list_all}
use Rattle.std.specs.Prelude.{not}
use Rattle.engine_events.specs.Names.{same_name, is_listed}
use Rattle.engine_events.specs.declared.event.Name.{Name}
use Rattle.engine_events.specs.declared.event.Name.TheVariants as n
use Rattle.event_grammar.proofs.EveryName.{of_each_form}
use Rattle.event_grammar.specs.declared.slot.Child.{Child}
use Rattle.event_grammar.specs.declared.slot.Form.{Form}
use Rattle.event_grammar.specs.declared.slot.Slot.{Slot}
use Rattle.event_grammar.specs.declared.slot.Slot.TheVariants.{One, Opt, Lead, Many}
use Rattle.event_grammar.specs.Facts.{is_opening}
use Rattle.event_grammar.specs.Grammar.{mdx_names, row}
use Rattle.event_grammar.specs.Slots.{Taken, has, take_child, taken}
use Rattle.parse_references.proofs.Rows.{child_of, no_take, one_passes, passes, took_or}

-- all that may stand at the places of a row passes a test, by its form and its name
module _ (test : Form → Name → Bool) where
  abbrev pub row_passes : List Slot → Bool
  row_passes slots = list_all (λ slot. passes test (child_of slot)) slots

  -- so does a child that the row takes, and what is left
  module _ (name : Name) where
    abbrev pub PassesAfter : Taken → Type 0
    PassesAfter t = (test t.form name ≡ true) × (row_passes t.rest ≡ true)

    here_passes : (child : Child) (slots : List Slot) → passes test child ≡ true → row_passes slots ≡ true → has child name ≡ true
        → PassesAfter (taken child slots)
    here_passes child slots one others is = (one_passes test child name one is, others)

    pub taken_passes : (slots : List Slot) → row_passes slots ≡ true → (t : Taken) → take_child slots name ≡ Some t → PassesAfter t
    taken_passes [] all t is = no_take PassesAfter t is
    taken_passes (One child ∷ slots) all t is =
        let parts = and_parts (passes test child) (row_passes slots) all in
        took_or PassesAfter (has child name) (taken child slots) None (here_passes child slots parts.0 parts.1) (no_take PassesAfter) t is
    taken_passes (Opt child ∷ slots) all t is =
        let parts = and_parts (passes test child) (row_passes slots) all in
        took_or PassesAfter (has child name) (taken child slots) (take_child slots name) (here_passes child slots parts.0 parts.1)
        (taken_passes slots parts.1) t is
    taken_passes (Many child ∷ slots) all t is =
        let parts = and_parts (passes test child) (row_passes slots) all in
        took_or PassesAfter (has child name) (taken child (Many child ∷ slots)) (take_child slots name) (here_passes child (Many child ∷ slots) parts.0 all)
        (taken_passes slots parts.1) t is
    taken_passes (Lead child ∷ []) all t is =
        let parts = and_parts (passes test child) true all in
        took_or PassesAfter (has child name) (taken child []) None (here_passes child [] parts.0 refl) (no_take PassesAfter) t is
    taken_passes (Lead child ∷ slot ∷ slots) all t is =
        let parts = and_parts (passes test child) (row_passes (slot ∷ slots)) all in
        let more = and_parts (passes test (child_of slot)) (row_passes slots) parts.1 in
        took_or PassesAfter (has child name) (taken child (slot ∷ slots)) (take_child slots name) (here_passes child (slot ∷ slots) parts.0 parts.1)
        (taken_passes slots more.1) t is

-- ---- no name of MDX

abbrev pub is_known : Form → Name → Bool
is_known form name = not (is_listed mdx_names name)

pub rows_known : (name : Name) (form : Form) → row_passes is_known (row name form) ≡ true
rows_known = of_each_form (λ name form. row_passes is_known (row name form)) refl

-- ---- values of references and first sequences of headings, which stand in two events alone

abbrev pub is_plain : Form → Name → Bool
is_plain form name = not (same_name name n.CharacterReferenceValue) && not (same_name name n.HeadingAtxSequence && is_opening form)

abbrev pub asking_names : List Name
asking_names = n.CharacterReference ∷ n.HeadingAtx ∷ []

pub rows_plain : (name : Name) (form : Form) → (is_listed asking_names name || row_passes is_plain (row name form)) ≡ true
rows_plain = of_each_form (λ name form. is_listed asking_names name || row_passes is_plain (row name form)) refl
