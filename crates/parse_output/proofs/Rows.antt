-- What may hold others has a row of the grammar.
use Rattle.parse_output.proofs.Prelude.{and_parts, list_all, Name, true≢false}
use Rattle.std.proofs.Common.{◌≡◌, Bool, true, false, not, ◌||◌, List, [], ◌∷◌, ◌++◌, inl, inr, refl, sym, ap, ap₂, ◌∙◌}
use Rattle.std.proofs.lemmas.Bool.{cases_Bool}
use Rattle.std.specs.List.{list_any}
use Rattle.engine_events.specs.declared.event.Name.TheVariants as n
use Rattle.event_grammar.specs.declared.slot.Between.TheVariants.{Lines}
use Rattle.event_grammar.specs.declared.slot.Form.{Form}
use Rattle.event_grammar.specs.declared.slot.Form.TheVariants.{Plain, Ordered, OfImage, OfCall}
use Rattle.event_grammar.specs.declared.slot.Slot.{Slot}
use Rattle.event_grammar.specs.Slots.{between_of, stands_between}
use Rattle.event_grammar.specs.Grammar.{row, string_names, text_names}
use Rattle.event_grammar.specs.Void.{is_empty, is_void}
use Rattle.event_grammar.proofs.EveryName.{of_each, of_listed}
use Rattle.parse_output.proofs.Classes.{enters_in, string_in}
use Rattle.parse_output.proofs.Marks.{same_self}
use Rattle.parse_output.specs.Children.{between_names, forms, has_lines, has_place, has_string, has_text, may_hold}

-- a name without a row has none in any form
void_rows : (own : Name) → (not (is_void own) || list_all (λ form. is_empty (row own form)) forms) ≡ true
void_rows own = of_each (λ name. not (is_void name) || list_all (λ form. is_empty (row name form)) forms) refl own

no_place : (slots : List Slot) (name : Name) → is_empty slots ≡ true → has_place slots name ≡ false
no_place [] name none = refl
no_place (slot ∷ slots) name none = absurd (true≢false (sym none))

none_between : (slots : List Slot) (own name : Name) → is_empty slots ≡ true → stands_between (between_of slots Lines own) name ≡ false
none_between [] own name none = refl
none_between (slot ∷ slots) own name none = absurd (true≢false (sym none))

in_no_form : (test : Form → Bool) → test Plain ≡ false → test Ordered ≡ false → test OfImage ≡ false → test OfCall ≡ false → list_any test forms ≡ false
in_no_form test plain ordered image call =
    ap₂ (λ (s t : Bool). s || t) plain (ap₂ (λ (s t : Bool). s || t) ordered (ap₂ (λ (s t : Bool). s || t) image (ap (λ (s : Bool). s || false) call)))

-- it may hold nothing
void_holds : (own name : Name) → is_void own ≡ true → may_hold own name ≡ false
unfolding may_hold
void_holds own name void =
    let none : Form → Bool = λ form. is_empty (row own form) in
    let all : list_all none forms ≡ true = ap (λ (b : Bool). not b || list_all none forms) (sym void) ∙ void_rows own in
    let plain = and_parts (none Plain) (list_all none (Ordered ∷ OfImage ∷ OfCall ∷ [])) all in
    let ordered = and_parts (none Ordered) (list_all none (OfImage ∷ OfCall ∷ [])) plain.1 in
    let image = and_parts (none OfImage) (list_all none (OfCall ∷ [])) ordered.1 in
    let call = and_parts (none OfCall) true image.1 in
    ap₂ (λ (s t : Bool). s || t)
    (in_no_form (λ form. has_place (row own form) name)
    (no_place (row own Plain) name plain.0) (no_place (row own Ordered) name ordered.0)
    (no_place (row own OfImage) name image.0) (no_place (row own OfCall) name call.0))
    (none_between (row own Plain) own name plain.0)

-- what holds one of a name has a row
pub held_row : (own name : Name) → may_hold own name ≡ true → is_void own ≡ false
held_row own name holds =
    elim (cases_Bool (is_void own)) [
      | inl void ↦ absurd (true≢false (sym holds ∙ void_holds own name void))
      | inr held ↦ held
    ]

-- what may have lines, a string or a text in it has one
pub lines_row : (own : Name) → has_lines own ≡ true → is_void own ≡ false
unfolding has_lines
lines_row own has = held_row own n.SpaceOrTab (of_listed (may_hold own) between_names n.SpaceOrTab has refl)

pub string_row : (own : Name) → has_string own ≡ true → is_void own ≡ false
unfolding has_string
string_row own has = held_row own n.SpaceOrTab (of_listed (may_hold own) (between_names ++ string_names) n.SpaceOrTab has refl)

pub text_row : (own : Name) → has_text own ≡ true → is_void own ≡ false
unfolding has_text
text_row own has = held_row own n.SpaceOrTab (of_listed (may_hold own) (between_names ++ text_names) n.SpaceOrTab has refl)

-- ---- what several functions look for

-- a part that holds a string
pub ruleset string_parts = (same_self, enters_in, string_in, held_row, string_row)
