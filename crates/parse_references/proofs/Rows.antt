-- What may stand at the places of a row, by computed tests of its names.
use Rattle.std.proofs.Common.{inl, inr, ◌≡◌, ℕ, zero, suc, Bool, true, false, ◌&&◌, ◌||◌, if◌then◌else◌, List, [], ◌∷◌, Option, None, Some, refl, sym, ap, subst, ◌∙◌}
use Rattle.std.proofs.lemmas.Bool.{and_parts, cases_Bool, or_cases, or_left, true≢false}
use Rattle.std.specs.Prelude.{not}
use Rattle.std.specs.List.{list_all}
use denote.Enum.Bare.{same_true}
use Rattle.engine_events.specs.contracts.event.Name.{the_type}
use Rattle.engine_events.specs.Names.{same_name, is_listed}
use Rattle.engine_events.specs.declared.event.Name.{Name}
use Rattle.event_grammar.specs.declared.slot.Between.{Between}
use Rattle.event_grammar.specs.declared.slot.Between.TheVariants.{Nothing, Spaces, Lines}
use Rattle.event_grammar.specs.declared.slot.Child.{Child}
use Rattle.event_grammar.specs.declared.slot.Child.TheVariants.{Only, As, Either, Block, StringPart, TextPart}
use Rattle.event_grammar.specs.declared.slot.Form.{Form}
use Rattle.event_grammar.specs.declared.slot.Slot.{Slot}
use Rattle.event_grammar.specs.declared.slot.Slot.TheVariants.{One, Opt, Lead, Many}
use Rattle.event_grammar.specs.Grammar.{block_names, line_names, row, space_names, string_names, text_names}
use Rattle.event_grammar.specs.References.{media_names}
use Rattle.event_grammar.specs.Slots.{Taken, form_of, has, take_child, taken, stands_between}

-- ---- names

-- what all names of a list pass, one of them passes
pub all_pass : (test : Name → Bool) (names : List Name) (name : Name) → list_all test names ≡ true → is_listed names name ≡ true → test name ≡ true
all_pass test [] name all listed = absurd (true≢false (sym listed))
all_pass test (first ∷ others) name all listed =
    let parts = and_parts (test first) (list_all test others) all in
    elim (cases_Bool (same_name first name)) [
      | inl same ↦ subst (λ a. test a ≡ true) (same_true the_type tt first name same) parts.0
      | inr other ↦ all_pass test others name parts.1 (ap (λ t. t || is_listed others name) (sym other) ∙ listed)
    ]

-- the names of what may stand at a place
abbrev pub names_of : Child → List Name
names_of (Only a) = a ∷ []
names_of (As a form) = a ∷ []
names_of (Either a b) = a ∷ b ∷ []
names_of Block = block_names
names_of StringPart = string_names
names_of TextPart = text_names

or_none : (b : Bool) → b ≡ true → (b || false) ≡ true
or_none b is = or_left b false is

or_two : (a b : Bool) → (a || b) ≡ true → (a || (b || false)) ≡ true
or_two true b is = refl
or_two false b is = or_none b is

pub has_named : (child : Child) (name : Name) → has child name ≡ true → is_listed (names_of child) name ≡ true
has_named (Only a) name is = or_none (same_name a name) is
has_named (As a form) name is = or_none (same_name a name) is
has_named (Either a b) name is = or_two (same_name a name) (same_name b name) is
has_named Block name is = is
has_named StringPart name is = is
has_named TextPart name is = is

-- whether all that may stand at a place passes a test, by its form and its name
abbrev pub passes : (Form → Name → Bool) → Child → Bool
passes test child = list_all (test (form_of child)) (names_of child)

pub one_passes : (test : Form → Name → Bool) (child : Child) (name : Name) → passes test child ≡ true → has child name ≡ true
    → test (form_of child) name ≡ true
one_passes test child name all is = all_pass (test (form_of child)) (names_of child) name all (has_named child name is)

abbrev pub child_of : Slot → Child
child_of (One child) = child
child_of (Opt child) = child
child_of (Lead child) = child
child_of (Many child) = child

-- ---- what is taken

same_taken : (x y : Taken) → Some x ≡ Some y → x ≡ y
same_taken x y h = cc

pub took_or : (P : Taken → Type 0) (b : Bool) (x : Taken) (o : Option Taken) → (b ≡ true → P x) → ((t : Taken) → o ≡ Some t → P t) → (t : Taken)
    → (if b then Some x else o) ≡ Some t → P t
took_or P true x o here later t is = subst P (same_taken x t is) (here refl)
took_or P false x o here later t is = later t is

pub no_take : (P : Taken → Type 0) (t : Taken) → None ≡ Some t → P t
no_take P t is = absurd (let k : None ≡ Some t = is in cc)

-- ---- what is without names

-- None of these names is that of an event of a name, or of one in it: this deep are its rows.
abbrev pub is_without : List Name → ℕ → Form → Name → Bool
is_without off zero form name = false
is_without off (suc k) form name =
    not (is_listed off name) && list_all (λ slot. list_all (is_without off k (form_of (child_of slot))) (names_of (child_of slot))) (row name form)

abbrev pub row_without : List Name → ℕ → List Slot → Bool
row_without off k slots = list_all (λ slot. passes (is_without off k) (child_of slot)) slots

-- An event of a name has no link, image or call in it, nor is it one.
abbrev pub is_bare : ℕ → Form → Name → Bool
is_bare = is_without media_names

abbrev pub row_bare : ℕ → List Slot → Bool
row_bare = row_without media_names

-- a child that such a row takes is without them, and so is what is left
module _ (off : List Name) (k : ℕ) (name : Name) where
  abbrev WithoutAfter : Taken → Type 0
  WithoutAfter t = (is_without off k t.form name ≡ true) × (row_without off k t.rest ≡ true)

  here_without : (child : Child) (slots : List Slot) → passes (is_without off k) child ≡ true → row_without off k slots ≡ true → has child name ≡ true
      → WithoutAfter (taken child slots)
  here_without child slots one others is = (one_passes (is_without off k) child name one is, others)

  pub taken_without : (slots : List Slot) → row_without off k slots ≡ true → (t : Taken) → take_child slots name ≡ Some t → WithoutAfter t
  taken_without [] all t is = no_take WithoutAfter t is
  taken_without (One child ∷ slots) all t is =
      let parts = and_parts (passes (is_without off k) child) (row_without off k slots) all in
      took_or WithoutAfter (has child name) (taken child slots) None (here_without child slots parts.0 parts.1) (no_take WithoutAfter) t is
  taken_without (Opt child ∷ slots) all t is =
      let parts = and_parts (passes (is_without off k) child) (row_without off k slots) all in
      took_or WithoutAfter (has child name) (taken child slots) (take_child slots name) (here_without child slots parts.0 parts.1)
      (taken_without slots parts.1) t is
  taken_without (Many child ∷ slots) all t is =
      let parts = and_parts (passes (is_without off k) child) (row_without off k slots) all in
      took_or WithoutAfter (has child name) (taken child (Many child ∷ slots)) (take_child slots name)
      (here_without child (Many child ∷ slots) parts.0 all) (taken_without slots parts.1) t is
  taken_without (Lead child ∷ []) all t is =
      let parts = and_parts (passes (is_without off k) child) true all in
      took_or WithoutAfter (has child name) (taken child []) None (here_without child [] parts.0 refl) (no_take WithoutAfter) t is
  taken_without (Lead child ∷ slot ∷ slots) all t is =
      let parts = and_parts (passes (is_without off k) child) (row_without off k (slot ∷ slots)) all in
      let more = and_parts (passes (is_without off k) (child_of slot)) (row_without off k slots) parts.1 in
      took_or WithoutAfter (has child name) (taken child (slot ∷ slots)) (take_child slots name) (here_without child (slot ∷ slots) parts.0 parts.1)
      (taken_without slots more.1) t is

-- ---- what stands between

-- what stands between children passes what white space, endings and prefixes pass
pub between_passes : (test : Name → Bool) → list_all test space_names ≡ true → list_all test line_names ≡ true → (around : Between) (name : Name)
    → stands_between around name ≡ true → test name ≡ true
between_passes test spaces lines Nothing name is = absurd (true≢false (sym is))
between_passes test spaces lines Spaces name is = all_pass test space_names name spaces is
between_passes test spaces lines Lines name is = elim (or_cases (is_listed space_names name) (is_listed line_names name) is) [
  | inl white ↦ all_pass test space_names name spaces white
  | inr line ↦ all_pass test line_names name lines line
]

-- ---- what rows hold that are filled

pub if_ends : (P : Type 0) (t : Bool) (o : Option (List Slot)) (ends : Option (List Slot) → Bool) → ends None ≡ false
    → (t ≡ true → ends o ≡ true → P) → ends (if t then o else None) ≡ true → P
if_ends P true o ends none both h = both refl h
if_ends P false o ends none both h = absurd (true≢false (sym h ∙ none))
