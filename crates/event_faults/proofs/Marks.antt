-- Events that decide which labels need a definition.
use Rattle.std.proofs.Common.{◌≡◌, ◌∙◌, ℕ, ◌+◌, Bool, true, false, ◌||◌, if◌then◌else◌, List, [], ◌∷◌, ◌++◌, refl, sym, ap, subst, append_assoc}
use denote.Enum.Bare.{same_true}
use Rattle.event_faults.proofs.Prelude.{Event, is_listed, is_void, marked_from, Name, same_name, the_type}
use Rattle.engine_events.specs.declared.event.Name.TheVariants as n
use Rattle.event_grammar.specs.Marked.{defines_label, is_marked, mark_of, tells_label}
use Rattle.event_grammar.specs.References.{media_names}

-- what is so of the marked names is so of each
three : (a b c : Bool) (A : Type 0) → (a || (b || c)) ≡ true → (a ≡ true → A) → (b ≡ true → A) → (c ≡ true → A) → A
three true b c A h i j k = i refl
three false true c A h i j k = j refl
three false false true A h i j k = k refl
three false false false A h i j k = absurd (let z : false ≡ true = h in cc)

two : (a b : Bool) (A : Type 0) → (a || b) ≡ true → (a ≡ true → A) → (b ≡ true → A) → A
two true b A h i j = i refl
two false true A h i j = j refl
two false false A h i j = absurd (let z : false ≡ true = h in cc)

no_void_of : (name other : Name) → is_void other ≡ false → same_name name other ≡ true → is_void name ≡ false
no_void_of name other v k = subst (λ z. is_void z ≡ false) (sym (same_true the_type tt name other k)) v

no_void_by : (name other : Name) → is_void other ≡ false → same_name other name ≡ true → is_void name ≡ false
no_void_by name other v k = subst (λ z. is_void z ≡ false) (same_true the_type tt other name k) v

none_false : (A : Type 0) → false ≡ true → A
none_false A h = absurd (let z : false ≡ true = h in cc)

no_void : (name : Name) → is_marked name ≡ true → is_void name ≡ false
no_void name h =
    let goal = is_void name ≡ false in
    three (is_listed media_names name) (tells_label name) (defines_label name) goal h
    (λ k. three (same_name n.Link name) (same_name n.Image name) (same_name n.GfmFootnoteCall name || false) goal k
    (no_void_by name n.Link refl) (no_void_by name n.Image refl)
    (λ l. two (same_name n.GfmFootnoteCall name) false goal l (no_void_by name n.GfmFootnoteCall refl) (none_false goal)))
    (λ k. three (same_name name n.Resource) (same_name name n.ReferenceString) (same_name name n.LabelText) goal k
    (no_void_of name n.Resource refl) (no_void_of name n.ReferenceString refl) (no_void_of name n.LabelText refl))
    (λ k. two (same_name name n.DefinitionLabelString) (same_name name n.GfmFootnoteDefinitionLabelString) goal k
    (no_void_of name n.DefinitionLabelString refl) (no_void_of name n.GfmFootnoteDefinitionLabelString refl))

not_by : (b v : Bool) → (b ≡ true → v ≡ false) → v ≡ true → b ≡ false
not_by false v h k = refl
not_by true true h k = absurd (let f : true ≡ false = h refl in cc)
not_by true false h k = absurd (let f : false ≡ true = k in cc)

-- an event that holds no other isn't marked
pub void_unmarked : (name : Name) → is_void name ≡ true → is_marked name ≡ false
void_unmarked name v = not_by (is_marked name) (is_void name) (no_void name) v

unmarked : (name : Name) (at : ℕ) → is_marked name ≡ false → mark_of name at ≡ []
unmarked name at h = ap (λ (b : Bool). if b then at ∷ [] else []) h

-- two of them are passed
pub marks_pass : (found all : List ℕ) (enter exit : Event) (es : List Event) (at next : ℕ) → is_void enter.name ≡ true → exit.name ≡ enter.name → next ≡ at + 2
    → at + 2 ≡ (at + 1) + 1 → found ++ marked_from at (enter ∷ exit ∷ es) ≡ all → found ++ marked_from next es ≡ all
marks_pass found all enter exit es at next v e k m h =
    ap (λ (z : ℕ). found ++ marked_from z es) (k ∙ m)
    ∙ (sym (ap (λ (z : List ℕ). found ++ (z ++ marked_from ((at + 1) + 1) es)) (ap (λ z. mark_of z (at + 1)) e ∙ unmarked enter.name (at + 1) (void_unmarked enter.name v)))
    ∙ (sym (ap (λ (z : List ℕ). found ++ (z ++ marked_from (at + 1) (exit ∷ es))) (unmarked enter.name at (void_unmarked enter.name v))) ∙ h))

-- one more event
pub marks_step : (found others all : List ℕ) (e : Event) (es : List Event) (at next : ℕ) → others ≡ found ++ mark_of e.name at → next ≡ at + 1
    → found ++ marked_from at (e ∷ es) ≡ all → others ++ marked_from next es ≡ all
marks_step found others all e es at next h k g =
    ap (λ (z : ℕ). others ++ marked_from z es) k
    ∙ (ap (λ (z : List ℕ). z ++ marked_from (at + 1) es) h
    ∙ (append_assoc found (mark_of e.name at) (marked_from (at + 1) es) ∙ g))
