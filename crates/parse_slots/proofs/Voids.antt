-- Events that hold no other, and data, in a row.
use Rattle.std.proofs.Common.{◌≡◌, ◌<◌, ℕ, Bool, true, false, ◌&&◌, List, ◌∷◌, None, Some, inl, inr, refl, sym, ap, ◌∙◌, subst, arith}
use Rattle.std.proofs.lemmas.Bool.{cases_Bool, cond-false, cond-true}
use Rattle.std.proofs.lemmas.Bool.Decides.{nat_tests}
use Rattle.std.specs.Prelude.{◌==◌}
use Rattle.engine_events.specs.Names.{same_name}
use Rattle.engine_events.specs.declared.event.Name.{Name}
use Rattle.engine_events.specs.declared.event.Name.TheVariants as n
use Rattle.event_grammar.specs.declared.slot.Between.{Between}
use Rattle.event_grammar.specs.declared.slot.Child.{Child}
use Rattle.event_grammar.specs.declared.slot.Form.{Form}
use Rattle.event_grammar.specs.declared.slot.Form.TheVariants.{Plain}
use Rattle.event_grammar.specs.declared.slot.Slot.{Slot}
use Rattle.event_grammar.specs.declared.slot.Slot.TheVariants.{Many}
use Rattle.event_grammar.specs.Grammar.{row}
use Rattle.event_grammar.specs.Slots.{has, may_end, stands_between, take_child}
use Rattle.event_grammar.specs.Trees.{Node, Nodes, Around, Nil}
use Rattle.parse_output.specs.declared.end.End.{End}
use Rattle.parse_output.specs.Ends.{enter_at, exit_at, same_end}
use Rattle.parse_output.specs.Forest.{data_nodes, one, void_nodes}
use Rattle.parse_slots.specs.Left.{Fill, took}
use Rattle.parse_slots.proofs.Steps.{fill_between, fill_bytes, fill_none, fill_taken, filled_void}

-- what holds no other, from an end to another
abbrev pub void_node : List ℕ → Name → End → End → Node
void_node text name from to = Around (enter_at text name from) Nil (exit_at text name to)

-- there is one where the second end is another
void_other : (text : List ℕ) (name : Name) (from to : End) → same_end to from ≡ false → same_name name n.Data ≡ false
    → void_nodes text name from to ≡ one (void_node text name from to)
void_other text name from to apart other =
    cond-false (same_end to from) _ _ apart ∙ cond-false (same_name name n.Data && true) _ _ (ap (λ (b : Bool). b && true) other)

-- an end further on is another
pub further_apart : (from to : End) → from.index < to.index → same_end to from ≡ false
further_apart from to further =
    let apart : (to.index == from.index) ≡ false = grind (arith, nat_tests, further) in ap (λ (b : Bool). b && (to.owed == from.owed)) apart

pub void_is : (text : List ℕ) (name : Name) (from to : End) → from.index < to.index → same_name name n.Data ≡ false
    → void_nodes text name from to ≡ one (void_node text name from to)
void_is text name from to further other = void_other text name from to (further_apart from to further) other

-- a row takes it
pub void_taken : (around : Between) (slots : List Slot) (name : Name) (form : Form) (rest : List Slot) (text : List ℕ) (from to : End)
    → same_end to from ≡ false → same_name name n.Data ≡ false → take_child slots name ≡ Some (took form rest) → may_end (row name form) ≡ true
    → Fill around slots (void_nodes text name from to) rest
void_taken around slots name form rest text from to apart other takes may =
    subst (λ (ns : Nodes). Fill around slots ns rest) (sym (void_other text name from to apart other))
    (fill_taken around slots name form rest (void_node text name from to) refl takes (filled_void around form name (void_node text name from to) refl refl may))

-- nothing is written, or one that leaves the row as it is
void_or_none : (around : Between) (slots : List Slot) (name : Name) (text : List ℕ) (from to : End) → same_name name n.Data ≡ false
    → Fill around slots (one (void_node text name from to)) slots → Fill around slots (void_nodes text name from to) slots
void_or_none around slots name text from to other fill =
    elim (cases_Bool (same_end to from)) [
      | inl same ↦ subst (λ (ns : Nodes). Fill around slots ns slots) (sym (cond-true (same_end to from) _ _ same)) (fill_none around slots)
      | inr apart ↦ subst (λ (ns : Nodes). Fill around slots ns slots) (sym (void_other text name from to apart other)) fill
    ]

-- it stands between children
pub void_between : (around : Between) (slots : List Slot) (name : Name) (text : List ℕ) (from to : End) → same_name name n.Data ≡ false
    → take_child slots name ≡ None → stands_between around name ≡ true → may_end (row name Plain) ≡ true → Fill around slots (void_nodes text name from to) slots
void_between around slots name text from to other takes between may =
    void_or_none around slots name text from to other
    (fill_between around slots name (void_node text name from to) refl takes between (filled_void around Plain name (void_node text name from to) refl refl may))

-- any number of its name may stand there
pub void_again : (around : Between) (slots : List Slot) (name : Name) (form : Form) (text : List ℕ) (from to : End) → same_name name n.Data ≡ false
    → take_child slots name ≡ Some (took form slots) → may_end (row name form) ≡ true → Fill around slots (void_nodes text name from to) slots
void_again around slots name form text from to other takes may =
    void_or_none around slots name text from to other
    (fill_taken around slots name form slots (void_node text name from to) refl takes (filled_void around form name (void_node text name from to) refl refl may))

-- data where any number of children of a kind may stand, and data is one
pub data_fill : (around : Between) (child : Child) (slots : List Slot) (text : List ℕ) (from to : End) → has child n.Data ≡ true
    → Fill around (Many child ∷ slots) (data_nodes text from to) (Many child ∷ slots)
data_fill around child slots text from to may = fill_bytes around child slots _ _ may

pub void_data : (around : Between) (child : Child) (slots : List Slot) (text : List ℕ) (from to : End) → has child n.Data ≡ true
    → Fill around (Many child ∷ slots) (void_nodes text n.Data from to) (Many child ∷ slots)
void_data around child slots text from to may =
    elim (cases_Bool (same_end to from)) [
      | inl same ↦
          subst (λ (ns : Nodes). Fill around (Many child ∷ slots) ns (Many child ∷ slots)) (sym (cond-true (same_end to from) _ _ same))
          (fill_none around (Many child ∷ slots))
      | inr apart ↦
          subst (λ (ns : Nodes). Fill around (Many child ∷ slots) ns (Many child ∷ slots)) (sym (cond-false (same_end to from) _ _ apart))
          (data_fill around child slots text from to may)
    ]
