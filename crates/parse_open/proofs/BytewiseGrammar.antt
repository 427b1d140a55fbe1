-- Nodes in the grammar are sound.
use Rattle.std.proofs.Common.{◌≡◌, ℕ, Bool, true, false, ◌||◌, if◌then◌else◌, List, [], ◌∷◌, ◌++◌, Option, None, Some, refl, sym, ap, subst, ◌∙◌}
use Rattle.std.proofs.lemmas.Bool.{or_parts}
use Rattle.std.proofs.lemmas.List.{append-nil}
use denote.Enum.Bare.{same_true}
use Rattle.parse_open.proofs.Prelude.{AreSound, Child, Event, has, HaveNoData, IsSound, Name, Nil, Node, Nodes, same_name}
use Rattle.parse_open.proofs.Prelude.{spot, the_type, tree}
use Rattle.parse_open.proofs.Ordered.{AreOrdered, fit_over, IsOrdered}
use Rattle.engine_events.specs.declared.event.Name.TheVariants as n
use Rattle.event_check.proofs.Joined.{fits_then, then_fits}
use Rattle.event_check.proofs.Matching.{matches_in}
use Rattle.event_grammar.specs.declared.slot.Between.{Between}
use Rattle.event_grammar.specs.declared.slot.Between.TheVariants.{Nothing, Spaces, Lines}
use Rattle.event_grammar.specs.declared.slot.Form.{Form}
use Rattle.event_grammar.specs.declared.slot.Slot.{Slot}
use Rattle.event_grammar.specs.declared.slot.Slot.TheVariants.{One, Opt, Lead, Many}
use Rattle.event_grammar.specs.Grammar.{row, document_row}
use Rattle.event_grammar.specs.InGrammar.{Within, inside, Before, before, node_name, NodeFits, fits, KidsFit, end, takes, between, PlacesFit}
use Rattle.event_grammar.specs.Slots.{Taken, taken, take_child, stands_between}
use Rattle.event_grammar.specs.Trees.{events_of}
use Rattle.parse_output.specs.Children.{has_place}
use Rattle.parse_open.specs.BytewiseLaws.{GrammarIsSound}

-- ---- places for data

none_some : (A : Type 0) (t : Taken) → (let o : Option Taken = None in o ≡ Some t) → A
none_some A t h = absurd (cc)

some_is : (s t : Taken) → Some s ≡ Some t → s ≡ t
some_is s t h = cc

-- a row without a place for data takes none, and then it has none either
pub record TakesOther (name : Name) (t : Taken) : Type 0 where
  pub other : name ≡ n.Data → ⊥
  pub rest : has_place t.rest n.Data ≡ false

abbrev Lacks : List Slot → Type 0
Lacks slots = has_place slots n.Data ≡ false

not_there : (c : Child) (name : Name) → has c n.Data ≡ false → has c name ≡ true → name ≡ n.Data → ⊥
not_there c name h k is = let no : true ≡ false = sym k ∙ ap (has c) is ∙ h in absurd (cc)

taken_by : (c : Child) (name : Name) (b : Bool) (rest : List Slot) (others : Option Taken) (t : Taken) → has c name ≡ b → has c n.Data ≡ false → Lacks rest
    → (others ≡ Some t → TakesOther name t) → (if b then Some (taken c rest) else others) ≡ Some t → TakesOther name t
taken_by c name true rest others t is h k later e =
    record { other = not_there c name h is; rest = subst (λ (z : Taken). Lacks z.rest) (some_is (taken c rest) t e) k }
taken_by c name false rest others t is h k later e = later e

takes_other : (slots : List Slot) (name : Name) (t : Taken) → Lacks slots → take_child slots name ≡ Some t → TakesOther name t
takes_other [] name t h e = none_some _ t e
takes_other (One c ∷ slots) name t h e =
    let parts = or_parts (has c n.Data) (has_place slots n.Data) h in
    taken_by c name (has c name) slots None t refl parts.0 parts.1 (λ z. none_some _ t z) e
takes_other (Opt c ∷ slots) name t h e =
    let parts = or_parts (has c n.Data) (has_place slots n.Data) h in
    taken_by c name (has c name) slots (take_child slots name) t refl parts.0 parts.1 (takes_other slots name t parts.1) e
takes_other (Many c ∷ slots) name t h e =
    let parts = or_parts (has c n.Data) (has_place slots n.Data) h in
    taken_by c name (has c name) (Many c ∷ slots) (take_child slots name) t refl parts.0 h (takes_other slots name t parts.1) e
takes_other (Lead c ∷ []) name t h e =
    let parts = or_parts (has c n.Data) (has_place [] n.Data) h in
    taken_by c name (has c name) [] None t refl parts.0 refl (λ z. none_some _ t z) e
takes_other (Lead c ∷ slot ∷ slots) name t h e =
    let parts = or_parts (has c n.Data) (has_place (slot ∷ slots) n.Data) h in
    taken_by c name (has c name) (slot ∷ slots) (take_child slots name) t refl parts.0 parts.1
    (takes_other slots name t (or_parts _ (has_place slots n.Data) parts.1).1) e

-- data stands nowhere between
between_other : (around : Between) (name : Name) → stands_between around name ≡ true → name ≡ n.Data → ⊥
between_other around name h is = no around (subst (λ a. stands_between around a ≡ true) is h)
  where
    no : (around : Between) → stands_between around n.Data ≡ true → ⊥
    no Nothing h = let f : false ≡ true = h in absurd (cc)
    no Spaces h = let f : false ≡ true = h in absurd (cc)
    no Lines h = let f : false ≡ true = h in absurd (cc)

module _ (names : List ℕ → Option (List ℕ)) (bytes : List ℕ) where
  no_data : (x : Within) (b : Before) (slots : List Slot) (ns : Nodes) → Lacks slots → KidsFit names bytes x b slots ns → HaveNoData ns
  no_data x b slots ns h (end e) = tt
  no_data x b slots ns h (takes {node = node} {ns = others} {t = t} e f k) =
      let t = takes_other slots (node_name node) t h e in (t.other, no_data _ _ _ others t.rest k)
  no_data x b slots ns h (between {node = node} {ns = others} e s f k) = (between_other x.around (node_name node) s, no_data _ _ _ others h k)

  -- what has no row holds nothing
  nothing_in : (x : Within) (b : Before) (ns : Nodes) → x.around ≡ Nothing → KidsFit names bytes x b [] ns → ns ≡ Nil
  nothing_in x b ns h (end e) = refl
  nothing_in x b ns h (takes {t = t} e f k) = none_some _ t e
  nothing_in x b ns h (between {node = node} e s f k) =
      let no : false ≡ true = sym (ap (λ around. stands_between around (node_name node)) h) ∙ s in absurd (cc)

  -- ---- both

  no_kids : (x : Within) (form : Form) (enter : Event) (kids : Nodes)
      → KidsFit names bytes (inside x enter.name form) (before None 0) (row enter.name form) kids → enter.name ≡ n.Data → kids ≡ Nil
  no_kids x form enter kids w is =
      nothing_in (inside x n.Data form) (before None 0) kids refl (subst (λ a. KidsFit names bytes (inside x a form) (before None 0) (row a form) kids) is w)

  -- fenced code has no place for data
  row_lacks : (name : Name) (form : Form) (c m : Bool) → same_name n.CodeFenced name ≡ c → same_name n.MathFlow name ≡ m → (c || (m || false)) ≡ true
      → Lacks (row name form)
  row_lacks name form true m p q h = subst (λ a. Lacks (row a form)) (same_true the_type tt n.CodeFenced name p) refl
  row_lacks name form false true p q h = subst (λ a. Lacks (row a form)) (same_true the_type tt n.MathFlow name q) refl
  row_lacks name form false false p q h = absurd (let f : false ≡ true = h in cc)

  mutual
    node_sound : (x : Within) (form : Form) (b : Before) (node : Node) → NodeFits names bytes x form b node → IsOrdered node → IsSound node
    node_sound x form b node (fits {enter = enter} {exit = exit} {kids = kids} p q r s t u v w) o = (
      (
        no_kids x form enter kids w,
        o.0,
        λ listed. no_data _ _ _ kids (row_lacks enter.name form (same_name n.CodeFenced enter.name) (same_name n.MathFlow enter.name) refl refl listed) w,
      ),
      kids_sound _ _ _ kids w o.1,
    )

    kids_sound : (x : Within) (b : Before) (slots : List Slot) (ns : Nodes) → KidsFit names bytes x b slots ns → AreOrdered ns → AreSound ns
    kids_sound x b slots ns (end e) o = tt
    kids_sound x b slots ns (takes {node = node} {ns = others} e f k) o = (node_sound _ _ _ node f o.0, kids_sound _ _ _ others k o.1)
    kids_sound x b slots ns (between {node = node} {ns = others} e s f k) o = (node_sound _ _ _ node f o.0, kids_sound _ _ _ others k o.1)

pub grammar_is_sound : GrammarIsSound
grammar_is_sound = λ names bytes events h.
    let g = matches_in names bytes events h in
    let none = then_fits names bytes events g.nodes (record { nested = g.nested; fit = g.fit; places = g.places }) in
    let f = fits_then names bytes events none in
    let ns = tree events in
    let same : events ≡ events_of ns ++ [] = f.nested ∙ sym (append-nil (events_of ns)) in
    let fit = fit_over bytes ns (spot 0 0) [] (subst (PlacesFit bytes (spot 0 0)) same f.places) in
    (no_data names bytes _ _ document_row ns refl f.fit, kids_sound names bytes _ _ document_row ns f.fit fit.ordered)
