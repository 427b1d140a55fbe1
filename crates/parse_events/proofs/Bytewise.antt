-- Nodes that are placed, and held where they may be, spell the same page with their data cut into bytes.
use Rattle.std.proofs.Common.{◌≡◌, ℕ, Bool, true, false, ◌||◌, List, [], ◌∷◌, refl, sym, subst, ◌∙◌}
use Rattle.std.proofs.lemmas.Bool.{true≢false}
use Rattle.std.proofs.lemmas.List.{append-nil}
use denote.Enum.Bare.{same_true}
use Rattle.engine_events.specs.Names.{is_listed, same_name}
use Rattle.engine_events.specs.contracts.event.Name.{the_type}
use Rattle.engine_events.specs.declared.event.Name.{Name}
use Rattle.engine_events.specs.declared.event.Name.TheVariants as n
use Rattle.definition_inline.specs.CharacterReference.{Names}
use Rattle.event_grammar.specs.InGrammar.{PlacesFit}
use Rattle.event_grammar.specs.Points.{spot}
use Rattle.event_grammar.specs.Trees.{AreNodes, Around, Cons, Nil, Nodes, events_of}
use Rattle.event_meaning.specs.Spelled.{page_of}
use Rattle.parse_open.proofs.BytewiseBlocks.{page_same}
use Rattle.parse_open.specs.BytewiseSound.{AreSound, HaveNoData, fenced_names}
use Rattle.parse_output.specs.Children.{HaveChildren, may_enter, may_hold}
use Rattle.parse_output.specs.Forest.{bytewise}
use Rattle.parse_output.specs.Open.{Entered, Mark}
use Rattle.parse_open.proofs.FilledBytes.{AreHeld, all_held}
use Rattle.parse_open.proofs.Ordered.{AreOrdered, fit_over}

-- ---- names

-- no data is where none may be entered
no_data : (marks : List Mark) (ns : Nodes) → may_enter marks n.Data ≡ false → AreHeld marks ns → HaveNoData ns
no_data marks Nil never held = tt
no_data marks (Cons (Around enter kids exit) ns) never held =
    (λ is. true≢false (sym (subst (λ (a : Name). may_enter marks a ≡ true) is held.0.0) ∙ never), no_data marks ns never held.1)

outside_never : may_enter [] n.Data ≡ false
unfolding may_enter
outside_never = refl

-- nothing is in data
none_in : (marks : List Mark) (kids : Nodes) → AreHeld (Entered n.Data ∷ marks) kids → kids ≡ Nil
unfolding may_enter may_hold
none_in marks Nil held = refl
none_in marks (Cons (Around enter kids exit) ns) held = absurd (true≢false (sym held.0.0))

-- fenced code holds no data
fenced_by : (marks : List Mark) (name : Name) (c m : Bool) → same_name n.CodeFenced name ≡ c → same_name n.MathFlow name ≡ m → (c || (m || false)) ≡ true
    → may_enter (Entered name ∷ marks) n.Data ≡ false
unfolding may_enter may_hold
fenced_by marks name true m p q h =
    subst (λ (a : Name). may_enter (Entered a ∷ marks) n.Data ≡ false) (same_true the_type tt n.CodeFenced name p) refl
fenced_by marks name false true p q h =
    subst (λ (a : Name). may_enter (Entered a ∷ marks) n.Data ≡ false) (same_true the_type tt n.MathFlow name q) refl
fenced_by marks name false false p q h = absurd (true≢false (sym h))

fenced_never : (marks : List Mark) (name : Name) → is_listed fenced_names name ≡ true → may_enter (Entered name ∷ marks) n.Data ≡ false
fenced_never marks name listed = fenced_by marks name (same_name n.CodeFenced name) (same_name n.MathFlow name) refl refl listed

-- ---- both

are_sound : (marks : List Mark) (ns : Nodes) → AreHeld marks ns → AreOrdered ns → AreSound ns
are_sound marks Nil held ordered = tt
are_sound marks (Cons (Around enter kids exit) ns) held ordered = (
  (
    (
      λ is. none_in marks kids (subst (λ (a : Name). AreHeld (Entered a ∷ marks) kids) is held.0.1),
      ordered.0.0,
      λ listed. no_data (Entered enter.name ∷ marks) kids (fenced_never marks enter.name listed) held.0.1,
    ),
    are_sound (Entered enter.name ∷ marks) kids held.0.1 ordered.0.1,
  ),
  are_sound marks ns held.1 ordered.1,
)

pub spells_the_same : (names : Names) (text : List ℕ) (ns : Nodes) → AreNodes ns → HaveChildren (events_of ns) → PlacesFit text (spot 0 0) (events_of ns)
    → page_of names text (bytewise ns) ≡ page_of names text ns
spells_the_same names text ns named children places =
    let held = all_held ns named children in
    let fit = fit_over text ns (spot 0 0) [] (subst (PlacesFit text (spot 0 0)) (sym (append-nil (events_of ns))) places) in
    page_same names text ns (no_data [] ns outside_never held) (are_sound [] ns held fit.ordered)
