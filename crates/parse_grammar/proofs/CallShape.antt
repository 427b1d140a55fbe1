-- Calls of footnotes among the events of sound nodes hold only what strings may hold.
use Rattle.std.proofs.Common.{◌≡◌, ℕ, Bool, true, false, not, ◌&&◌, List, [], ◌∷◌, ◌++◌, inl, inr, refl, sym, ap, subst, ◌∙◌, append_assoc}
use Rattle.std.proofs.Math.Bool.{and-false}
use Rattle.std.proofs.lemmas.Bool.{and_from, cases_Bool, cond-false, cond-true, true≢false}
use Rattle.std.proofs.lemmas.List.{append-nil}
use denote.Enum.Bare.{same_true}
use Rattle.engine_events.specs.contracts.event.Name.{the_type}
use Rattle.markdown_options.specs.declared.configuration.Constructs.{Constructs}
use Rattle.engine_events.specs.Names.{is_listed, same_name}
use Rattle.engine_events.specs.declared.event.Event.{Event}
use Rattle.engine_events.specs.declared.event.Kind.{Kind}
use Rattle.engine_events.specs.declared.event.Kind.TheVariants.{Exit}
use Rattle.engine_events.specs.declared.event.Name.{Name}
use Rattle.engine_events.specs.declared.event.Name.TheVariants as n
use Rattle.definition_inline.specs.CharacterReference.{Names}
use Rattle.event_grammar.specs.Trees.{AreNodes, IsNode, Node, Nodes, Around, Nil, Cons, events_of, is_enter, node_events}
use Rattle.event_tokens.specs.Shape.{calls_hold, in_call, outside_strings}
use Rattle.parse_references.specs.Leads.{AreWithout, IsWithout}
use Rattle.parse_references.specs.Sound.{AreSound, IsSound}

-- whether an event is entered in a call that no string holds
abbrev is_outside : Bool → Event → Bool
is_outside inside event = inside && (is_enter event.kind && is_listed outside_strings event.name)

enter_may : (enter : Event) (inside : Bool) → (inside ≡ true → is_listed outside_strings enter.name ≡ false) → not (is_outside inside enter) ≡ true
enter_may enter false without = refl
enter_may enter true without = ap (λ (b : Bool). not (is_enter enter.kind && b)) (without refl) ∙ ap not (and-false (is_enter enter.kind))

exit_may : (exit : Event) (inside : Bool) → exit.kind ≡ Exit → not (is_outside inside exit) ≡ true
exit_may exit inside is = ap (λ (k : Kind). not (inside && (is_enter k && is_listed outside_strings exit.name))) is ∙ ap not (and-false inside)

-- no call is in a call
call_outside : (name : Name) (inside : Bool) → name ≡ n.GfmFootnoteCall → (inside ≡ true → is_listed outside_strings name ≡ false) → inside ≡ false
call_outside name false is without = refl
call_outside name true is without = absurd (true≢false (sym (ap (is_listed outside_strings) is) ∙ without refl))

-- after an event the same is open as before it
left_as : (enter exit : Event) (inside : Bool) → exit.kind ≡ Exit → exit.name ≡ enter.name
    → (inside ≡ true → is_listed outside_strings enter.name ≡ false) → in_call (in_call inside enter) exit ≡ inside
left_as enter exit inside is same without = elim (cases_Bool (same_name enter.name n.GfmFootnoteCall)) [
  | inl call ↦
      let here : same_name exit.name n.GfmFootnoteCall ≡ true = ap (λ (a : Name). same_name a n.GfmFootnoteCall) same ∙ call in
      cond-true (same_name exit.name n.GfmFootnoteCall) (is_enter exit.kind) (in_call inside enter) here
      ∙ ap is_enter is ∙ sym (call_outside enter.name inside (same_true the_type tt enter.name n.GfmFootnoteCall call) without)
  | inr other ↦
      let here : same_name exit.name n.GfmFootnoteCall ≡ false = ap (λ (a : Name). same_name a n.GfmFootnoteCall) same ∙ other in
      cond-false (same_name exit.name n.GfmFootnoteCall) (is_enter exit.kind) (in_call inside enter) here
      ∙ cond-false (same_name enter.name n.GfmFootnoteCall) (is_enter enter.kind) inside other
]

module _ (on : Constructs) (names : Names) (text : List ℕ) where
  -- what is in an event
  kids_without : (enter exit : Event) (kids : Nodes) (inside : Bool) → IsSound on names text (Around enter kids exit)
      → (inside ≡ true → IsWithout outside_strings (Around enter kids exit)) → in_call inside enter ≡ true → AreWithout outside_strings kids
  kids_without enter exit kids inside sound without is = elim (cases_Bool (same_name enter.name n.GfmFootnoteCall)) [
    | inl call ↦ sound.0.call (same_true the_type tt enter.name n.GfmFootnoteCall call)
    | inr other ↦ (without (sym (cond-false (same_name enter.name n.GfmFootnoteCall) (is_enter enter.kind) inside other) ∙ is)).1
  ]

  mutual
    node_calls : (node : Node) (inside : Bool) (rest : List Event) → IsNode node → IsSound on names text node
        → (inside ≡ true → IsWithout outside_strings node) → calls_hold inside rest ≡ true → calls_hold inside (node_events node ++ rest) ≡ true
    node_calls (Around enter kids exit) inside rest is sound without h =
        let own = λ (e : inside ≡ true). (without e).0 in
        let within = in_call inside enter in
        let after : calls_hold within (exit ∷ rest) ≡ true =
        and_from (not (is_outside within exit)) (calls_hold (in_call within exit) rest) (exit_may exit within is.1)
        (subst (λ (b : Bool). calls_hold b rest ≡ true) (sym (left_as enter exit inside is.1 is.2 own)) h) in
        and_from (not (is_outside inside enter)) (calls_hold within ((events_of kids ++ exit ∷ []) ++ rest)) (enter_may enter inside own)
        (ap (calls_hold within) (append_assoc (events_of kids) (exit ∷ []) rest)
        ∙ nodes_calls kids within (exit ∷ rest) is.3 sound.1 (kids_without enter exit kids inside sound without) after)

    nodes_calls : (ns : Nodes) (inside : Bool) (rest : List Event) → AreNodes ns → AreSound on names text ns
        → (inside ≡ true → AreWithout outside_strings ns) → calls_hold inside rest ≡ true → calls_hold inside (events_of ns ++ rest) ≡ true
    nodes_calls Nil inside rest are sound without h = h
    nodes_calls (Cons node ns) inside rest are sound without h =
        ap (calls_hold inside) (append_assoc (node_events node) (events_of ns) rest)
        ∙ node_calls node inside (events_of ns ++ rest) are.0 sound.0 (λ e. (without e).0)
        (nodes_calls ns inside rest are.1 sound.1 (λ e. (without e).1) h)

  pub sound_calls : (ns : Nodes) → AreNodes ns → AreSound on names text ns → calls_hold false (events_of ns) ≡ true
  sound_calls ns are sound =
      sym (ap (calls_hold false) (append-nil (events_of ns))) ∙ nodes_calls ns false [] are sound (λ e. absurd (true≢false (sym e))) refl
