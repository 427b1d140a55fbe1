-- The name of the last event.
use Rattle.std.proofs.Common.{◌≡◌, ℕ, suc, ◌-◌, Bool, false, List, [], ◌∷◌, ◌++◌, Option, None, Some, length, refl, sym, ap, ◌∙◌, arith}
use Rattle.std.specs.List.{fold, slice_get}
use Rattle.std.proofs.lemmas.List.Sums.{fold-append, fold_push}
use Rattle.engine_events.specs.Names.{same_name}
use Rattle.engine_events.specs.declared.event.Event.{Event}
use Rattle.engine_events.specs.declared.event.Name.{Name}
use Rattle.event_grammar.specs.Trees.{Nodes, Around, Nil, Cons, events_of, AreNodes}
use Rattle.event_meaning.specs.Children.{ends_in}

later : (a : ℕ) → suc a - 1 ≡ a
later a = omega arith

no_last : (e : Event) (es : List Event) (T : Type 0) → slice_get (e ∷ es) (length es) ≡ None → T
no_last e [] T h = absurd (cc)
no_last e (x ∷ xs) T h = no_last x xs T h

module _ (name : Name) where
  abbrev has_name : Event → Bool
  has_name e = same_name e.name name

  -- whether the last of these has the name; `before` says it of the one before them
  abbrev last_has : Bool → List Event → Bool
  last_has before es = fold (λ (b : Bool) e. has_name e) before es

  by_nodes : (ns : Nodes) → AreNodes ns → (before : Bool) → last_has before (events_of ns) ≡ ends_in name before ns
  by_nodes Nil k before = refl
  by_nodes (Cons (Around enter kids exit) ns) k before =
      fold-append (λ (b : Bool) e. has_name e) before (enter ∷ (events_of kids ++ exit ∷ [])) (events_of ns)
      ∙ ap (λ (b : Bool). last_has b (events_of ns))
      (fold_push (λ (b : Bool) e. has_name e) before (enter ∷ events_of kids) exit ∙ ap (λ (own : Name). same_name own name) k.0.2)
      ∙ by_nodes ns k.1 (has_name enter)

  by_last : (es : List Event) (e : Event) → slice_get es (length es - 1) ≡ Some e → (before : Bool) → last_has before es ≡ has_name e
  by_last [] e h before = absurd (cc)
  by_last (x ∷ []) e h before = let same : x ≡ e = cc in ap has_name same
  by_last (x ∷ y ∷ ys) e h before =
      by_last (y ∷ ys) e
      (ap (slice_get (y ∷ ys)) (later (length ys)) ∙ sym (ap (slice_get (x ∷ y ∷ ys)) (later (suc (length ys)))) ∙ h) (has_name x)

  -- the last event of nodes is the exit of the last node
  pub last_name : (ns : Nodes) → AreNodes ns → (es : List Event) → es ≡ events_of ns → (e : Event) → slice_get es (length es - 1) ≡ Some e
      → same_name e.name name ≡ ends_in name false ns
  last_name ns k es x e h = sym (by_last es e h false) ∙ ap (last_has false) x ∙ by_nodes ns k false

  pub no_name : (ns : Nodes) (es : List Event) → es ≡ events_of ns → slice_get es (length es - 1) ≡ None → false ≡ ends_in name false ns
  no_name Nil es x h = refl
  no_name (Cons (Around enter kids exit) ns) es x h =
      let rest = (events_of kids ++ exit ∷ []) ++ events_of ns in
      no_last enter rest _ (sym (ap (slice_get (enter ∷ rest)) (later (length rest))) ∙ ap (λ (l : List Event). slice_get l (length l - 1)) (sym x) ∙ h)
