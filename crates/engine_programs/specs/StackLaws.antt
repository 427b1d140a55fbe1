-- What holds of the attempts that wait, as events are added and what is kept changes.
use Rattle.std.proofs.Common.{◌≡◌, ℕ, ◌<◌, ◌≤◌, ◌∙◌, Bool, true, false, List, [], ◌∷◌, ◌++◌, take, refl, sym, ap, subst, arith}
use Rattle.std.proofs.lemmas.Bool.{and_parts}
use Rattle.std.proofs.lemmas.List.{length-append, take-append-le}
use Rattle.engine_events.specs.declared.event.Event.{Event}
use Rattle.engine_events.specs.declared.event.Name.{Name as EventName}
use Rattle.engine_states.specs.declared.state.Name.{Name}
use Rattle.markdown_engine.specs.declared.attempt.Attempt.{Attempt}
use Rattle.markdown_engine.specs.KeptState.{KeptState}
use Rattle.markdown_engine.specs.Laws.{remaining}
use Rattle.markdown_engine.specs.Order.{AreTidy, open_after}
use Rattle.engine_programs.specs.Bodies.{held_name, names_of}
use Rattle.engine_programs.specs.Sorts.{Sort, all_fixed}
use Rattle.engine_programs.specs.Stacks.{Ends, Far, Marks, are_plain, around_of, below, ends_back}
use Rattle.engine_programs.specs.NameLaws.{fixed_same, names_same}

module _ (sorts : Name → Sort) (size : ℕ) where
  pub far_weak : (st : List Attempt) (l : ℕ) (b d : Bool) → (d ≡ true → b ≡ true) → Far sorts size st l b → Far sorts size st l d
  far_weak [] l b d h f = tt
  far_weak (a ∷ st) l true true h f = f
  far_weak (a ∷ st) l true false h f = let g : l < remaining size a.point = f in omega arith
  far_weak (a ∷ st) l false true h f = absurd (let e : false ≡ true = h refl in cc)
  far_weak (a ∷ st) l false false h f = f

  pub far_near : (st : List Attempt) (l m : ℕ) (b : Bool) → m ≤ l → Far sorts size st l b → Far sorts size st m b
  far_near [] l m b h f = tt
  far_near (a ∷ st) l m true h f = let g : l < remaining size a.point = f in omega arith
  far_near (a ∷ st) l m false h f = let g : l ≤ remaining size a.point = f in omega arith

  pub far_less : (st : List Attempt) (l m : ℕ) (b : Bool) → m < l → Far sorts size st l b → Far sorts size st m true
  far_less [] l m b h f = tt
  far_less (a ∷ st) l m true h f = let g : l < remaining size a.point = f in omega arith
  far_less (a ∷ st) l m false h f = let g : l ≤ remaining size a.point = f in omega arith

  -- the names around each attempt stay
  pub SameBelow : KeptState → KeptState → List Attempt → Type 0
  SameBelow k k2 [] = Unit {0}
  SameBelow k k2 (a ∷ st) = (names_of k2 (around_of sorts size a) ≡ names_of k (around_of sorts size a)) × SameBelow k k2 st

  pub below_same : (k k2 : KeptState) (st : List Attempt) → SameBelow k k2 st → below sorts size k2 st ≡ below sorts size k st
  unfolding SameBelow
  below_same k k2 [] h = refl
  below_same k k2 (a ∷ st) h =
      ap (λ (z : List EventName). z ++ below sorts size k2 st) h.0 ∙ ap (λ (z : List EventName). names_of k (around_of sorts size a) ++ z)
      (below_same k k2 st h.1)

  pub marks_same : (k k2 : KeptState) (st : List Attempt) (es : List Event) → SameBelow k k2 st → Marks sorts size k es st → Marks sorts size k2 es st
  unfolding SameBelow
  marks_same k k2 [] es h m = tt
  marks_same k k2 (a ∷ st) es h m =
      let x = m.0 in (
        record { low = x.low; tidy = x.tidy; exits = x.exits; names = x.names ∙ sym (below_same k k2 (a ∷ st) h); ok = x.ok; nok = x.nok },
        marks_same k k2 st (take a.events es) h.1 m.1,
      )

  pub all_same : (k k2 : KeptState) → ((i : ℕ) → held_name k2 i ≡ held_name k i) → (st : List Attempt) → SameBelow k k2 st
  unfolding SameBelow
  all_same k k2 h [] = tt
  all_same k k2 h (a ∷ st) = (names_same k k2 h (around_of sorts size a), all_same k k2 h st)

  pub plain_same : (k k2 : KeptState) (st : List Attempt) → are_plain sorts size st ≡ true → SameBelow k k2 st
  unfolding SameBelow
  plain_same k k2 [] h = tt
  plain_same k k2 (a ∷ st) h =
      let p = and_parts (all_fixed (around_of sorts size a)) (are_plain sorts size st) h in
      (fixed_same k k2 (around_of sorts size a) p.0, plain_same k k2 st p.1)

  pub marks_more : (k : KeptState) (st : List Attempt) (es more : List Event) → Marks sorts size k es st → Marks sorts size k (es ++ more) st
  marks_more k [] es more m = tt
  marks_more k (a ∷ st) es more m =
      let x = m.0 in
      let low = x.low in
      let longer = length-append es more in
      let same = subst (λ (z : List Event). AreTidy z a.point × (ends_back sorts size a st ≡ true → Ends sorts size a.previous a.line_start a.point z)
      × (open_after [] z ≡ below sorts size k (a ∷ st)) × Marks sorts size k z st) (sym (take-append-le a.events es more low)) (
        x.tidy,
        x.exits,
        x.names,
        m.1,
      ) in
      (record { low = omega (arith, low, longer); tidy = same.0; exits = same.1; names = same.2; ok = x.ok; nok = x.nok }, same.3)
