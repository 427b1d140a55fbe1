-- Raw HTML, event by event.
use Rattle.std.proofs.Common.{◌≡◌, ◌<◌, ◌≤◌, ℕ, ◌+◌, ◌-◌, ◌==◌, Bool, true, false, if◌then◌else◌, List, [], ◌∷◌, ◌++◌, refl, sym, ap, ◌∙◌, get_or}
use Rattle.std.proofs.Common.{append_assoc, drop, length}
use Rattle.compile_rows.proofs.Prelude.{append-nil, eqb-true, Event, html_after, html_next, html_part_rows, InlineRow, Kind, no_event, text_first}
use Rattle.std.proofs.lemmas.List.{drop_all}
use Rattle.engine_events.specs.declared.event.Kind.TheVariants.{Enter, Exit}
use Rattle.event_references.proofs.Loops.{drop_next}

pub zero_is : (d : ℕ) → d ≡ 0 → (d == 0) ≡ true
zero_is d h = ap (λ (z : ℕ). z == 0) h

zero_by : (d : ℕ) (t : Bool) → (d == 0) ≡ t → (d ≡ 0 → ⊥) → t ≡ false
zero_by d true e h = absurd (h (eqb-true d 0 e))
zero_by d false e h = refl

pub zero_not : (d : ℕ) → (d ≡ 0 → ⊥) → (d == 0) ≡ false
zero_not d h = zero_by d (d == 0) refl h

module _ (bytes : List ℕ) (events : List Event) where
  abbrev event_at : ℕ → Event
  event_at i = get_or events i no_event

  abbrev part_at : ℕ → List InlineRow
  part_at i = html_part_rows (event_at i).name (text_first bytes (drop i events))

  html_on : (i d : ℕ) (kind : Kind) → i < length events → (event_at i).kind ≡ kind
      → html_after bytes d (drop i events) ≡ html_next kind d (part_at i) (λ e. html_after bytes e (drop (i + 1) events))
  html_on i d kind l h =
      let next = drop_next events i l in
      ap (html_after bytes d) next
      ∙ ap (λ (z : Kind). html_next z d (html_part_rows (event_at i).name (text_first bytes (event_at i ∷ drop (i + 1) events)))
      (λ e. html_after bytes e (drop (i + 1) events))) h
      ∙ ap (λ (z : List Event). html_next kind d (html_part_rows (event_at i).name (text_first bytes z))
      (λ e. html_after bytes e (drop (i + 1) events))) (sym next)

  -- a part begins
  pub part_on : (i d : ℕ) (old new whole : List InlineRow) → i < length events → (event_at i).kind ≡ Enter → (d == 0) ≡ true
      → new ≡ old ++ part_at i → old ++ html_after bytes d (drop i events) ≡ whole
      → new ++ html_after bytes (d + 1) (drop (i + 1) events) ≡ whole
  part_on i d old new whole l h z p w =
      let others = html_after bytes (d + 1) (drop (i + 1) events) in
      ap (λ (x : List InlineRow). x ++ others) p
      ∙ append_assoc old (part_at i) others
      ∙ ap (λ (t : Bool). old ++ ((if t then part_at i else []) ++ others)) (sym z)
      ∙ ap (λ (x : List InlineRow). old ++ x) (sym (html_on i d Enter l h))
      ∙ w

  -- an event in a part
  pub enter_on : (i d : ℕ) (old whole : List InlineRow) → i < length events → (event_at i).kind ≡ Enter → (d == 0) ≡ false
      → old ++ html_after bytes d (drop i events) ≡ whole → old ++ html_after bytes (d + 1) (drop (i + 1) events) ≡ whole
  enter_on i d old whole l h z w =
      ap (λ (t : Bool). old ++ ((if t then part_at i else []) ++ html_after bytes (d + 1) (drop (i + 1) events))) (sym z)
      ∙ ap (λ (x : List InlineRow). old ++ x) (sym (html_on i d Enter l h))
      ∙ w

  pub exit_on : (i d : ℕ) (old whole : List InlineRow) → i < length events → (event_at i).kind ≡ Exit → (d == 0) ≡ false
      → old ++ html_after bytes d (drop i events) ≡ whole → old ++ html_after bytes (d - 1) (drop (i + 1) events) ≡ whole
  exit_on i d old whole l h z w =
      ap (λ (t : Bool). old ++ (if t then [] else html_after bytes (d - 1) (drop (i + 1) events))) (sym z)
      ∙ ap (λ (x : List InlineRow). old ++ x) (sym (html_on i d Exit l h))
      ∙ w

  -- the exit of raw HTML
  pub ends_on : (i d : ℕ) (old whole : List InlineRow) → i < length events → (event_at i).kind ≡ Exit → (d == 0) ≡ true
      → old ++ html_after bytes d (drop i events) ≡ whole → old ≡ whole
  ends_on i d old whole l h z w =
      sym (append-nil old)
      ∙ ap (λ (t : Bool). old ++ (if t then [] else html_after bytes (d - 1) (drop (i + 1) events))) (sym z)
      ∙ ap (λ (x : List InlineRow). old ++ x) (sym (html_on i d Exit l h))
      ∙ w

  -- no event is left
  pub none_on : (i d : ℕ) (old whole : List InlineRow) → length events ≤ i → old ++ html_after bytes d (drop i events) ≡ whole → old ≡ whole
  none_on i d old whole l w =
      sym (append-nil old) ∙ ap (λ (z : List Event). old ++ html_after bytes d z) (sym (drop_all i events l)) ∙ w
