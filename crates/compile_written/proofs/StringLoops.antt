-- The parts of a string, event by event.
use Rattle.std.proofs.Common.{◌≡◌, ◌<◌, ℕ, ◌+◌, ◌-◌, ◌==◌, Bool, true, false, if◌then◌else◌, List, [], ◌∷◌, ◌++◌, refl, sym, ap, ◌∙◌, get_or, append_assoc}
use Rattle.std.proofs.Common.{drop, length}
use Rattle.compile_written.proofs.Prelude.{append-nil, drop_next, eqb-true, Event, flat_map-append, Form, formed, Kind, Names, no_event, part_text}
use Rattle.compile_written.proofs.Prelude.{parts_after, parts_next, written_byte}
use Rattle.engine_events.specs.declared.event.Kind.TheVariants.{Enter, Exit}
use Rattle.compile_written.specs.declared.string.Form.TheVariants.{Plain, Written}

formed_both : (form : Form) (xs ys : List ℕ) → formed form (xs ++ ys) ≡ formed form xs ++ formed form ys
formed_both Plain xs ys = refl
formed_both Written xs ys = flat_map-append written_byte xs ys

formed_none : (form : Form) → formed form [] ≡ []
formed_none Plain = refl
formed_none Written = refl

pub zero_is : (d : ℕ) → d ≡ 0 → (d == 0) ≡ true
zero_is d h = ap (λ (z : ℕ). z == 0) h

zero_by : (d : ℕ) (t : Bool) → (d == 0) ≡ t → (d ≡ 0 → ⊥) → t ≡ false
zero_by d true e h = absurd (h (eqb-true d 0 e))
zero_by d false e h = refl

pub zero_not : (d : ℕ) → (d ≡ 0 → ⊥) → (d == 0) ≡ false
zero_not d h = zero_by d (d == 0) refl h

module _ (names : Names) (bytes : List ℕ) (form : Form) (events : List Event) where
  abbrev event_at : ℕ → Event
  event_at i = get_or events i no_event

  parts_on : (i d : ℕ) (kind : Kind) → i < length events → (event_at i).kind ≡ kind
      → parts_after names bytes d (drop i events)
      ≡ parts_next names bytes kind d (part_text names bytes (event_at i).name (drop i events)) (λ e. parts_after names bytes e (drop (i + 1) events))
  parts_on i d kind l h =
      let next = drop_next events i l in
      ap (parts_after names bytes d) next
      ∙ ap (λ (z : Kind). parts_next names bytes z d (part_text names bytes (event_at i).name (event_at i ∷ drop (i + 1) events))
      (λ e. parts_after names bytes e (drop (i + 1) events))) h
      ∙ ap (λ (z : List Event). parts_next names bytes kind d (part_text names bytes (event_at i).name z)
      (λ e. parts_after names bytes e (drop (i + 1) events))) (sym next)

  -- a part begins
  pub part_on : (i d : ℕ) (old new whole : List ℕ) → i < length events → (event_at i).kind ≡ Enter → (d == 0) ≡ true
      → new ≡ old ++ formed form (part_text names bytes (event_at i).name (drop i events))
      → old ++ formed form (parts_after names bytes d (drop i events)) ≡ whole
      → new ++ formed form (parts_after names bytes (d + 1) (drop (i + 1) events)) ≡ whole
  part_on i d old new whole l h z p w =
      let part = part_text names bytes (event_at i).name (drop i events) in
      let others = parts_after names bytes (d + 1) (drop (i + 1) events) in
      ap (λ (x : List ℕ). x ++ formed form others) p
      ∙ append_assoc old (formed form part) (formed form others)
      ∙ ap (λ (x : List ℕ). old ++ x) (sym (formed_both form part others))
      ∙ ap (λ (t : Bool). old ++ formed form ((if t then part else []) ++ others)) (sym z)
      ∙ ap (λ (x : List ℕ). old ++ formed form x) (sym (parts_on i d Enter l h))
      ∙ w

  -- an event in a part
  pub enter_on : (i d : ℕ) (old whole : List ℕ) → i < length events → (event_at i).kind ≡ Enter → (d == 0) ≡ false
      → old ++ formed form (parts_after names bytes d (drop i events)) ≡ whole
      → old ++ formed form (parts_after names bytes (d + 1) (drop (i + 1) events)) ≡ whole
  enter_on i d old whole l h z w =
      ap (λ (t : Bool). old ++ formed form
      ((if t then part_text names bytes (event_at i).name (drop i events) else []) ++ parts_after names bytes (d + 1) (drop (i + 1) events))) (sym z)
      ∙ ap (λ (x : List ℕ). old ++ formed form x) (sym (parts_on i d Enter l h))
      ∙ w

  pub exit_on : (i d : ℕ) (old whole : List ℕ) → i < length events → (event_at i).kind ≡ Exit → (d == 0) ≡ false
      → old ++ formed form (parts_after names bytes d (drop i events)) ≡ whole
      → old ++ formed form (parts_after names bytes (d - 1) (drop (i + 1) events)) ≡ whole
  exit_on i d old whole l h z w =
      ap (λ (t : Bool). old ++ formed form (if t then [] else parts_after names bytes (d - 1) (drop (i + 1) events))) (sym z)
      ∙ ap (λ (x : List ℕ). old ++ formed form x) (sym (parts_on i d Exit l h))
      ∙ w

  -- the exit of the string
  pub ends_on : (i d : ℕ) (old whole : List ℕ) → i < length events → (event_at i).kind ≡ Exit → (d == 0) ≡ true
      → old ++ formed form (parts_after names bytes d (drop i events)) ≡ whole → old ≡ whole
  ends_on i d old whole l h z w =
      sym (append-nil old)
      ∙ ap (λ (x : List ℕ). old ++ x) (sym (formed_none form))
      ∙ ap (λ (t : Bool). old ++ formed form (if t then [] else parts_after names bytes (d - 1) (drop (i + 1) events))) (sym z)
      ∙ ap (λ (x : List ℕ). old ++ formed form x) (sym (parts_on i d Exit l h))
      ∙ w

  -- no event is left
  pub none_left : (i d : ℕ) (old whole : List ℕ) → drop i events ≡ [] → old ++ formed form (parts_after names bytes d (drop i events)) ≡ whole → old ≡ whole
  none_left i d old whole h w =
      sym (append-nil old)
      ∙ ap (λ (x : List ℕ). old ++ x) (sym (formed_none form))
      ∙ ap (λ (z : List Event). old ++ formed form (parts_after names bytes d z)) (sym h)
      ∙ w
