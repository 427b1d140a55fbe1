-- What is held of links, images and calls: one event more, before the others.
use Rattle.std.proofs.Common.{◌≡◌, ◌<◌, ℕ, zero, suc, ◌+◌, ◌==◌, Bool, true, false, ◌&&◌, ◌||◌, if◌then◌else◌, List, [], ◌∷◌, ◌++◌, drop, length, Option}
use Rattle.std.proofs.Common.{refl, sym, ap, ◌∙◌, subst, get_or, arith}
use Rattle.compile_strings.proofs.Prelude.{AreHeld, drop_all, drop_next, Event, has_own, Held, HoldsAt, is_listed, IsFoundAt, IsHeld, Kind, media_names, Name}
use Rattle.compile_strings.proofs.Prelude.{no_event, own_from, reverse, reverse-append, same_name}
use Rattle.std.specs.Prelude.{slice_index_or}
use Rattle.engine_events.specs.declared.event.Kind.TheVariants.{Enter, Exit}
use Rattle.engine_events.specs.declared.event.Name.TheVariants as n
use Rattle.compile_strings.specs.LabelEnd.{is_held, held, new_held, first_of, held_with, held_at, first_held}
use Rattle.compile_strings.specs.declared.label_end.Open.{Open}
use Rattle.compile_strings.proofs.TargetLaw.{own_enter, own_exit, own_up, and_no}
use Rattle.compile_strings.proofs.Passes.{nonzero}

-- ---- the same is found

found_same : (events : List Event) (o : Option ℕ) (a b : List Event) → b ≡ a → IsFoundAt events o a → IsFoundAt events o b
found_same events o a b e f = subst (IsFoundAt events o) (sym e) f

module _ (events : List Event) where
  -- as after other events, behind so many others
  same_held : (rest more : List Event) (c d : ℕ) (h : Held) → ((name : Name) → own_from name d more ≡ own_from name c rest)
      → IsHeld events rest c h → IsHeld events more d h
  same_held rest more c d h same k =
      record {
        resource = ap has_own (same n.Resource) ∙ k.resource;
        destination = found_same events h.destination _ _ (same n.ResourceDestinationString) k.destination;
        title = found_same events h.title _ _ (same n.ResourceTitleString) k.title;
        reference = found_same events h.reference _ _ (same n.ReferenceString) k.reference;
        text = found_same events h.text _ _ (same n.LabelText) k.text;
      }

  -- where nothing is found
  none_held : (rest : List Event) (c : ℕ) → ((name : Name) → own_from name c rest ≡ []) → IsHeld events rest c new_held
  none_held rest c none =
      record {
        resource = ap has_own (none n.Resource);
        destination = none n.ResourceDestinationString;
        title = none n.ResourceTitleString;
        reference = none n.ReferenceString;
        text = none n.LabelText;
      }

  -- ---- all that are open

  more : (c : ℕ) → c + 1 ≡ suc c
  more c = omega arith

  -- what is held of the innermost one and of those around it
  abbrev pub Held_in : List Event → Held → List Held → Type 0
  Held_in rest inner outer = (c : ℕ) → IsHeld events rest c (held_at inner outer c)

  nothing_at : (c : ℕ) → held_at new_held [] c ≡ new_held
  nothing_at zero = refl
  nothing_at (suc c) = refl

  pub none_after : Held_in [] new_held []
  none_after c = subst (IsHeld events [] c) (sym (nothing_at c)) (none_held [] c (λ name. refl))

  -- at the exit of one more
  pub exit_held : (e : Event) (rest : List Event) (inner : Held) (outer : List Held) → e.kind ≡ Exit → is_listed media_names e.name ≡ true
      → Held_in rest inner outer → Held_in (e ∷ rest) new_held (inner ∷ outer)
  exit_held e rest inner outer x l k zero = none_held (e ∷ rest) 0 (λ name. own_exit name 0 e rest true x l)
  exit_held e rest inner outer x l k (suc c) =
      same_held rest (e ∷ rest) c (suc c) (slice_index_or (inner ∷ outer) c new_held)
      (λ (name : Name). ap (λ (z : ℕ). own_from name z (e ∷ rest)) (sym (more c)) ∙ own_up name c e rest x l)
      (subst (IsHeld events rest c) (sym (pushed c)) (k c))
    where
      pushed : (c : ℕ) → slice_index_or (inner ∷ outer) c new_held ≡ held_at inner outer c
      pushed zero = refl
      pushed (suc c) = refl

  -- at the enter of the innermost one
  popped : (inner : Held) (outer : List Held) (c : ℕ) → held_at (first_held outer) (drop 1 outer) c ≡ held_at inner outer (suc c)
  popped inner [] zero = refl
  popped inner [] (suc c) = refl
  popped inner (h ∷ hs) zero = refl
  popped inner (h ∷ hs) (suc c) = refl

  pub enter_held : (e : Event) (rest : List Event) (inner : Held) (outer : List Held) → e.kind ≡ Enter → is_listed media_names e.name ≡ true
      → Held_in rest inner outer → Held_in (e ∷ rest) (first_held outer) (drop 1 outer)
  enter_held e rest inner outer x l k c =
      same_held rest (e ∷ rest) (suc c) c (held_at (first_held outer) (drop 1 outer) c)
      (λ (name : Name). own_enter name c e rest true x l ∙ ap (λ (z : ℕ). own_from name z rest) (more c))
      (subst (IsHeld events rest (suc c)) (sym (popped inner outer c)) (k (suc c)))

  -- at the exit of another event
  pub pass_held : (e : Event) (rest : List Event) (inner : Held) (outer : List Held) → e.kind ≡ Exit → is_listed media_names e.name ≡ false
      → Held_in rest inner outer → Held_in (e ∷ rest) inner outer
  pass_held e rest inner outer x l k c = same_held rest (e ∷ rest) c c (held_at inner outer c) (λ name. own_exit name c e rest false x l) (k c)

  -- ---- at the enter of another event

  and_true : (b : Bool) → (b && true) ≡ b
  and_true true = refl
  and_true false = refl

  own_first : (name : Name) (e : Event) (rest : List Event) → e.kind ≡ Enter → is_listed media_names e.name ≡ false
      → own_from name 0 (e ∷ rest) ≡ (if same_name e.name name then e ∷ rest else own_from name 0 rest)
  own_first name e rest x l =
      own_enter name 0 e rest false x l ∙ ap (λ (t : Bool). if t then e ∷ rest else own_from name 0 rest) (and_true (same_name e.name name))

  found_first : (name : Name) (e : Event) (rest : List Event) (index : ℕ) (o : Option ℕ) → e.kind ≡ Enter → is_listed media_names e.name ≡ false
      → index < length events → drop index events ≡ e ∷ rest → IsFoundAt events o (own_from name 0 rest)
      → IsFoundAt events (first_of (same_name e.name name) index o) (own_from name 0 (e ∷ rest))
  found_first name e rest index o x l i d f =
      found_same events (first_of (same_name e.name name) index o) _ _ (own_first name e rest x l) (by_name (same_name e.name name))
    where
      by_name : (b : Bool) → IsFoundAt events (first_of b index o) (if b then e ∷ rest else own_from name 0 rest)
      by_name true = (i, sym d)
      by_name false = f

  has_first : (e : Event) (rest : List Event) (resource : Bool) → e.kind ≡ Enter → is_listed media_names e.name ≡ false
      → has_own (own_from n.Resource 0 rest) ≡ resource → has_own (own_from n.Resource 0 (e ∷ rest)) ≡ (resource || same_name e.name n.Resource)
  has_first e rest resource x l h = ap has_own (own_first n.Resource e rest x l) ∙ by_name (same_name e.name n.Resource) resource h
    where
      by_name : (b resource : Bool) → has_own (own_from n.Resource 0 rest) ≡ resource
          → has_own (if b then e ∷ rest else own_from n.Resource 0 rest) ≡ (resource || b)
      by_name true true h = refl
      by_name true false h = refl
      by_name false true h = h
      by_name false false h = h

  pub note_held : (e : Event) (rest : List Event) (index : ℕ) (inner : Held) (outer : List Held) → e.kind ≡ Enter → is_listed media_names e.name ≡ false
      → index < length events → drop index events ≡ e ∷ rest
      → Held_in rest inner outer → Held_in (e ∷ rest) (held_with e.name index inner) outer
  note_held e rest index inner outer x l i d k zero =
      let here = k 0 in
      record {
        resource = has_first e rest inner.resource x l here.resource;
        destination = found_first n.ResourceDestinationString e rest index inner.destination x l i d here.destination;
        title = found_first n.ResourceTitleString e rest index inner.title x l i d here.title;
        reference = found_first n.ReferenceString e rest index inner.reference x l i d here.reference;
        text = found_first n.LabelText e rest index inner.text x l i d here.text;
      }
  note_held e rest index inner outer x l i d k (suc c) =
      same_held rest (e ∷ rest) (suc c) (suc c) (slice_index_or outer c new_held)
      (λ (name : Name). own_enter name (suc c) e rest false x l
      ∙ ap (λ (t : Bool). if t then e ∷ rest else own_from name (suc c) rest) (and_no name (same_name e.name name) (suc c == 0) (ap (λ (z : ℕ). z == 0) (sym (more c)) ∙ nonzero c)))
      (k (suc c))

-- ---- by what the code holds

module _ {A : Type 0} (events : List Event) (old new : Open A) (index : ℕ) (l : index < length events) where
  abbrev event_at : Event
  event_at = get_or events index no_event

  abbrev behind : List Event
  behind = drop (index + 1) events

  at_index : (inner : Held) (outer : List Held) → new.inner ≡ inner → reverse new.outer.items ≡ outer → Held_in events (event_at ∷ behind) inner outer
      → AreHeld events (drop index events) new
  at_index inner outer h k held =
      record {
        each =
            λ c.
            subst (λ (z : List Event). IsHeld events z c (held_at new.inner (reverse new.outer.items) c)) (sym (drop_next events index l))
            (subst (λ (z : Held). IsHeld events (event_at ∷ behind) c (held_at z (reverse new.outer.items) c)) (sym h)
            (subst (λ (z : List Held). IsHeld events (event_at ∷ behind) c (held_at inner z c)) (sym k) (held c)));
      }

  pub exit_open : event_at.kind ≡ Exit → is_listed media_names event_at.name ≡ true → new.inner ≡ new_held
      → new.outer.items ≡ old.outer.items ++ old.inner ∷ [] → AreHeld events behind old → AreHeld events (drop index events) new
  exit_open x m h k held =
      at_index new_held (old.inner ∷ reverse old.outer.items) h (ap reverse k ∙ reverse-append old.outer.items (old.inner ∷ []))
      (exit_held events event_at behind old.inner (reverse old.outer.items) x m held.each)

  pub enter_open : event_at.kind ≡ Enter → is_listed media_names event_at.name ≡ true → new.inner ≡ first_held (reverse old.outer.items)
      → reverse new.outer.items ≡ drop 1 (reverse old.outer.items) → AreHeld events behind old → AreHeld events (drop index events) new
  enter_open x m h k held =
      at_index (first_held (reverse old.outer.items)) (drop 1 (reverse old.outer.items)) h k
      (enter_held events event_at behind old.inner (reverse old.outer.items) x m held.each)

  pub note_open : event_at.kind ≡ Enter → is_listed media_names event_at.name ≡ false → new.inner ≡ held_with event_at.name index old.inner
      → new.outer.items ≡ old.outer.items → AreHeld events behind old → AreHeld events (drop index events) new
  note_open x m h k held =
      at_index (held_with event_at.name index old.inner) (reverse old.outer.items) h (ap reverse k)
      (note_held events event_at behind index old.inner (reverse old.outer.items) x m l (drop_next events index l) held.each)

  pub pass_open : event_at.kind ≡ Exit → is_listed media_names event_at.name ≡ false → AreHeld events behind old → AreHeld events (drop index events) old
  pass_open x m held =
      record {
        each =
            λ c.
            subst (λ (z : List Event). IsHeld events z c (held_at old.inner (reverse old.outer.items) c)) (sym (drop_next events index l))
            (pass_held events event_at behind old.inner (reverse old.outer.items) x m held.each c);
      }

-- ---- events of other names

or_false : (b : Bool) → (b || false) ≡ b
or_false true = refl
or_false false = refl

unheld : (h : Held) (a b c d e : Bool) (index : ℕ) → (a || (b || (c || (d || e)))) ≡ false
    → h ≡ held (h.resource || a) (first_of b index h.destination) (first_of c index h.title) (first_of d index h.reference) (first_of e index h.text)
unheld h false false false false false index z = ap (λ (r : Bool). held r h.destination h.title h.reference h.text) (sym (or_false h.resource))
unheld h true b c d e index z = absurd (let f : true ≡ false = z in cc)
unheld h false true c d e index z = absurd (let f : true ≡ false = z in cc)
unheld h false false true d e index z = absurd (let f : true ≡ false = z in cc)
unheld h false false false true e index z = absurd (let f : true ≡ false = z in cc)
unheld h false false false false true index z = absurd (let f : true ≡ false = z in cc)

pub not_held : (name : Name) (index : ℕ) (h : Held) → is_held name ≡ false → h ≡ held_with name index h
not_held name index h z =
    unheld h (same_name name n.Resource) (same_name name n.ResourceDestinationString) (same_name name n.ResourceTitleString)
    (same_name name n.ReferenceString) (same_name name n.LabelText) index z

-- what says nothing of where something leads
pub held_other : (events : List Event) (index : ℕ) → index < length events → (inner : Held) (outer : List Held)
    → is_listed media_names (get_or events index no_event).name ≡ false → is_held (get_or events index no_event).name ≡ false
    → HoldsAt events (drop (index + 1) events) inner outer → HoldsAt events (drop index events) inner outer
held_other events index l inner outer m h held = by_kind e.kind refl
  where
    e : Event
    e = get_or events index no_event

    behind : List Event
    behind = drop (index + 1) events

    here : HoldsAt events (e ∷ behind) inner outer → HoldsAt events (drop index events) inner outer
    here k = subst (λ (z : List Event). HoldsAt events z inner outer) (sym (drop_next events index l)) k

    by_kind : (kind : Kind) → e.kind ≡ kind → HoldsAt events (drop index events) inner outer
    by_kind Enter x =
        here (subst (λ (z : Held). HoldsAt events (e ∷ behind) z outer) (sym (not_held e.name index inner h))
        (note_held events e behind index inner outer x m l (drop_next events index l) held))
    by_kind Exit x = here (pass_held events e behind inner outer x m held)

-- behind all events
pub held_at_end : {A : Type 0} (events : List Event) (held : Open A) → held.inner ≡ new_held → held.outer.items ≡ []
    → HoldsAt events (drop (length events) events) held.inner (reverse held.outer.items)
held_at_end events held h k =
    subst (λ (z : Held). HoldsAt events (drop (length events) events) z (reverse held.outer.items)) (sym h)
    (subst (λ (z : List Held). HoldsAt events (drop (length events) events) new_held (reverse z)) (sym k)
    (subst (λ (z : List Event). HoldsAt events z new_held []) (sym (drop_all (length events) events (omega arith))) (none_after events)))
