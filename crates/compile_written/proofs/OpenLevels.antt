-- Levels of events that are neither lists nor items are all alike, so their number is enough.
use Rattle.std.proofs.Common.{◌≡◌, ◌<◌, ◌≤◌, ℕ, zero, suc, ◌+◌, ◌-◌, Bool, true, false, ◌&&◌, ◌||◌, if◌then◌else◌, List, [], ◌∷◌, Option, None, Some}
use Rattle.std.proofs.Common.{refl, sym, ap, ◌∙◌, subst, drop, length, get_or, is_some, arith}
use Rattle.compile_written.proofs.Prelude.{before_enter, before_exit, Child, compared_in, compares, drop_next, Event, is_before, is_list, Kind, length-drop}
use Rattle.compile_written.proofs.Prelude.{level, Level, level_view, more_lists, Name, new_level, no_event, pass_at, pass_next, pass_start, passed, PassView}
use Rattle.compile_written.proofs.Prelude.{Spot, spot_of}
use Rattle.engine_events.specs.declared.event.Kind.TheVariants.{Enter, Exit}
use Rattle.compile_written.specs.List.{first_level, levels_of, nones}
use Rattle.compile_written.specs.declared.list.OpenLevel.{OpenLevel}

-- ---- levels that are all alike

nones_less : (d : ℕ) (ls : List Level) → 0 < d → nones d ls ≡ new_level None ∷ nones (d - 1) ls
nones_less zero ls h = absurd (omega (arith, h))
nones_less (suc d) ls h = let k : d ≡ suc d - 1 = omega arith in ap (λ (z : ℕ). new_level None ∷ nones z ls) k

pub left_level : (d : ℕ) (ls : List Level) → 0 < d → first_level (nones (d - 1) ls) ≡ first_level (drop 1 (nones d ls))
left_level d ls h = ap (λ (z : List Level). first_level (drop 1 z)) (sym (nones_less d ls h))

pub left_outer : (d : ℕ) (ls : List Level) → 0 < d → drop 1 (nones (d - 1) ls) ≡ drop 1 (drop 1 (nones d ls))
left_outer d ls h = ap (λ (z : List Level). drop 1 (drop 1 z)) (sym (nones_less d ls h))

pub none_exit : (bytes : List ℕ) (name : Name) (at : Spot) (d : ℕ) (ls : List Level) → 0 < d
    → nones d ls ≡ before_exit bytes name at (first_level (nones d ls)) ∷ drop 1 (nones d ls)
none_exit bytes name at d ls h =
    subst (λ (z : List Level). z ≡ before_exit bytes name at (first_level z) ∷ drop 1 z) (sym (nones_less d ls h)) refl

pub none_enter : (name : Name) (at : Spot) (apart : Bool) (d : ℕ) (ls : List Level) → 0 < d
    → nones d ls ≡ before_enter name at apart (first_level (nones d ls)) ∷ drop 1 (nones d ls)
none_enter name at apart d ls h =
    subst (λ (z : List Level). z ≡ before_enter name at apart (first_level z) ∷ drop 1 z) (sym (nones_less d ls h)) refl

-- ---- no more are open than were passed

nones_size : (d : ℕ) (ls : List Level) → length (nones d ls) ≡ d + length ls
nones_size zero ls = omega arith
nones_size (suc d) ls = let h = nones_size d ls in omega (arith, h)

module _ (bytes : List ℕ) where
  next_size : (kind : Kind) (name : Name) (at : Spot) (p : PassView) → length (pass_next bytes kind name at p).outer ≤ length p.outer + 1
  next_size Exit name at p = omega arith
  next_size Enter name at p = let h = length-drop 1 p.outer in omega (arith, h)

  passed_size : (events : List Event) → length (passed bytes pass_start events).outer ≤ length events
  passed_size [] = omega arith
  passed_size (e ∷ es) =
      let h = passed_size es in
      let k = next_size e.kind e.name (spot_of e) (passed bytes pass_start es) in
      omega (arith, h, k)

  pub depth_fits : (o : OpenLevel) (rest : List Level) (lists : List Bool) (events : List Event)
      → pass_at (first_level (levels_of o rest)) (drop 1 (levels_of o rest)) lists ≡ passed bytes pass_start events → o.depth ≤ length events
  depth_fits o rest lists events h =
      let k = ap (λ (p : PassView). length p.outer) h in
      let s = nones_size o.depth (o.level ∷ rest) in
      let d = length-drop 1 (levels_of o rest) in
      let f = passed_size events in
      omega (arith, k, s, d, f)

-- ---- other events change nothing but how many are open

one_more : (d : ℕ) (ls : List Level) → nones (d + 1) ls ≡ new_level None ∷ nones d ls
one_more d ls = let h : d + 1 ≡ suc d = omega arith in ap (λ (z : ℕ). nones z ls) h

-- what compares no children
plain_exit : (bytes : List ℕ) (name : Name) (at : Spot) (l : Level) → l.child ≡ None → before_exit bytes name at l ≡ l
plain_exit bytes name at l h =
    ap (λ (c : Option Child). level l.child l.next ((compares c name && is_before bytes at l.next) || l.apart) l.loose) h

plain_enter : (name : Name) (at : Spot) (apart : Bool) (l : Level) → l.child ≡ None → before_enter name at apart l ≡ l
plain_enter name at apart l h =
    ap (λ (c : Option Child). if compares c name then level l.child (Some at) l.apart (apart || l.loose) else l) h

module _ (bytes : List ℕ) (l : Level) (ls : List Level) (lists : List Bool) where
  stays_exit : (name : Name) (at : Spot) (d : ℕ) → (d ≡ 0 → l.child ≡ None)
      → before_exit bytes name at (first_level (nones d (l ∷ ls))) ∷ drop 1 (nones d (l ∷ ls)) ≡ nones d (l ∷ ls)
  stays_exit name at zero h = ap (λ (z : Level). z ∷ ls) (plain_exit bytes name at l (h refl))
  stays_exit name at (suc d) h = refl

  stays_enter : (name : Name) (at : Spot) (d : ℕ) → (d ≡ 0 → l.child ≡ None)
      → before_enter name at false (first_level (nones d (l ∷ ls))) ∷ drop 1 (nones d (l ∷ ls)) ≡ nones d (l ∷ ls)
  stays_enter name at zero h = ap (λ (z : Level). z ∷ ls) (plain_enter name at false l (h refl))
  stays_enter name at (suc d) h = refl

  exit_view : (d : ℕ) (name : Name) (at : Spot) → (d ≡ 0 → l.child ≡ None) → compared_in name ≡ None
      → pass_next bytes Exit name at (level_view d l ls lists) ≡ level_view (d + 1) l ls lists
  exit_view d name at plain other =
      let own = nones d (l ∷ ls) in
      ap (λ (c : Option Child). pass_at (new_level c) (before_exit bytes name at (first_level own) ∷ drop 1 own) lists) other
      ∙ ap (λ (z : List Level). pass_at (new_level None) z lists) (stays_exit name at d plain)
      ∙ sym (ap (λ (z : List Level). pass_at (first_level z) (drop 1 z) lists) (one_more d (l ∷ ls)))

  enter_view : (d : ℕ) (name : Name) (at : Spot) → 0 < d → (d - 1 ≡ 0 → l.child ≡ None) → is_list name ≡ false
      → pass_next bytes Enter name at (level_view d l ls lists) ≡ level_view (d - 1) l ls lists
  enter_view d name at some plain other =
      let under = nones (d - 1) (l ∷ ls) in
      ap (λ (z : List Level). pass_at (before_enter name at (first_level z).apart (first_level (drop 1 z))) (drop 1 (drop 1 z)) (more_lists name (first_level z) lists))
      (nones_less d (l ∷ ls) some)
      ∙ ap (λ (t : Bool). pass_at (before_enter name at false (first_level under)) (drop 1 under) (if t then false ∷ lists else lists)) other
      ∙ ap (λ (z : List Level). pass_at (first_level z) (drop 1 z) lists) (stays_enter name at (d - 1) plain)

  module _ (events : List Event) (i d : ℕ) (fits : i < length events) (k : level_view d l ls lists ≡ passed bytes pass_start (drop (i + 1) events)) where
    abbrev event_at : Event
    event_at = get_or events i no_event

    passed_one : (kind : Kind) → event_at.kind ≡ kind
        → pass_next bytes kind event_at.name (spot_of event_at) (level_view d l ls lists) ≡ passed bytes pass_start (drop i events)
    passed_one kind h =
        ap (pass_next bytes kind event_at.name (spot_of event_at)) k
        ∙ sym (ap (λ (z : Kind). pass_next bytes z event_at.name (spot_of event_at) (passed bytes pass_start (drop (i + 1) events))) h)
        ∙ sym (ap (passed bytes pass_start) (drop_next events i fits))

    pub other_exit : event_at.kind ≡ Exit → (d ≡ 0 → l.child ≡ None) → compared_in event_at.name ≡ None
        → level_view (d + 1) l ls lists ≡ passed bytes pass_start (drop i events)
    other_exit h plain other = sym (exit_view d event_at.name (spot_of event_at) plain other) ∙ passed_one Exit h

    pub other_enter : event_at.kind ≡ Enter → 0 < d → (d - 1 ≡ 0 → l.child ≡ None) → is_list event_at.name ≡ false
        → level_view (d - 1) l ls lists ≡ passed bytes pass_start (drop i events)
    other_enter h some plain other = sym (enter_view d event_at.name (spot_of event_at) some plain other) ∙ passed_one Enter h

pub no_child : (o : Option Child) → is_some o ≡ false → o ≡ None
no_child None h = refl
no_child (Some child) h = absurd (let f : true ≡ false = h in cc)
