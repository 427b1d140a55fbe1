-- Without a footnote definition no label is found.
use Rattle.std.proofs.Common.{◌≡◌, ℕ, ◌+◌, ◌-◌, ◌==◌, Bool, true, false, if◌then◌else◌, List, [], ◌∷◌, ◌++◌, Option, None, refl, ap, ◌∙◌, drop}
use Rattle.compile_written.proofs.Prelude.{append-nil, Code, container_names, enter_content, enter_open, Event, first_held, has_begun, Held, is_listed, Kind}
use Rattle.compile_written.proofs.Prelude.{label_codes, label_list, Name, note_next, Notes, notes, notes_after, only_if, same_name, the_document}
use Rattle.engine_events.specs.declared.event.Kind.TheVariants.{Enter, Exit}
use Rattle.engine_events.specs.declared.event.Name.TheVariants as n
use Rattle.compile_written.specs.GfmFootnoteDefinition.{has_definition}

abbrev AreUnlabelled : List Held → Type 0
AreUnlabelled [] = Unit
AreUnlabelled (h ∷ hs) = (h.label ≡ None) × AreUnlabelled hs

-- no footnote definition is open, and these ended
record HasNone (ended : List (List Code)) (s : Notes) : Type 0 where
  inner : s.inner.label ≡ None
  outer : AreUnlabelled s.outer
  same : s.ended ≡ ended

first_unlabelled : (hs : List Held) → AreUnlabelled hs → (first_held hs).label ≡ None
first_unlabelled [] k = refl
first_unlabelled (h ∷ hs) k = k.0

rest_unlabelled : (hs : List Held) → AreUnlabelled hs → AreUnlabelled (drop 1 hs)
rest_unlabelled [] k = tt
rest_unlabelled (h ∷ hs) k = k.1

module _ (ended : List (List Code)) (name : Name) (label : List Code) (other : same_name name n.GfmFootnoteDefinition ≡ false) where
  content_none : (b : Bool) (s : Notes) → HasNone ended s → HasNone ended (enter_content b name label s)
  content_none true s k =
      record { inner = ap (λ (t : Bool). only_if t label) other; outer = (k.inner, k.outer); same = k.same }
  content_none false s k = record { inner = k.inner; outer = k.outer; same = k.same }

  open_none : (b : Bool) (s : Notes) → HasNone ended s → HasNone ended (enter_open b name label s)
  open_none true s k = content_none (is_listed container_names name) s k
  open_none false s k = record { inner = k.inner; outer = k.outer; same = k.same }

  enter_by : (b : Bool) (s : Notes) → HasNone ended s
      → HasNone ended (if b then enter_open (has_begun s.inner.awaited name) name label s else notes s.ended s.inner s.outer (s.skipped + 1))
  enter_by true s k = open_none (has_begun s.inner.awaited name) s k
  enter_by false s k = record { inner = k.inner; outer = k.outer; same = k.same }

  exit_by : (b : Bool) (s : Notes) → HasNone ended s
      → HasNone ended (if b then notes (s.ended ++ label_list s.inner.label) (first_held s.outer) (drop 1 s.outer) 0
      else notes s.ended s.inner s.outer (s.skipped - 1))
  exit_by true s k =
      record {
        inner = first_unlabelled s.outer k.outer;
        outer = rest_unlabelled s.outer k.outer;
        same = ap (λ (o : Option (List Code)). s.ended ++ label_list o) k.inner ∙ append-nil s.ended ∙ k.same;
      }
  exit_by false s k = record { inner = k.inner; outer = k.outer; same = k.same }

  next_none : (kind : Kind) (s : Notes) → HasNone ended s → HasNone ended (note_next kind name label s)
  next_none Enter s k = enter_by (s.skipped == 0) s k
  next_none Exit s k = exit_by (s.skipped == 0) s k

no_first : (b c : Bool) → (if b then true else c) ≡ false → b ≡ false
no_first true c h = h
no_first false c h = refl

no_rest : (b c : Bool) → (if b then true else c) ≡ false → c ≡ false
no_rest true c h = absurd (let f : true ≡ false = h in cc)
no_rest false c h = h

module _ (bytes : List ℕ) (ended : List (List Code)) where
  after_none : (events : List Event) (s : Notes) → has_definition events ≡ false → HasNone ended s → (notes_after bytes s events).ended ≡ ended
  after_none [] s h k = k.same
  after_none (e ∷ es) s h k =
      let b = same_name e.name n.GfmFootnoteDefinition in
      after_none es (note_next e.kind e.name (label_codes bytes es) s) (no_rest b (has_definition es) h)
      (next_none ended e.name (label_codes bytes es) (no_first b (has_definition es) h) e.kind s k)

pub no_footnotes : (bytes : List ℕ) (events : List Event) → has_definition events ≡ false
    → (notes_after bytes (notes [] the_document [] 0) events).ended ≡ []
no_footnotes bytes events h = after_none bytes [] events (notes [] the_document [] 0) h (record { inner = refl; outer = tt; same = refl })
