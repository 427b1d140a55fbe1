-- A walk over the events of nodes: what is skipped has no rows.
use Rattle.std.proofs.Common.{◌≡◌, ℕ, ◌+◌, ◌-◌, Bool, if◌then◌else◌, List, [], ◌∷◌, ◌++◌, refl, ap, ◌∙◌}
use Rattle.compile_rows.proofs.Prelude.{AreNodes, Around, Cons, enter_in, enter_rows, entered, Event, events_of, exit_in, exit_rows, exited, InlineRow, Kind}
use Rattle.compile_rows.proofs.Prelude.{less, LinkTexts, Mode, Names, Nil, Nodes, nonzero, passes, PassesOver, Place, place, rows_by, split, Target}
use Rattle.engine_events.specs.declared.event.Kind.TheVariants.{Enter, Exit}
use Rattle.compile_rows.specs.Rows.{rows_next}
use Rattle.compile_rows.specs.declared.rows.Mode.TheVariants.{Behind}

module _ (names : Names) (bytes : List ℕ) (leads : Target → LinkTexts) (in_link : Bool) where
  abbrev walk : Place → List Event → List InlineRow
  walk = rows_by names bytes leads in_link

  pub enters : (p : Place) (e : Event) (es : List Event) → e.kind ≡ Enter
      → walk p (e ∷ es) ≡ enter_rows names bytes leads in_link p e.name (e ∷ es) ++ walk (entered p e.name) es
  enters p e es h = ap (λ (k : Kind). rows_next names bytes leads in_link k e.name p (e ∷ es) (λ q. walk q es)) h

  pub exits : (p : Place) (e : Event) (es : List Event) → e.kind ≡ Exit
      → walk p (e ∷ es) ≡ exit_rows p e.name ++ walk (exited p e.name) es
  exits p e es h = ap (λ (k : Kind). rows_next names bytes leads in_link k e.name p (e ∷ es) (λ q. walk q es)) h

  module _ (mode : Mode) (links : ℕ) where
    abbrev skip : ℕ → List Event → List InlineRow
    skip d es = walk (place mode d links) es

    skip_over : PassesOver skip
    skip_over =
        record {
          down =
              λ d e es h.
              enters (place mode (d + 1) links) e es h
              ∙ ap (λ (t : Bool). (if t then enter_in names bytes leads in_link mode e.name links (e ∷ es) else [])
              ++ walk (if t then entered (place mode 0 links) e.name else place mode (d + 1 + 1) links) es) (nonzero d);
          up =
              λ d e es h.
              exits (place mode (d + 1 + 1) links) e es h
              ∙ ap (λ (t : Bool). (if t then exit_in mode e.name else [])
              ++ walk (if t then exited (place mode 0 links) e.name else place mode ((d + 1 + 1) - 1) links) es) (nonzero (d + 1))
              ∙ ap (λ (q : ℕ). walk (place mode q links) es) (less (d + 1));
        }

    pub skipped : (kids : Nodes) → AreNodes kids → (exit : Event) (es : List Event) → exit.kind ≡ Exit
        → walk (place mode 1 links) (events_of kids ++ exit ∷ es) ≡ walk (place mode 0 links) es
    skipped kids k exit es h =
        passes skip skip_over kids k 0 (exit ∷ es)
        ∙ exits (place mode 1 links) exit es h

  -- nothing has rows behind a text
  pub behind : (links : ℕ) (ns : Nodes) → AreNodes ns → (es : List Event) → walk (place Behind 0 links) (events_of ns ++ es) ≡ walk (place Behind 0 links) es
  behind links Nil k es = refl
  behind links (Cons (Around enter kids exit) ns) k es =
      let rest = events_of ns ++ es in
      ap (λ (l : List Event). walk (place Behind 0 links) (enter ∷ l)) (split kids ns exit es)
      ∙ enters (place Behind 0 links) enter (events_of kids ++ exit ∷ rest) k.0.0
      ∙ skipped Behind links kids k.0.3 exit rest k.0.1
      ∙ behind links ns k.1 es
