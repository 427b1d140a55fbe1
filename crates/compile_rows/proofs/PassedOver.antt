-- Events in one that is skipped, unless their strings were read ahead, change nothing but how many are open.
use Rattle.std.proofs.Common.{◌≡◌, ◌<◌, ◌≤◌, ℕ, ◌+◌, ◌-◌, Bool, true, false, ◌||◌, if◌then◌else◌, List, [], ◌∷◌, ◌++◌, Option, None, Some, refl, sym, ap, ◌∙◌, length, arith}
use Rattle.compile_rows.proofs.Prelude.{enter_in, entered, Event, exit_in, exited, first_raw, is_listed, Kind, less, LinkTexts, media_names, Mode, Name, Names}
use Rattle.compile_rows.proofs.Prelude.{nonzero, place, raws_by, raws_next, rows_by, same_name, sequence_of, spelled_by, Target, targets_by, targets_next}
use Rattle.engine_events.specs.declared.event.Kind.TheVariants.{Enter, Exit}
use Rattle.engine_events.specs.declared.event.Name.TheVariants as n
use Rattle.compile_rows.specs.Places.{is_counted}
use Rattle.compile_rows.proofs.Walks.{enters, exits}

-- ---- names that aren't counted

no_media : (a b : Bool) → (a || b) ≡ false → a ≡ false
no_media true b h = h
no_media false b h = refl

no_raw : (a b : Bool) → (a || b) ≡ false → b ≡ false
no_raw true b h = absurd (let f : true ≡ false = h in cc)
no_raw false b h = h

none_of : (a b : Bool) → (a || b) ≡ false → (if a then Some n.CodeTextSequence else (if b then Some n.MathTextSequence else None)) ≡ None
none_of true b h = absurd (let f : true ≡ false = h in cc)
none_of false true h = absurd (let f : true ≡ false = h in cc)
none_of false false h = refl

is_no_media : (name : Name) → is_counted name ≡ false → is_listed media_names name ≡ false
is_no_media name h = no_media (is_listed media_names name) (same_name name n.CodeText || same_name name n.MathText) h

has_no_sequence : (name : Name) → is_counted name ≡ false → sequence_of name ≡ None
has_no_sequence name h =
    none_of (same_name name n.CodeText) (same_name name n.MathText)
    (no_raw (is_listed media_names name) (same_name name n.CodeText || same_name name n.MathText) h)

-- ---- a place in events, with so many open, reads what these do with so many open

pub record Reads (d : ℕ) (es : List Event) (skipped : ℕ) (events : List Event) : Type 0 where
  pub rows : (names : Names) (bytes : List ℕ) (leads : Target → LinkTexts) (in_link : Bool) (mode : Mode) (links : ℕ)
      → rows_by names bytes leads in_link (place mode d links) es ≡ rows_by names bytes leads in_link (place mode skipped links) events
  pub targets : (names : Names) (bytes : List ℕ) (leads : Target → LinkTexts) → targets_by names bytes leads es ≡ targets_by names bytes leads events
  pub raws : (bytes : List ℕ) → raws_by bytes es ≡ raws_by bytes events
  pub fits : d + length es ≤ skipped + length events
  pub shorter : length es ≤ length events

pub reads_same : (d : ℕ) (es : List Event) → Reads d es d es
reads_same d es =
    record {
      rows = λ names bytes leads in_link mode links. refl;
      targets = λ names bytes leads. refl;
      raws = λ bytes. refl;
      fits = omega arith;
      shorter = omega arith;
    }

enter_rows_none : (names : Names) (bytes : List ℕ) (leads : Target → LinkTexts) (in_link : Bool) (mode : Mode) (links k : ℕ) (e : Event) (es : List Event)
    → e.kind ≡ Enter
    → rows_by names bytes leads in_link (place mode (k + 1) links) (e ∷ es) ≡ rows_by names bytes leads in_link (place mode (k + 1 + 1) links) es
enter_rows_none names bytes leads in_link mode links k e es h =
    enters names bytes leads in_link (place mode (k + 1) links) e es h
    ∙ ap (λ (t : Bool). (if t then enter_in names bytes leads in_link mode e.name links (e ∷ es) else [])
    ++ rows_by names bytes leads in_link (if t then entered (place mode 0 links) e.name else place mode (k + 1 + 1) links) es) (nonzero k)

exit_rows_none : (names : Names) (bytes : List ℕ) (leads : Target → LinkTexts) (in_link : Bool) (mode : Mode) (links k : ℕ) (e : Event) (es : List Event)
    → e.kind ≡ Exit
    → rows_by names bytes leads in_link (place mode (k + 1) links) (e ∷ es) ≡ rows_by names bytes leads in_link (place mode k links) es
exit_rows_none names bytes leads in_link mode links k e es h =
    exits names bytes leads in_link (place mode (k + 1) links) e es h
    ∙ ap (λ (t : Bool). (if t then exit_in mode e.name else [])
    ++ rows_by names bytes leads in_link (if t then exited (place mode 0 links) e.name else place mode ((k + 1) - 1) links) es) (nonzero k)
    ∙ ap (λ (q : ℕ). rows_by names bytes leads in_link (place mode q links) es) (less k)

module _ (d : ℕ) (own : List Event) (e : Event) (es : List Event) (skipped : ℕ) (events : List Event) (split : own ≡ e ∷ es) (some : 0 < d)
    (k : Reads d own skipped events) where
  abbrev before : ℕ
  before = d - 1

  above : d ≡ before + 1
  above = omega (arith, some)

  size : length own ≡ length es + 1
  size = let h = ap length split in omega (arith, h)

  pub enter_reads : e.kind ≡ Enter → is_counted e.name ≡ false → Reads (d + 1) es skipped events
  enter_reads h other =
      record {
        rows =
            λ names bytes leads in_link mode links.
            ap (λ (z : ℕ). rows_by names bytes leads in_link (place mode (z + 1) links) es) above
            ∙ sym (enter_rows_none names bytes leads in_link mode links before e es h)
            ∙ ap (λ (z : ℕ). rows_by names bytes leads in_link (place mode z links) (e ∷ es)) (sym above)
            ∙ ap (λ (z : List Event). rows_by names bytes leads in_link (place mode d links) z) (sym split)
            ∙ k.rows names bytes leads in_link mode links;
        targets =
            λ names bytes leads.
            sym (ap (λ (t : Bool). if t then spelled_by names bytes leads e.name es ∷ targets_by names bytes leads es else targets_by names bytes leads es)
            (is_no_media e.name other))
            ∙ sym (ap (λ (z : Kind). targets_next names bytes leads z e.name es (targets_by names bytes leads es)) h)
            ∙ ap (targets_by names bytes leads) (sym split)
            ∙ k.targets names bytes leads;
        raws =
            λ bytes.
            sym (ap (λ (o : Option Name). first_raw bytes o es (raws_by bytes es)) (has_no_sequence e.name other))
            ∙ sym (ap (λ (z : Kind). raws_next bytes z e.name es (raws_by bytes es)) h)
            ∙ ap (raws_by bytes) (sym split)
            ∙ k.raws bytes;
        fits = omega (arith, size, k.fits);
        shorter = omega (arith, size, k.shorter);
      }

  pub exit_reads : e.kind ≡ Exit → Reads (d - 1) es skipped events
  exit_reads h =
      record {
        rows =
            λ names bytes leads in_link mode links.
            sym (exit_rows_none names bytes leads in_link mode links before e es h)
            ∙ ap (λ (z : ℕ). rows_by names bytes leads in_link (place mode z links) (e ∷ es)) (sym above)
            ∙ ap (λ (z : List Event). rows_by names bytes leads in_link (place mode d links) z) (sym split)
            ∙ k.rows names bytes leads in_link mode links;
        targets =
            λ names bytes leads.
            sym (ap (λ (z : Kind). targets_next names bytes leads z e.name es (targets_by names bytes leads es)) h)
            ∙ ap (targets_by names bytes leads) (sym split)
            ∙ k.targets names bytes leads;
        raws =
            λ bytes.
            sym (ap (λ (z : Kind). raws_next bytes z e.name es (raws_by bytes es)) h)
            ∙ ap (raws_by bytes) (sym split)
            ∙ k.raws bytes;
        fits = omega (arith, size, k.fits, some);
        shorter = omega (arith, size, k.shorter);
      }
