-- The rows of a text, event by event.
use Rattle.std.proofs.Common.{◌≡◌, ◌≤◌, ◌+◌, ℕ, Bool, List, [], ◌∷◌, ◌++◌, sym, ap, ◌∙◌, arith}
use Rattle.std.proofs.Common.{append_assoc, drop, length}
use Rattle.compile_rows.proofs.Prelude.{append-nil, AreLeft, AreSpelled, enter_rows, entered, Event, exit_rows, exited, first_raw, first_target, InlineRow}
use Rattle.compile_rows.proofs.Prelude.{Kind, LinkTexts, Names, Place, place, raws_by, raws_next, raws_view, rows_by, rows_view, sequence_of, SpelledStrings}
use Rattle.compile_rows.proofs.Prelude.{Target, targets_by, targets_next, targets_view, Walk}
use Rattle.engine_events.specs.declared.event.Kind.TheVariants.{Enter, Exit}
use Rattle.compile_rows.specs.declared.rows.Mode.TheVariants.{Text}
use Rattle.compile_rows.proofs.Walks.{enters, exits}

module _ (names : Names) (bytes : List ℕ) (leads : Target → LinkTexts) (e : Event) (es own : List Event) (split : own ≡ e ∷ es) where
  targets_on : (kind : Kind) → e.kind ≡ kind
      → targets_by names bytes leads own ≡ targets_next names bytes leads kind e.name es (targets_by names bytes leads es)
  targets_on kind h =
      ap (targets_by names bytes leads) split ∙ ap (λ (k : Kind). targets_next names bytes leads k e.name es (targets_by names bytes leads es)) h

  raws_on : (kind : Kind) → e.kind ≡ kind → raws_by bytes own ≡ raws_next bytes kind e.name es (raws_by bytes es)
  raws_on kind h = ap (raws_by bytes) split ∙ ap (λ (k : Kind). raws_next bytes k e.name es (raws_by bytes es)) h

  module _ {A : Type 0} (at : ℕ → LinkTexts) (strings : SpelledStrings A) (walk : Walk A)
      (left : AreLeft at strings walk (targets_by names bytes leads own) (raws_by bytes own)) where
    -- what is left before an enter
    pub enter_left : e.kind ≡ Enter
        → AreLeft at strings walk (first_target names bytes leads e.name (drop 1 own) (targets_by names bytes leads es))
        (first_raw bytes (sequence_of e.name) (drop 1 own) (raws_by bytes es))
    enter_left h =
        let after = ap (drop 1) split in
        record {
          targets =
              left.targets
              ∙ targets_on Enter h
              ∙ ap (λ (z : List Event). first_target names bytes leads e.name z (targets_by names bytes leads es)) (sym after);
          raws = left.raws ∙ raws_on Enter h ∙ ap (λ (z : List Event). first_raw bytes (sequence_of e.name) z (raws_by bytes es)) (sym after);
        }

    pub exit_left : (next : Walk A) → e.kind ≡ Exit → next.targets ≡ walk.targets → next.raw_texts ≡ walk.raw_texts
        → AreLeft at strings next (targets_by names bytes leads es) (raws_by bytes es)
    exit_left next h t r =
        record {
          targets = ap (λ (k : ℕ). drop k (targets_view at strings)) t ∙ left.targets ∙ targets_on Exit h;
          raws = ap (λ (k : ℕ). drop k (raws_view strings)) r ∙ left.raws ∙ raws_on Exit h;
        }

  module _ (in_link : Bool) (p next : Place) (old new whole : List InlineRow) where
    abbrev walk_rows : Place → List Event → List InlineRow
    walk_rows = rows_by names bytes leads in_link

    -- an event with its rows, and the events after it
    pub enter_on : e.kind ≡ Enter → next ≡ entered p e.name → new ≡ old ++ enter_rows names bytes leads in_link p e.name own
        → old ++ walk_rows p own ≡ whole → new ++ walk_rows next es ≡ whole
    enter_on h q n w =
        let rows = enter_rows names bytes leads in_link p e.name own in
        ap (λ (z : List InlineRow). z ++ walk_rows next es) n
        ∙ append_assoc old rows (walk_rows next es)
        ∙ ap (λ (z : Place). old ++ (rows ++ walk_rows z es)) q
        ∙ ap (λ (z : List Event). old ++ (enter_rows names bytes leads in_link p e.name z ++ walk_rows (entered p e.name) es)) split
        ∙ ap (λ (z : List InlineRow). old ++ z) (sym (enters names bytes leads in_link p e es h))
        ∙ ap (λ (z : List Event). old ++ walk_rows p z) (sym split)
        ∙ w

    pub exit_on : e.kind ≡ Exit → next ≡ exited p e.name → new ≡ old ++ exit_rows p e.name → old ++ walk_rows p own ≡ whole
        → new ++ walk_rows next es ≡ whole
    exit_on h q n w =
        let rows = exit_rows p e.name in
        ap (λ (z : List InlineRow). z ++ walk_rows next es) n
        ∙ append_assoc old rows (walk_rows next es)
        ∙ ap (λ (z : Place). old ++ (rows ++ walk_rows z es)) q
        ∙ ap (λ (z : List InlineRow). old ++ z) (sym (exits names bytes leads in_link p e es h))
        ∙ ap (λ (z : List Event). old ++ walk_rows p z) (sym split)
        ∙ w

-- ---- a place in the events

-- what a walk up to a place knows: with what is left, its rows are all
pub record HasRead {A : Type 0} (names : Names) (bytes : List ℕ) (in_link : Bool) (strings : SpelledStrings A) (events : List Event) (walk : Walk A)
    (rest : List Event) : Type 0 where
  pub skipped : walk.place.skipped + length rest ≤ length events
  pub links : walk.place.links + length rest ≤ length events
  pub targets : walk.targets + length rest ≤ length events
  pub raw_texts : walk.raw_texts + length rest ≤ length events
  pub left : (leads : Target → LinkTexts) (at : ℕ → LinkTexts) → AreSpelled names bytes leads at strings events
      → AreLeft at strings walk (targets_by names bytes leads rest) (raws_by bytes rest)
  pub read : (leads : Target → LinkTexts) (at : ℕ → LinkTexts) → AreSpelled names bytes leads at strings events
      → rows_view at walk.rows.items ++ rows_by names bytes leads in_link walk.place rest ≡ rows_by names bytes leads in_link (place Text 0 0) events

-- ---- passed over

module _ (names : Names) (bytes : List ℕ) (leads : Target → LinkTexts) {A : Type 0} (at : ℕ → LinkTexts) (strings : SpelledStrings A) (walk next : Walk A)
    (es rest : List Event) where
  pub left_over : next.targets ≡ walk.targets → next.raw_texts ≡ walk.raw_texts
      → targets_by names bytes leads rest ≡ targets_by names bytes leads es → raws_by bytes rest ≡ raws_by bytes es
      → AreLeft at strings walk (targets_by names bytes leads es) (raws_by bytes es)
      → AreLeft at strings next (targets_by names bytes leads rest) (raws_by bytes rest)
  left_over t r ts rs left =
      record {
        targets = ap (λ (k : ℕ). drop k (targets_view at strings)) t ∙ left.targets ∙ sym ts;
        raws = ap (λ (k : ℕ). drop k (raws_view strings)) r ∙ left.raws ∙ sym rs;
      }

-- at the end
pub none_on : (names : Names) (bytes : List ℕ) (leads : Target → LinkTexts) (in_link : Bool) (p : Place) (rest : List Event) (old whole : List InlineRow)
    → length rest ≡ 0 → old ++ rows_by names bytes leads in_link p rest ≡ whole → old ≡ whole
none_on names bytes leads in_link p [] old whole l w = sym (append-nil old) ∙ w
none_on names bytes leads in_link p (e ∷ es) old whole l w = absurd (omega (arith, l))
