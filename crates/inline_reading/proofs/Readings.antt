-- More is read.
use Rattle.std.proofs.Common.{◌≡◌, ℕ, ◌+◌, ◌-◌, List, [], ◌∷◌, ◌++◌, map, refl, sym, ap, ◌∙◌, length, arith, subst, append_assoc}
use Rattle.std.specs.List.{flat_map, fold}
use Rattle.std.proofs.lemmas.List.{append-nil, length-append}
use Rattle.definition_inline.specs.Inline.{Target, Inline}
use Rattle.definition_inline.specs.Inline as inline
use Rattle.inline_rows.specs.InlineRows.{part_rows}
use Rattle.definition_inline.specs.Scan as scan
use Rattle.definition_inline.specs.Scan.{LinkStart, ImageStart, start_bytes, start_tokens, with_plain_start}
use Rattle.definition_inline.specs.Spans.{Token, Item, Delimiters}
use Rattle.inline_leaves.specs.Leaves.{text_items}
use Rattle.inline_runs.specs.View.{run_view}
use Rattle.inline_runs.specs.declared.run.Run.{Run}
use Rattle.inline_rows.specs.View.{rows_view, row_view, data_rows}
use Rattle.inline_rows.specs.declared.row.InlineRow.{InlineRow}
use Rattle.inline_rows.specs.Container.{IsContainer, AreBytes}
use Rattle.inline_rows.proofs.Container as container
use Rattle.inline_reading.specs.declared.label.OpenLabel.{OpenLabel}
use Rattle.inline_reading.specs.Shows.{IsOpen, AreOpen, NoneOpen, Inside, ShowsBy}

-- a label start that forms nothing
start_items : (start : scan.LabelStart) → text_items (start_bytes start) ≡ start_tokens start
start_items LinkStart = refl
start_items ImageStart = refl

module _ (leads : Target → inline.LinkTexts) (at : ℕ → inline.LinkTexts) where
  -- parts that are read whole
  pub shows_items : (rows more : List InlineRow) (runs : List Run) (slots : List ℕ) (opens : List OpenLabel) (labels : List scan.OpenLabel) (ts : List Token)
      (parts : List Inline)
      → ShowsBy leads at rows runs slots opens labels ts → rows_view at more ≡ flat_map (part_rows leads) parts
      → ShowsBy leads at (rows ++ more) runs slots opens labels (ts ++ map Item parts)
  shows_items rows more runs slots opens labels ts parts s view = record {
    outer_rows = s.outer_rows;
    now_rows = s.now_rows ++ more;
    outer_runs = s.outer_runs;
    now_runs = s.now_runs;
    outer_slots = s.outer_slots;
    now_slots = s.now_slots;
    rows_are = ap (λ rs. rs ++ more) s.rows_are ∙ append_assoc s.outer_rows s.now_rows more;
    runs_are = s.runs_are;
    slots_are = s.slots_are;
    outer = s.outer;
    now = container.items leads at s.now_rows more (length s.outer_rows) s.now_runs s.now_slots ts parts s.now view;
  }

  -- a run
  pub shows_run : (rows more : List InlineRow) (runs : List Run) (slots : List ℕ) (opens : List OpenLabel) (labels : List scan.OpenLabel) (ts : List Token)
      (r : Run)
      → ShowsBy leads at rows runs slots opens labels ts → AreBytes r.marker r.size more
      → ShowsBy leads at (rows ++ more) (runs ++ r ∷ []) (slots ++ length rows ∷ []) opens labels (ts ++ Delimiters (run_view r) ∷ [])
  shows_run rows more runs slots opens labels ts r s bytes =
      let place : length s.outer_rows + length s.now_rows ≡ length rows = sym (ap length s.rows_are ∙ length-append s.outer_rows s.now_rows) in
      record {
        outer_rows = s.outer_rows;
        now_rows = s.now_rows ++ more;
        outer_runs = s.outer_runs;
        now_runs = s.now_runs ++ r ∷ [];
        outer_slots = s.outer_slots;
        now_slots = s.now_slots ++ length rows ∷ [];
        rows_are = ap (λ rs. rs ++ more) s.rows_are ∙ append_assoc s.outer_rows s.now_rows more;
        runs_are = ap (λ rs. rs ++ r ∷ []) s.runs_are ∙ append_assoc s.outer_runs s.now_runs (r ∷ []);
        slots_are = ap (λ ss. ss ++ length rows ∷ []) s.slots_are ∙ append_assoc s.outer_slots s.now_slots (length rows ∷ []);
        outer = s.outer;
        now =
            subst (λ n. IsContainer leads at (s.now_rows ++ more) (length s.outer_rows) (s.now_runs ++ r ∷ []) (s.now_slots ++ n ∷ [])
            (ts ++ Delimiters (run_view r) ∷ [])) place
            (container.run leads at s.now_rows more (length s.outer_rows) s.now_runs s.now_slots ts r s.now bytes);
      }

  -- a label start
  pub shows_start : (rows : List InlineRow) (row : InlineRow) (runs : List Run) (slots : List ℕ) (opens : List OpenLabel) (labels : List scan.OpenLabel)
      (o : OpenLabel) (label : scan.OpenLabel)
      → ShowsBy leads at rows runs slots opens labels label.outer.tokens → IsOpen o label (length rows) (length runs)
      → row_view at row ≡ data_rows (start_bytes label.start)
      → ShowsBy leads at (rows ++ row ∷ []) runs slots (o ∷ opens) (label ∷ labels) []
  shows_start rows row runs slots opens labels o label s is view = record {
    outer_rows = (s.outer_rows ++ s.now_rows) ++ row ∷ [];
    now_rows = [];
    outer_runs = s.outer_runs ++ s.now_runs;
    now_runs = [];
    outer_slots = s.outer_slots ++ s.now_slots;
    now_slots = [];
    rows_are = ap (λ rs. rs ++ row ∷ []) s.rows_are ∙ sym (append-nil ((s.outer_rows ++ s.now_rows) ++ row ∷ []));
    runs_are = s.runs_are ∙ sym (append-nil (s.outer_runs ++ s.now_runs));
    slots_are = s.slots_are ∙ sym (append-nil (s.outer_slots ++ s.now_slots));
    outer =
        Inside s.outer_rows s.now_rows s.outer_runs s.now_runs s.outer_slots s.now_slots opens labels o label row s.outer s.now
        (subst (λ n. IsOpen o label n (length (s.outer_runs ++ s.now_runs))) (ap length s.rows_are)
        (subst (IsOpen o label (length rows)) (ap length s.runs_are) is)) view;
    now = container.none leads at (length ((s.outer_rows ++ s.now_rows) ++ row ∷ []));
  }

  -- the innermost label start forms nothing
  unform_outer : (outer_rows now_rows : List InlineRow) (outer_runs now_runs : List Run) (outer_slots now_slots : List ℕ) (o : OpenLabel)
      (opens : List OpenLabel) (label : scan.OpenLabel) (labels : List scan.OpenLabel) (ts : List Token)
      → AreOpen leads at outer_rows outer_runs outer_slots (o ∷ opens) (label ∷ labels)
      → IsContainer leads at now_rows (length outer_rows) now_runs now_slots ts
      → ShowsBy leads at (outer_rows ++ now_rows) (outer_runs ++ now_runs) (outer_slots ++ now_slots) opens labels
      (label.outer.tokens ++ (start_tokens label.start ++ ts))
  unform_outer _ now_rows _ now_runs _ now_slots _ _ _ _ ts (Inside rows more runs more_runs slots more_slots opens labels o label row outer inside is view)
      now =
      let bytes = map inline.Data (start_bytes label.start) in
      let begun = container.items leads at more (row ∷ []) (length rows) more_runs more_slots label.outer.tokens (map inline.Leaf bytes) inside
      (container.leaf_row leads at row bytes view) in
      let place : length ((rows ++ more) ++ row ∷ []) ≡ length rows + length (more ++ row ∷ []) =
      ap length (append_assoc rows more (row ∷ [])) ∙ length-append rows (more ++ row ∷ []) in
      let all =
      container.join leads at (more ++ row ∷ []) now_rows (length rows) more_runs now_runs more_slots now_slots
      (label.outer.tokens ++ text_items (start_bytes label.start)) ts begun
      (subst (λ n. IsContainer leads at now_rows n now_runs now_slots ts) place now) in
      record {
        outer_rows = rows;
        now_rows = (more ++ row ∷ []) ++ now_rows;
        outer_runs = runs;
        now_runs = more_runs ++ now_runs;
        outer_slots = slots;
        now_slots = more_slots ++ now_slots;
        rows_are = ap (λ rs. rs ++ now_rows) (append_assoc rows more (row ∷ [])) ∙ append_assoc rows (more ++ row ∷ []) now_rows;
        runs_are = append_assoc runs more_runs now_runs;
        slots_are = append_assoc slots more_slots now_slots;
        outer = outer;
        now =
            subst (IsContainer leads at ((more ++ row ∷ []) ++ now_rows) (length rows) (more_runs ++ now_runs) (more_slots ++ now_slots))
            (append_assoc label.outer.tokens (text_items (start_bytes label.start)) ts
            ∙ ap (λ xs. label.outer.tokens ++ (xs ++ ts)) (start_items label.start)) all;
      }

  shows_with : (rows more : List InlineRow) (runs more_runs : List Run) (slots more_slots : List ℕ) (opens : List OpenLabel) (labels : List scan.OpenLabel)
      (ts : List Token)
      → rows ≡ more → runs ≡ more_runs → slots ≡ more_slots
      → ShowsBy leads at more more_runs more_slots opens labels ts → ShowsBy leads at rows runs slots opens labels ts
  shows_with rows more runs more_runs slots more_slots opens labels ts p q e s =
      subst (λ x. ShowsBy leads at x runs slots opens labels ts) (sym p)
      (subst (λ x. ShowsBy leads at more x slots opens labels ts) (sym q)
      (subst (λ x. ShowsBy leads at more more_runs x opens labels ts) (sym e) s))

  pub shows_unformed : (rows : List InlineRow) (runs : List Run) (slots : List ℕ) (o : OpenLabel) (opens : List OpenLabel) (label : scan.OpenLabel)
      (labels : List scan.OpenLabel) (ts : List Token)
      → ShowsBy leads at rows runs slots (o ∷ opens) (label ∷ labels) ts
      → ShowsBy leads at rows runs slots opens labels (label.outer.tokens ++ (start_tokens label.start ++ ts))
  shows_unformed rows runs slots o opens label labels ts s =
      shows_with rows (s.outer_rows ++ s.now_rows) runs (s.outer_runs ++ s.now_runs) slots
      (s.outer_slots ++ s.now_slots) opens labels _ s.rows_are s.runs_are s.slots_are
      (unform_outer s.outer_rows s.now_rows s.outer_runs s.now_runs s.outer_slots s.now_slots o opens label labels ts s.outer s.now)

  -- as many label starts are open here as there
  none_there : (rows : List InlineRow) (runs : List Run) (slots : List ℕ) (labels : List scan.OpenLabel) → AreOpen leads at rows runs slots [] labels
      → (labels ≡ []) × (rows ≡ []) × (runs ≡ []) × (slots ≡ [])
  none_there _ _ _ _ NoneOpen = (refl, refl, refl, refl)

  pub no_labels : (rows : List InlineRow) (runs : List Run) (slots : List ℕ) (labels : List scan.OpenLabel) (ts : List Token)
      → ShowsBy leads at rows runs slots [] labels ts → labels ≡ []
  no_labels rows runs slots labels ts s = (none_there s.outer_rows s.outer_runs s.outer_slots labels s.outer).0

  -- a label start here is one there
  pub record HasLabel (o : OpenLabel) (labels : List scan.OpenLabel) (row_count run_count : ℕ) : Type 0 where
    pub label : scan.OpenLabel
    pub others : List scan.OpenLabel
    pub labels_are : labels ≡ label ∷ others
    pub is : IsOpen o label row_count run_count

  label_there : (rows : List InlineRow) (runs : List Run) (slots : List ℕ) (o : OpenLabel) (opens : List OpenLabel) (labels : List scan.OpenLabel)
      → AreOpen leads at rows runs slots (o ∷ opens) labels
      → HasLabel o labels (length rows - 1) (length runs)
  label_there _ _ _ _ _ _ (Inside rows more runs more_runs slots more_slots opens labels o label row outer inside is view) =
      let place : length (rows ++ more) ≡ length ((rows ++ more) ++ row ∷ []) - 1 = omega (arith, length-append (rows ++ more) (row ∷ [])) in
      record {
        label = label;
        others = labels;
        labels_are = refl;
        is = subst (λ n. IsOpen o label n (length (runs ++ more_runs))) place is;
      }

  pub has_label : (rows : List InlineRow) (runs : List Run) (slots : List ℕ) (o : OpenLabel) (opens : List OpenLabel) (labels : List scan.OpenLabel)
      (ts : List Token)
      → (s : ShowsBy leads at rows runs slots (o ∷ opens) labels ts) → HasLabel o labels (length s.outer_rows - 1) (length s.outer_runs)
  has_label rows runs slots o opens labels ts s = label_there s.outer_rows s.outer_runs s.outer_slots o opens labels s.outer

  -- ---- at the end

  abbrev pub whole_of : scan.Text → List scan.OpenLabel → scan.Text
  whole_of now labels = fold (λ inner label. with_plain_start label inner) now labels

  pub shows_whole : (opens : List OpenLabel) (rows : List InlineRow) (runs : List Run) (slots : List ℕ) (labels : List scan.OpenLabel) (now : scan.Text)
      → ShowsBy leads at rows runs slots opens labels now.tokens → IsContainer leads at rows 0 runs slots (whole_of now labels).tokens
  shows_whole [] rows runs slots labels now s =
      let none = none_there s.outer_rows s.outer_runs s.outer_slots labels s.outer in
      let e : rows ≡ s.now_rows = s.rows_are ∙ ap (λ xs. xs ++ s.now_rows) none.1 in
      let q : runs ≡ s.now_runs = s.runs_are ∙ ap (λ xs. xs ++ s.now_runs) none.2 in
      let p : slots ≡ s.now_slots = s.slots_are ∙ ap (λ xs. xs ++ s.now_slots) none.3 in
      subst (λ ls. IsContainer leads at rows 0 runs slots (whole_of now ls).tokens) (sym none.0)
      (subst (λ x. IsContainer leads at x 0 runs slots now.tokens) (sym e)
      (subst (λ x. IsContainer leads at s.now_rows 0 x slots now.tokens) (sym q)
      (subst (λ x. IsContainer leads at s.now_rows 0 s.now_runs x now.tokens) (sym p)
      (subst (λ n. IsContainer leads at s.now_rows n s.now_runs s.now_slots now.tokens) (ap length none.1) s.now))))
  shows_whole (o ∷ opens) rows runs slots labels now s =
      let there = has_label rows runs slots o opens labels now.tokens s in
      subst (λ ls. IsContainer leads at rows 0 runs slots (whole_of now ls).tokens) (sym there.labels_are)
      (shows_whole opens rows runs slots there.others (with_plain_start there.label now)
      (shows_unformed rows runs slots o opens there.label there.others now.tokens
      (subst (λ ls. ShowsBy leads at rows runs slots (o ∷ opens) ls now.tokens) there.labels_are s)))
