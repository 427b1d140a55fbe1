-- A link, an image or a call is formed.
use Rattle.std.proofs.Common.{◌≡◌, ℕ, ◌+◌, List, [], ◌∷◌, ◌++◌, refl, sym, ap, ap₂, ◌∙◌, length, subst, append_assoc, take, drop, set}
use Rattle.std.specs.List.{flat_map}
use Rattle.std.proofs.lemmas.List.{append-nil, length-append, take_at, drop_at}
use Rattle.std.proofs.lemmas.List.{take-append-drop}
use Rattle.std.proofs.Math.Seq.{set-append_seam}
use Rattle.std.proofs.lemmas.List.Concat.{flat_map-append}
use Rattle.definition_inline.specs.Inline.{Target, Inlines}
use Rattle.definition_inline.specs.Inline as inline
use Rattle.inline_rows.specs.InlineRows as rows
use Rattle.inline_rows.specs.InlineRows.{part_rows, inline_rows}
use Rattle.definition_inline.specs.Scan as scan
use Rattle.definition_inline.specs.Scan.{label_part, started_kind}
use Rattle.definition_inline.specs.Spans.{Token, Item, with_spans}
use Rattle.inline_runs.specs.declared.run.Run.{Run}
use Rattle.inline_rows.specs.View.{rows_view, row_view, target_texts}
use Rattle.inline_rows.specs.declared.row.LinkTarget.{LinkTarget}
use Rattle.inline_rows.specs.declared.row.InlineRow.{InlineRow}
use Rattle.inline_rows.specs.declared.row.InlineRow.TheVariants.{Exit}
use Rattle.inline_rows.specs.Container.{IsContainer, AreTold}
use Rattle.inline_rows.proofs.Container as container
use Rattle.inline_reading.specs.declared.label.LabelStart.{LabelStart}
use Rattle.inline_reading.specs.declared.label.LabelStart.TheVariants as start
use Rattle.inline_reading.specs.declared.label.OpenLabel.{OpenLabel}
use Rattle.inline_reading.specs.Shows.{AreOpen, NoneOpen, Inside, ShowsBy, start_view, enter_row}
use Rattle.inline_reading.proofs.Readings.{has_label}

module _ (leads : Target → inline.LinkTexts) (at : ℕ → inline.LinkTexts) where
  -- the row that starts what is formed
  enter_view : (s : LabelStart) (target : LinkTarget)
      → row_view at (enter_row s target) ≡ rows.EnterLinked (started_kind (start_view s)) (target_texts at target) ∷ []
  enter_view start.Link target = refl
  enter_view start.Image target = refl

  -- the rows of what is formed
  formed_rows : (s : LabelStart) (target : LinkTarget) (t : Target) (told : List InlineRow) (kids : Inlines) → target_texts at target ≡ leads t
      → rows_view at told ≡ inline_rows leads kids
      → rows_view at (enter_row s target ∷ (told ++ Exit ∷ [])) ≡ flat_map (part_rows leads) (label_part (start_view s) t kids ∷ [])
  formed_rows s target t told kids e is =
      let enter = rows.EnterLinked (started_kind (start_view s)) in
      ap₂ (λ xs ys. xs ++ ys) (enter_view s target ∙ ap (λ l. enter l ∷ []) e)
      (flat_map-append (row_view at) told (Exit ∷ []) ∙ ap (λ xs. xs ++ rows.Leave ∷ []) is)
      ∙ sym (append-nil (enter (leads t) ∷ (inline_rows leads kids ++ rows.Leave ∷ [])))

  -- rows that are told apart after some others, where the last of those is put for another and one more follows
  put_rows : (outer : List InlineRow) (row enter exit : InlineRow) (told all : List InlineRow) → all ≡ (outer ++ row ∷ []) ++ told
      → set all (length outer) enter ++ exit ∷ [] ≡ outer ++ (enter ∷ (told ++ exit ∷ []))
  put_rows outer row enter exit told all is =
      ap (λ xs. xs ++ exit ∷ [])
      (ap (λ xs. set xs (length outer) enter) (is ∙ append_assoc outer (row ∷ []) told) ∙ set-append_seam outer row told enter)
      ∙ append_assoc outer (enter ∷ told) (exit ∷ [])

  form_outer : (outer_rows : List InlineRow) (outer_runs : List Run) (outer_slots : List ℕ) (o : OpenLabel) (opens : List OpenLabel) (label : scan.OpenLabel)
      (labels : List scan.OpenLabel)
      (target : LinkTarget) (t : Target) (all : List InlineRow) (kids : Inlines)
      → AreOpen leads at outer_rows outer_runs outer_slots (o ∷ opens) (label ∷ labels) → target_texts at target ≡ leads t
      → take (length outer_rows) all ≡ outer_rows → rows_view at (drop (length outer_rows) all) ≡ inline_rows leads kids
      → ShowsBy leads at (set all o.row (enter_row o.start target) ++ Exit ∷ []) outer_runs outer_slots opens labels
      (label.outer.tokens ++ Item (label_part label.start t kids) ∷ [])
  form_outer _ _ _ _ _ _ _ target t all kids (Inside rows more runs more_runs slots more_slots opens labels o label row outer inside is view) leads_there before
      told =
      let inner = drop (length ((rows ++ more) ++ row ∷ [])) all in
      let split : all ≡ ((rows ++ more) ++ row ∷ []) ++ inner =
      sym (take-append-drop (length ((rows ++ more) ++ row ∷ [])) all) ∙ ap (λ xs. xs ++ inner) before in
      let enter = enter_row o.start target in
      let part = label_part label.start t kids in
      let made : rows_view at (enter ∷ (inner ++ Exit ∷ [])) ≡ flat_map (part_rows leads) (part ∷ []) =
      formed_rows o.start target t inner kids leads_there told ∙ ap (λ s. flat_map (part_rows leads) (label_part s t kids ∷ [])) is.start in
      record {
        outer_rows = rows;
        now_rows = more ++ (enter ∷ (inner ++ Exit ∷ []));
        outer_runs = runs;
        now_runs = more_runs;
        outer_slots = slots;
        now_slots = more_slots;
        rows_are =
            ap (λ n. set all n enter ++ Exit ∷ []) is.row ∙ put_rows (rows ++ more) row enter Exit inner all split
            ∙ append_assoc rows more (enter ∷ (inner ++ Exit ∷ []));
        runs_are = refl;
        slots_are = refl;
        outer = outer;
        now = container.items leads at more (enter ∷ (inner ++ Exit ∷ [])) (length rows) more_runs more_slots label.outer.tokens (part ∷ []) inside made;
      }

  -- rows up to a label start, and one in place of it and of those after it
  call_outer : (outer_rows now_rows : List InlineRow) (outer_runs : List Run) (outer_slots : List ℕ) (o : OpenLabel) (opens : List OpenLabel)
      (label : scan.OpenLabel) (labels : List scan.OpenLabel)
      (call : InlineRow) (name : List ℕ)
      → AreOpen leads at outer_rows outer_runs outer_slots (o ∷ opens) (label ∷ labels)
      → rows_view at (call ∷ []) ≡ flat_map (part_rows leads) (inline.Call name ∷ [])
      → ShowsBy leads at (take o.row (outer_rows ++ now_rows) ++ call ∷ []) outer_runs outer_slots opens labels
      (label.outer.tokens ++ Item (inline.Call name) ∷ [])
  call_outer _ now_rows _ _ _ _ _ _ call name (Inside rows more runs more_runs slots more_slots opens labels o label row outer inside is view) made = record {
    outer_rows = rows;
    now_rows = more ++ call ∷ [];
    outer_runs = runs;
    now_runs = more_runs;
    outer_slots = slots;
    now_slots = more_slots;
    rows_are =
        ap₂ (λ n xs. take n xs ++ call ∷ []) is.row (append_assoc (rows ++ more) (row ∷ []) now_rows)
        ∙ ap (λ xs. xs ++ call ∷ []) (take_at (rows ++ more) (row ∷ now_rows) (length (rows ++ more)) refl)
        ∙ append_assoc rows more (call ∷ []);
    runs_are = refl;
    slots_are = refl;
    outer = outer;
    now = container.items leads at more (call ∷ []) (length rows) more_runs more_slots label.outer.tokens (inline.Call name ∷ []) inside made;
  }

  -- so many runs and slots stand outside
  outer_counts : (rows : List InlineRow) (runs : List Run) (slots : List ℕ) (opens : List OpenLabel) (labels : List scan.OpenLabel)
      → AreOpen leads at rows runs slots opens labels
      → length slots ≡ length runs
  outer_counts _ _ _ _ _ NoneOpen = refl
  outer_counts _ _ _ _ _ (Inside rows more runs more_runs slots more_slots opens labels o label row outer inside is view) =
      length-append slots more_slots ∙ ap₂ (λ a b. a + b) (outer_counts rows runs slots opens labels outer)
      (container.slots_are leads at more (length rows) more_runs more_slots label.outer.tokens inside)
      ∙ sym (length-append runs more_runs)

  take_front : {A : Type 0} → (xs ys zs : List A) (n : ℕ) → xs ≡ ys ++ zs → n ≡ length ys → take n xs ≡ ys
  take_front xs ys zs n e p = ap₂ take p e ∙ take_at ys zs (length ys) refl

  drop_front : {A : Type 0} → (xs ys zs : List A) (n : ℕ) → xs ≡ ys ++ zs → n ≡ length ys → drop n xs ≡ zs
  drop_front xs ys zs n e p = ap₂ drop p e ∙ drop_at ys zs (length ys) refl

  -- what is to be told apart where the innermost label start forms something
  pub record IsInner (rows : List InlineRow) (runs : List Run) (slots : List ℕ) (o : OpenLabel) (opens : List OpenLabel) (labels : List scan.OpenLabel)
      (tokens : List Token) : Type 0 where
    pub outer_rows : List InlineRow
    pub inner_rows : List InlineRow
    pub label : scan.OpenLabel
    pub others : List scan.OpenLabel
    pub labels_are : labels ≡ label ∷ others
    pub holds_link : o.holds_link ≡ label.outer.holds_link
    pub start : start_view o.start ≡ label.start
    pub rows_are : rows ≡ outer_rows ++ inner_rows
    pub inner : IsContainer leads at inner_rows (length outer_rows) (drop o.runs runs) (drop o.runs slots) tokens
    pub formed : (target : LinkTarget) (t : Target) (all : List InlineRow) → target_texts at target ≡ leads t → AreTold leads at outer_rows tokens all
        → ShowsBy leads at (set all o.row (enter_row o.start target) ++ Exit ∷ []) (take o.runs runs) (take o.runs slots) opens others
        (label.outer.tokens ++ Item (label_part label.start t (with_spans tokens)) ∷ [])
    pub called : (call : InlineRow) (name : List ℕ) → rows_view at (call ∷ []) ≡ flat_map (part_rows leads) (inline.Call name ∷ [])
        → ShowsBy leads at (take o.row rows ++ call ∷ []) (take o.runs runs) (take o.runs slots) opens others
        (label.outer.tokens ++ Item (inline.Call name) ∷ [])

  pub is_inner : (rows : List InlineRow) (runs : List Run) (slots : List ℕ) (o : OpenLabel) (opens : List OpenLabel) (labels : List scan.OpenLabel)
      (tokens : List Token)
      → ShowsBy leads at rows runs slots (o ∷ opens) labels tokens → IsInner rows runs slots o opens labels tokens
  is_inner rows runs slots o opens labels tokens s =
      let there = has_label leads at rows runs slots o opens labels tokens s in
      let outer : AreOpen leads at s.outer_rows s.outer_runs s.outer_slots (o ∷ opens) (there.label ∷ there.others) =
      subst (AreOpen leads at s.outer_rows s.outer_runs s.outer_slots (o ∷ opens)) there.labels_are s.outer in
      let count = there.is.runs in
      let count2 : o.runs ≡ length s.outer_slots = count ∙ sym (outer_counts s.outer_rows s.outer_runs s.outer_slots (o ∷ opens) labels s.outer) in
      record {
        outer_rows = s.outer_rows;
        inner_rows = s.now_rows;
        label = there.label;
        others = there.others;
        labels_are = there.labels_are;
        holds_link = there.is.holds_link;
        start = there.is.start;
        rows_are = s.rows_are;
        inner =
            subst (λ x. IsContainer leads at s.now_rows (length s.outer_rows) x (drop o.runs slots) tokens)
            (sym (drop_front runs s.outer_runs s.now_runs o.runs s.runs_are count))
            (subst (λ x. IsContainer leads at s.now_rows (length s.outer_rows) s.now_runs x tokens)
            (sym (drop_front slots s.outer_slots s.now_slots o.runs s.slots_are count2)) s.now);
        formed = λ target t all leads_there told.
            let more = there.label.outer.tokens ++ Item (label_part there.label.start t (with_spans tokens)) ∷ [] in
            let made = set all o.row (enter_row o.start target) ++ Exit ∷ [] in
            subst (λ x. ShowsBy leads at made x (take o.runs slots) opens there.others more)
            (sym (take_front runs s.outer_runs s.now_runs o.runs s.runs_are count))
            (subst (λ x. ShowsBy leads at made s.outer_runs x opens there.others more)
            (sym (take_front slots s.outer_slots s.now_slots o.runs s.slots_are count2))
            (form_outer s.outer_rows s.outer_runs s.outer_slots o opens there.label there.others target t all
            (with_spans tokens) outer leads_there told.before told.told));
        called = λ call name view.
            let more = there.label.outer.tokens ++ Item (inline.Call name) ∷ [] in
            subst (λ x. ShowsBy leads at (take o.row x ++ call ∷ []) (take o.runs runs) (take o.runs slots) opens there.others more) (sym s.rows_are)
            (subst (λ x. ShowsBy leads at (take o.row (s.outer_rows ++ s.now_rows) ++ call ∷ []) x (take o.runs slots) opens there.others more)
            (sym (take_front runs s.outer_runs s.now_runs o.runs s.runs_are count))
            (subst (λ x. ShowsBy leads at (take o.row (s.outer_rows ++ s.now_rows) ++ call ∷ []) s.outer_runs x opens there.others more)
            (sym (take_front slots s.outer_slots s.now_slots o.runs s.slots_are count2))
            (call_outer s.outer_rows s.now_rows s.outer_runs s.outer_slots o opens there.label there.others call name outer view)));
      }
