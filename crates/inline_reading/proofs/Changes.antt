-- What a change of the rows, the runs and the label starts does to what is read.
use Rattle.std.proofs.Common.{◌≡◌, ℕ, zero, suc, ◌+◌, ◌-◌, ◌<◌, ◌≤◌, Bool, List, [], ◌∷◌, ◌++◌, map, refl, sym, ap, ap₂, ◌∙◌, length, arith, subst, reverse}
use Rattle.std.proofs.Common.{take, drop, set}
use Rattle.std.specs.Prelude.{◌||◌, false, true}
use Rattle.std.proofs.lemmas.Bool.{false≢true}
use Rattle.std.specs.Prelude.{replicate}
use Rattle.std.specs.List.{flat_map}
use Rattle.std.proofs.lemmas.List.{length-append, reverse-append, take_all, length-drop}
use Rattle.definition_inline.specs.Inline.{Target, InlineLeaf}
use Rattle.definition_inline.specs.Inline as inline
use Rattle.inline_rows.specs.InlineRows as seen
use Rattle.inline_rows.specs.InlineRows.{part_rows}
use Rattle.definition_inline.specs.Scan as scan
use Rattle.definition_inline.specs.Scan.{start_bytes, label_part, makes_link}
use Rattle.definition_inline.specs.LabelEnd.{LinkTail, LinkOrCall, Leads, Calls}
use Rattle.definition_inline.specs.Spans.{Token, Item, Delimiters, with_spans}
use Rattle.inline_leaves.specs.Leaves.{leaf_items}
use Rattle.inline_runs.specs.View.{run_view}
use Rattle.inline_runs.specs.declared.run.Run.{Run}
use Rattle.inline_rows.specs.View.{rows_view, row_view, data_rows, target_texts}
use Rattle.inline_rows.specs.declared.row.InlineRow.{InlineRow}
use Rattle.inline_rows.specs.declared.row.InlineRow.TheVariants.{Exit}
use Rattle.inline_rows.specs.declared.row.LinkTarget.{LinkTarget}
use Rattle.inline_rows.specs.Container.{AreWithin, AreBytes, AreTold, text_of}
use Rattle.inline_rows.proofs.Container as container
use Rattle.inline_reading.specs.declared.label.OpenLabel.{OpenLabel}
use Rattle.inline_reading.specs.Shows.{ShowsBy, IsOpen, AreOutside, unformed_in, formed_in, start_view, enter_row}
use Rattle.inline_reading.proofs.Readings as readings
use Rattle.inline_reading.proofs.Sound as sound
use Rattle.inline_reading.proofs.Formed.{IsInner}

-- ---- places

pub record AreSound (rows : List InlineRow) (runs : List Run) (slots : List ℕ) (opens : List OpenLabel) : Type 0 where
  pub within : AreWithin runs slots (length rows)
  pub outside : AreOutside opens (length rows) runs slots

-- one more row
pub sound_pushed : (rows new : List InlineRow) (row : InlineRow) (runs : List Run) (slots : List ℕ) (opens : List OpenLabel) → new ≡ rows ++ row ∷ []
    → AreWithin runs slots (length rows) → AreOutside opens (length rows) runs slots → AreSound new runs slots opens
sound_pushed rows new row runs slots opens e w o =
    let more : length rows ≤ length new = omega (arith, ap length e, length-append rows (row ∷ [])) in
    record {
      within = sound.within_more runs slots (length rows) (length new) w more;
      outside = sound.outside_more opens (length rows) (length new) runs slots o more;
    }

-- a run
pub sound_run : (rows new more : List InlineRow) (r : Run) (runs new_runs : List Run) (slots new_slots : List ℕ) (opens : List OpenLabel) → new ≡ rows ++ more
    → length more ≡ r.size
    → new_runs ≡ runs ++ r ∷ [] → new_slots ≡ slots ++ length rows ∷ []
    → AreWithin runs slots (length rows) → AreOutside opens (length rows) runs slots → AreSound new new_runs new_slots opens
sound_run rows new more r runs new_runs slots new_slots opens e size p q w o =
    let count : length rows + r.size ≡ length new = omega (arith, ap length e, length-append rows more, size) in
    record {
      within =
          subst (λ x. AreWithin x new_slots (length new)) (sym p)
          (subst (λ x. AreWithin (runs ++ r ∷ []) x (length new)) (sym q)
          (subst (AreWithin (runs ++ r ∷ []) (slots ++ length rows ∷ [])) count (sound.within_run runs slots r (length rows) w)));
      outside =
          subst (λ x. AreOutside opens (length new) x new_slots) (sym p)
          (subst (AreOutside opens (length new) (runs ++ r ∷ [])) (sym q)
          (sound.outside_run opens (length rows) (length new) (length rows) r runs slots w.same o (omega (arith, count))));
    }

-- the innermost label start is gone
pub popped : (all rest : List OpenLabel) (o : OpenLabel) → all ≡ rest ++ o ∷ [] → reverse all ≡ o ∷ reverse rest
popped all rest o e = ap reverse e ∙ reverse-append rest (o ∷ [])

-- a label start
pub sound_start : (rows new : List InlineRow) (row : InlineRow) (runs : List Run) (slots : List ℕ) (o : OpenLabel) (opens : List OpenLabel)
    → new ≡ rows ++ row ∷ []
    → o.row ≡ length rows → o.runs ≡ length runs
    → AreWithin runs slots (length rows) → AreOutside opens (length rows) runs slots → AreSound new runs slots (o ∷ opens)
sound_start rows new row runs slots o opens e at count w out =
    let more : length new ≡ length rows + 1 = ap length e ∙ length-append rows (row ∷ []) in
    let runs_are = take_all o.runs runs (omega (arith, count)) in
    let slots_are = take_all o.runs slots (omega (arith, count, w.same)) in
    record {
      within = sound.within_more runs slots (length rows) (length new) w (omega (arith, more));
      outside = (
        omega (arith, more, at),
        omega (arith, count),
        subst (AreWithin (take o.runs runs) (take o.runs slots)) (sym at)
            (subst (λ x. AreWithin x (take o.runs slots) (length rows)) (sym runs_are) (subst (λ x. AreWithin runs x (length rows)) (sym slots_are) w)),
        subst (λ n. AreOutside opens n (take o.runs runs) (take o.runs slots)) (sym at)
            (subst (λ x. AreOutside opens (length rows) x (take o.runs slots)) (sym runs_are)
            (subst (AreOutside opens (length rows) runs) (sym slots_are) out)),
      );
    }

-- the same among the label starts
pub sound_started : (rows new : List InlineRow) (row : InlineRow) (runs : List Run) (slots : List ℕ) (all more : List OpenLabel) (o : OpenLabel)
    → new ≡ rows ++ row ∷ [] → more ≡ all ++ o ∷ []
    → o.row ≡ length rows → o.runs ≡ length runs
    → AreWithin runs slots (length rows) → AreOutside (reverse all) (length rows) runs slots → AreSound new runs slots (reverse more)
sound_started rows new row runs slots all more o e p at count w out =
    subst (AreSound new runs slots) (sym (popped more all o p)) (sound_start rows new row runs slots o (reverse all) e at count w out)

pub sound_popped : (rows : List InlineRow) (runs : List Run) (slots : List ℕ) (all rest : List OpenLabel) (o : OpenLabel) → all ≡ rest ++ o ∷ []
    → AreOutside (reverse all) (length rows) runs slots → AreOutside (o ∷ reverse rest) (length rows) runs slots
sound_popped rows runs slots all rest o e out = subst (λ os. AreOutside os (length rows) runs slots) (popped all rest o e) out

pub sound_unformed : (rows : List InlineRow) (runs : List Run) (slots : List ℕ) (o : OpenLabel) (opens : List OpenLabel)
    → AreWithin runs slots (length rows) → AreOutside (o ∷ opens) (length rows) runs slots → AreSound rows runs slots opens
sound_unformed rows runs slots o opens w out = record {
  within = w;
  outside = sound.outside_popped o opens (length rows) runs slots out;
}

-- what is formed takes a row at least
pub sound_formed : (rows new : List InlineRow) (runs : List Run) (slots : List ℕ) (o : OpenLabel) (opens : List OpenLabel) → o.row < length new
    → AreOutside (o ∷ opens) (length rows) runs slots → AreSound new (take o.runs runs) (take o.runs slots) opens
sound_formed rows new runs slots o opens size out = record {
  within = sound.within_more (take o.runs runs) (take o.runs slots) o.row (length new) out.2 (omega (arith, size));
  outside = sound.outside_more opens o.row (length new) (take o.runs runs) (take o.runs slots) out.3 (omega (arith, size));
}

-- a slice to the end
pub slice_from : {A : Type 0} → (xs ys : List A) (k : ℕ) → xs ≡ ys → take (length xs - k) (drop k xs) ≡ drop k ys
slice_from xs ys k e = take_all (length xs - k) (drop k xs) (omega (arith, length-drop k xs)) ∙ ap (drop k) e

-- nothing was there to take
pub nothing_there : {A : Type 0} → (xs : List A) (n : ℕ) → n ≡ length xs → (0 < n → false ≡ true) → xs ≡ []
nothing_there [] n e none = refl
nothing_there (x ∷ xs) n e none = absurd (false≢true (none (omega (arith, e))))

-- rows of one byte
pub bytes_rows : (b n : ℕ) (row : InlineRow) → text_of row ≡ b ∷ [] → AreBytes b n (replicate n row)
bytes_rows b zero row e = refl
bytes_rows b (suc n) row e = ap₂ (λ x xs. x ∷ xs) e (bytes_rows b n row e)

-- ---- what is read

module _ (leads : Target → inline.LinkTexts) (at : ℕ → inline.LinkTexts) where
  pub leaves_pushed : (rows new : List InlineRow) (row : InlineRow) (runs : List Run) (slots : List ℕ) (opens : List OpenLabel) (labels : List scan.OpenLabel)
      (ts : List Token) (parts : List InlineLeaf)
      → new ≡ rows ++ row ∷ [] → ShowsBy leads at rows runs slots opens labels ts → row_view at row ≡ map seen.Part parts
      → ShowsBy leads at new runs slots opens labels (ts ++ leaf_items parts)
  leaves_pushed rows new row runs slots opens labels ts parts e s view =
      subst (λ rs. ShowsBy leads at rs runs slots opens labels (ts ++ leaf_items parts)) (sym e)
      (readings.shows_items leads at rows (row ∷ []) runs slots opens labels ts (map inline.Leaf parts) s (container.leaf_row leads at row parts view))

  pub run_pushed : (rows new : List InlineRow) (row : InlineRow) (r : Run) (runs new_runs : List Run) (slots new_slots : List ℕ) (opens : List OpenLabel)
      (labels : List scan.OpenLabel) (ts : List Token)
      → new ≡ rows ++ replicate r.size row → text_of row ≡ r.marker ∷ [] → new_runs ≡ runs ++ r ∷ [] → new_slots ≡ slots ++ length rows ∷ []
      → ShowsBy leads at rows runs slots opens labels ts
      → ShowsBy leads at new new_runs new_slots opens labels (ts ++ Delimiters (run_view r) ∷ [])
  run_pushed rows new row r runs new_runs slots new_slots opens labels ts e byte p q s =
      let bytes = bytes_rows r.marker r.size row byte in
      subst (λ x. ShowsBy leads at x new_runs new_slots opens labels (ts ++ Delimiters (run_view r) ∷ [])) (sym e)
      (subst (λ x. ShowsBy leads at (rows ++ replicate r.size row) x new_slots opens labels (ts ++ Delimiters (run_view r) ∷ [])) (sym p)
      (subst (λ x. ShowsBy leads at (rows ++ replicate r.size row) (runs ++ r ∷ []) x opens labels (ts ++ Delimiters (run_view r) ∷ [])) (sym q)
      (readings.shows_run leads at rows (replicate r.size row) runs slots opens labels ts r s bytes)))

  pub start_pushed : (rows new : List InlineRow) (row : InlineRow) (runs : List Run) (slots : List ℕ) (all more : List OpenLabel) (o : OpenLabel)
      (label : scan.OpenLabel) (labels : List scan.OpenLabel)
      → new ≡ rows ++ row ∷ [] → more ≡ all ++ o ∷ [] → IsOpen o label (length rows) (length runs) → row_view at row ≡ data_rows (start_bytes label.start)
      → ShowsBy leads at rows runs slots (reverse all) labels label.outer.tokens
      → ShowsBy leads at new runs slots (reverse more) (label ∷ labels) []
  start_pushed rows new row runs slots all more o label labels e p is view s =
      subst (λ x. ShowsBy leads at x runs slots (reverse more) (label ∷ labels) []) (sym e)
      (subst (λ x. ShowsBy leads at (rows ++ row ∷ []) runs slots x (label ∷ labels) []) (sym (popped more all o p))
      (readings.shows_start leads at rows row runs slots (reverse all) labels o label s is view))

  -- what shows a reading whose text stands inside of these labels
  pub record IsShown (rows : List InlineRow) (runs : List Run) (slots : List ℕ) (opens : List OpenLabel) (holds_link : Bool) (r : scan.Reading) : Type 0 where
    pub by : ShowsBy leads at rows runs slots opens r.open_labels r.now.tokens
    pub holds_link_is : holds_link ≡ r.now.holds_link

  -- the innermost label start forms nothing
  pub last_unformed : (rows : List InlineRow) (runs : List Run) (slots : List ℕ) (all rest : List OpenLabel) (o : OpenLabel) (labels : List scan.OpenLabel)
      (now : scan.Text) (holds_link : Bool)
      → all ≡ rest ++ o ∷ [] → holds_link ≡ now.holds_link → ShowsBy leads at rows runs slots (reverse all) labels now.tokens
      → IsShown rows runs slots (reverse rest) (o.holds_link || holds_link) (unformed_in labels now)
  last_unformed rows runs slots all rest o labels now holds_link e same s =
      let s2 = subst (λ os. ShowsBy leads at rows runs slots os labels now.tokens) (popped all rest o e) s in
      let there = readings.has_label leads at rows runs slots o (reverse rest) labels now.tokens s2 in
      subst (λ ls. IsShown rows runs slots (reverse rest) (o.holds_link || holds_link) (unformed_in ls now)) (sym there.labels_are)
      (record {
        by =
            readings.shows_unformed leads at rows runs slots o (reverse rest) there.label there.others now.tokens
            (subst (λ ls. ShowsBy leads at rows runs slots (o ∷ reverse rest) ls now.tokens) there.labels_are s2);
        holds_link_is = ap₂ (λ a b. a || b) there.is.holds_link same;
      })

  -- no label start is open
  pub none_unformed : (rows : List InlineRow) (runs : List Run) (slots : List ℕ) (all rest : List OpenLabel) (labels : List scan.OpenLabel) (now : scan.Text)
      (holds_link : Bool)
      → all ≡ [] → rest ≡ [] → holds_link ≡ now.holds_link → ShowsBy leads at rows runs slots (reverse all) labels now.tokens
      → IsShown rows runs slots (reverse rest) holds_link (unformed_in labels now)
  none_unformed rows runs slots all rest labels now holds_link e none same s =
      let s2 = subst (λ os. ShowsBy leads at rows runs slots (reverse os) labels now.tokens) e s in
      let no = readings.no_labels leads at rows runs slots labels now.tokens s2 in
      subst (λ ls. IsShown rows runs slots (reverse rest) holds_link (unformed_in ls now)) (sym no)
      (record {
        by =
            subst (λ os. ShowsBy leads at rows runs slots (reverse os) [] now.tokens) (sym none)
            (subst (λ ls. ShowsBy leads at rows runs slots [] ls now.tokens) no s2);
        holds_link_is = same;
      })

  -- the innermost label start forms a link or an image
  pub last_formed : (rows all new : List InlineRow) (runs new_runs : List Run) (slots new_slots : List ℕ) (o : OpenLabel) (opens : List OpenLabel)
      (labels : List scan.OpenLabel) (now : scan.Text)
      (target : LinkTarget) (e : LinkTail) (holds_link : Bool) (enter : InlineRow) (makes : Bool)
      → (inner : IsInner leads at rows runs slots o opens labels now.tokens) → target_texts at target ≡ leads e.target
      → AreTold leads at inner.outer_rows now.tokens all
      → new ≡ set all o.row enter ++ Exit ∷ [] → enter ≡ enter_row o.start target → new_runs ≡ take o.runs runs → new_slots ≡ take o.runs slots
      → holds_link ≡ (o.holds_link || makes) → makes ≡ makes_link (start_view o.start) now.holds_link
      → IsShown new new_runs new_slots opens holds_link (formed_in (Leads e) labels now)
  last_formed rows all new runs new_runs slots new_slots o opens labels now target e holds_link enter makes inner there told new_is enter_is runs_are slots_are
      holds makes_is =
      let more = inner.label.outer.tokens ++ Item (label_part inner.label.start e.target (with_spans now.tokens)) ∷ [] in
      let made = set all o.row (enter_row o.start target) ++ Exit ∷ [] in
      subst (λ ls. IsShown new new_runs new_slots opens holds_link (formed_in (Leads e) ls now)) (sym inner.labels_are)
      (record {
        by =
            subst (λ x. ShowsBy leads at x new_runs new_slots opens inner.others more) (sym (new_is ∙ ap (λ x. set all o.row x ++ Exit ∷ []) enter_is))
            (subst (λ x. ShowsBy leads at made x new_slots opens inner.others more) (sym runs_are)
            (subst (λ x. ShowsBy leads at made (take o.runs runs) x opens inner.others more) (sym slots_are) (inner.formed target e.target all there told)));
        holds_link_is =
            holds ∙ ap (λ b. o.holds_link || b) makes_is
            ∙ ap₂ (λ a b. a || makes_link b now.holds_link) inner.holds_link inner.start;
      })

  -- the innermost label start forms a call
  pub last_called : (rows new : List InlineRow) (runs new_runs : List Run) (slots new_slots : List ℕ) (o : OpenLabel) (opens : List OpenLabel)
      (labels : List scan.OpenLabel) (now : scan.Text)
      (call : InlineRow) (label : List ℕ) (holds_link : Bool) (makes : Bool)
      → (inner : IsInner leads at rows runs slots o opens labels now.tokens) → rows_view at (call ∷ []) ≡ flat_map (part_rows leads) (inline.Call label ∷ [])
      → new ≡ take o.row rows ++ call ∷ [] → new_runs ≡ take o.runs runs → new_slots ≡ take o.runs slots
      → holds_link ≡ (o.holds_link || makes) → makes ≡ makes_link (start_view o.start) now.holds_link
      → IsShown new new_runs new_slots opens holds_link (formed_in (Calls label) labels now)
  last_called rows new runs new_runs slots new_slots o opens labels now call label holds_link makes inner view new_is runs_are slots_are holds makes_is =
      let more = inner.label.outer.tokens ++ Item (inline.Call label) ∷ [] in
      let made = take o.row rows ++ call ∷ [] in
      subst (λ ls. IsShown new new_runs new_slots opens holds_link (formed_in (Calls label) ls now)) (sym inner.labels_are)
      (record {
        by =
            subst (λ x. ShowsBy leads at x new_runs new_slots opens inner.others more) (sym new_is)
            (subst (λ x. ShowsBy leads at made x new_slots opens inner.others more) (sym runs_are)
            (subst (λ x. ShowsBy leads at made (take o.runs runs) x opens inner.others more) (sym slots_are) (inner.called call label view)));
        holds_link_is =
            holds ∙ ap (λ b. o.holds_link || b) makes_is
            ∙ ap₂ (λ a b. a || makes_link b now.holds_link) inner.holds_link inner.start;
      })

  pub none_formed : (rows : List InlineRow) (runs : List Run) (slots : List ℕ) (all rest : List OpenLabel) (labels : List scan.OpenLabel) (now : scan.Text)
      (found : LinkOrCall) (holds_link : Bool)
      → all ≡ [] → rest ≡ [] → holds_link ≡ now.holds_link → ShowsBy leads at rows runs slots (reverse all) labels now.tokens
      → IsShown rows runs slots (reverse rest) holds_link (formed_in found labels now)
  none_formed rows runs slots all rest labels now found holds_link e none same s =
      let s2 = subst (λ os. ShowsBy leads at rows runs slots (reverse os) labels now.tokens) e s in
      let no = readings.no_labels leads at rows runs slots labels now.tokens s2 in
      subst (λ ls. IsShown rows runs slots (reverse rest) holds_link (formed_in found ls now)) (sym no)
      (record {
        by =
            subst (λ os. ShowsBy leads at rows runs slots (reverse os) [] now.tokens) (sym none)
            (subst (λ ls. ShowsBy leads at rows runs slots [] ls now.tokens) no s2);
        holds_link_is = same;
      })
