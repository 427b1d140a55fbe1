-- The runs of a container told apart one by one.
use Rattle.std.proofs.Common.{◌≡◌, ℕ, ◌+◌, ◌<◌, ◌≤◌, List, [], ◌∷◌, ◌++◌, map, refl, sym, ap, ap₂, ◌∙◌, length, get_or, take, drop, arith, subst, append_assoc}
use Rattle.inline_rows.proofs.Prelude.{append-nil, AreBytes, Bytes, drop_all, drop_at, drop_more, flat_map, flat_map-append, Inline, InlineRow, IsContainer}
use Rattle.inline_rows.proofs.Prelude.{Item, length-append, LinkTexts, NoRows, Pair, pairs, part_rows, Parts, row_view, rows_from, rows_view, Run, run_rows}
use Rattle.inline_rows.proofs.Prelude.{run_view, runs_of, runs_view, slice_index, span_row_rows, take_at, Target, Token, told_rows}
use borrow.Rule.Slice.PartMut.{put_mid}
use Rattle.inline_rows.specs.InlineRows as rows
use Rattle.inline_rows.specs.Container.{AreTold}
use Rattle.inline_rows.proofs.Container.{bytes_count, runs_are}
use Rattle.inline_rows.proofs.Depth.{emphasized_rows}
use Rattle.inline_rows.proofs.Writes.{over_part}

module _ (leads : Target → LinkTexts) (at : ℕ → LinkTexts) (ps : List Pair) where
  abbrev shown : ℕ → List Token → List rows.InlineRow
  shown place ts = told_rows leads (rows_from ps place ts)

  items_shown : (place : ℕ) (items : List Inline) (ts : List Token) → shown place (map Item items ++ ts) ≡ flat_map (part_rows leads) items ++ shown place ts
  items_shown place [] ts = refl
  items_shown place (i ∷ is) ts = ap (λ xs. part_rows leads i ++ xs) (items_shown place is ts)
      ∙ sym (append_assoc (part_rows leads i) (flat_map (part_rows leads) is) (shown place ts))

  -- the first run among rows
  record First (rows : List InlineRow) (base : ℕ) (run : Run) (runs : List Run) (slot : ℕ) (slots : List ℕ) (ts : List Token) : Type 0 where
    before : List InlineRow
    text : List InlineRow
    behind : List InlineRow
    rest : List Token
    same : rows ≡ before ++ (text ++ behind)
    here : base + length before ≡ slot
    bytes : AreBytes run.marker run.size text
    others : IsContainer leads at behind (slot + run.size) runs slots rest
    view : (place : ℕ) → shown place ts ≡ rows_view at before ++ (told_rows leads (run_rows ps place (run_view run)) ++ shown (place + 1) rest)

  first_run : (rows : List InlineRow) (base : ℕ) (run : Run) (runs : List Run) (slot : ℕ) (slots : List ℕ) (ts : List Token)
      → IsContainer leads at rows base (run ∷ runs) (slot ∷ slots) ts → First rows base run runs slot slots ts
  first_run _ _ run runs slot slots _ (Parts more rest base _ _ items tokens view c) =
      let f = first_run rest (base + length more) run runs slot slots tokens c in
      let here = f.here in
      record {
        before = more ++ f.before;
        text = f.text;
        behind = f.behind;
        rest = f.rest;
        same = ap (λ xs. more ++ xs) f.same ∙ sym (append_assoc more f.before (f.text ++ f.behind));
        here = omega (arith, length-append more f.before);
        bytes = f.bytes;
        others = f.others;
        view = λ place.
            let after = told_rows leads (run_rows ps place (run_view run)) ++ shown (place + 1) f.rest in
            items_shown place items tokens
            ∙ ap₂ (λ xs ys. xs ++ ys) (sym view) (f.view place)
            ∙ sym (append_assoc (rows_view at more) (rows_view at f.before) after)
            ∙ ap (λ xs. xs ++ after) (sym (flat_map-append (row_view at) more f.before));
      }
  first_run _ _ run runs slot slots _ (Bytes more rest base _ _ _ tokens bytes c) =
      let size : length more ≡ run.size = bytes_count leads at run.marker run.size more bytes in
      record {
        before = [];
        text = more;
        behind = rest;
        rest = tokens;
        same = refl;
        here = omega arith;
        bytes = bytes;
        others = subst (λ n. IsContainer leads at rest (base + n) runs slots tokens) size c;
        view = λ place. flat_map-append (span_row_rows leads) (run_rows ps place (run_view run)) (rows_from ps (place + 1) tokens);
      }

  -- no run is left
  no_run : (rows : List InlineRow) (base : ℕ) (slots : List ℕ) (ts : List Token) (place : ℕ) → IsContainer leads at rows base [] slots ts
      → shown place ts ≡ rows_view at rows
  no_run _ _ _ _ place (NoRows base) = refl
  no_run _ _ _ _ place (Parts more rest base _ slots items tokens view c) =
      items_shown place items tokens ∙ ap₂ (λ xs ys. xs ++ ys) (sym view) (no_run rest (base + length more) slots tokens place c)
      ∙ sym (flat_map-append (row_view at) more rest)

-- rows of which the runs up to a place are told apart
pub record IsTold (leads : Target → LinkTexts) (at : ℕ → LinkTexts) (outer : List InlineRow) (tokens : List Token) (runs : List Run) (slots : List ℕ)
    (place : ℕ)
    (rows : List InlineRow) : Type 0 where
  pub front : List InlineRow
  pub inner : List InlineRow
  pub rest : List Token
  pub same : rows ≡ (outer ++ front) ++ inner
  pub others : IsContainer leads at inner (length (outer ++ front)) (drop place runs) (drop place slots) rest
  pub view : rows_view at front ++ shown leads at (pairs (runs_view runs)) place rest ≡ shown leads at (pairs (runs_view runs)) 0 tokens

pub none_told : (leads : Target → LinkTexts) (at : ℕ → LinkTexts) (outer inner : List InlineRow) (tokens : List Token) (runs : List Run) (slots : List ℕ)
    (rows : List InlineRow)
    → rows ≡ outer ++ inner → IsContainer leads at inner (length outer) runs slots tokens → IsTold leads at outer tokens runs slots 0 rows
none_told leads at outer inner tokens runs slots rows same c =
    record {
      front = [];
      inner = inner;
      rest = tokens;
      same = same ∙ ap (λ xs. xs ++ inner) (sym (append-nil outer));
      others = subst (λ n. IsContainer leads at inner n runs slots tokens) (ap length (sym (append-nil outer))) c;
      view = refl;
    }

-- the first run that is left is written over
module _ (leads : Target → LinkTexts) (at : ℕ → LinkTexts) (outer : List InlineRow) (tokens : List Token) (runs : List Run) (slots : List ℕ) (place slot : ℕ)
    (run : Run) (rows part : List InlineRow)
    (told : IsTold leads at outer tokens runs slots place rows)
    (f : First leads at (pairs (runs_view runs)) told.inner (length (outer ++ told.front)) run (drop (place + 1) runs) slot (drop (place + 1) slots) told.rest)
  where
    here : length ((outer ++ told.front) ++ f.before) ≡ slot
    here = length-append (outer ++ told.front) f.before ∙ f.here

    whole : rows ≡ ((outer ++ told.front) ++ f.before) ++ (f.text ++ f.behind)
    whole = told.same ∙ ap (λ xs. (outer ++ told.front) ++ xs) f.same ∙ sym (append_assoc (outer ++ told.front) f.before (f.text ++ f.behind))

    text_size : length f.text ≡ run.size
    text_size = bytes_count leads at run.marker run.size f.text f.bytes

    text_is : take run.size (drop slot rows) ≡ f.text
    text_is =
        ap (λ xs. take run.size (drop slot xs)) whole ∙ ap (take run.size) (drop_at ((outer ++ told.front) ++ f.before) (f.text ++ f.behind) slot here)
        ∙ take_at f.text f.behind run.size text_size

    bytes_there : AreBytes run.marker (length (take run.size (drop slot rows))) (take run.size (drop slot rows))
    bytes_there = subst (λ xs. AreBytes run.marker (length xs) xs) (sym text_is) (subst (λ n. AreBytes run.marker n f.text) (sym text_size) f.bytes)

    front_is : outer ++ ((told.front ++ f.before) ++ part) ≡ ((outer ++ told.front) ++ f.before) ++ part
    front_is = sym (append_assoc outer (told.front ++ f.before) part) ∙ ap (λ xs. xs ++ part) (sym (append_assoc outer told.front f.before))

    written : put_mid slot run.size rows part ≡ (outer ++ ((told.front ++ f.before) ++ part)) ++ f.behind
    written =
        ap (λ xs. put_mid slot run.size xs part) whole ∙ over_part ((outer ++ told.front) ++ f.before) f.text f.behind part slot run.size here text_size
        ∙ sym (append_assoc ((outer ++ told.front) ++ f.before) part f.behind) ∙ ap (λ xs. xs ++ f.behind) (sym front_is)

    next : length part ≡ run.size → slot + run.size ≡ length (outer ++ ((told.front ++ f.before) ++ part))
    next count =
        let place = here in
        let size = length-append ((outer ++ told.front) ++ f.before) part in
        let same : length (outer ++ ((told.front ++ f.before) ++ part)) ≡ length (((outer ++ told.front) ++ f.before) ++ part) = ap length front_is in
        omega arith

    front_view : rows_view at ((told.front ++ f.before) ++ part) ≡ (rows_view at told.front ++ rows_view at f.before) ++ rows_view at part
    front_view = flat_map-append (row_view at) (told.front ++ f.before) part
        ∙ ap (λ xs. xs ++ rows_view at part) (flat_map-append (row_view at) told.front f.before)

    all_view : rows_view at part ≡ told_rows leads (run_rows (pairs (runs_view runs)) place (run_view run))
        → rows_view at ((told.front ++ f.before) ++ part) ++ shown leads at (pairs (runs_view runs)) (place + 1) f.rest
        ≡ shown leads at (pairs (runs_view runs)) 0 tokens
    all_view is =
        let more = shown leads at (pairs (runs_view runs)) (place + 1) f.rest in
        ap (λ xs. xs ++ more) front_view ∙ append_assoc (rows_view at told.front ++ rows_view at f.before) (rows_view at part) more
        ∙ append_assoc (rows_view at told.front) (rows_view at f.before) (rows_view at part ++ more)
        ∙ ap (λ xs. rows_view at told.front ++ (rows_view at f.before ++ (xs ++ more))) is
        ∙ ap (λ xs. rows_view at told.front ++ xs) (sym (f.view place)) ∙ told.view

    written_over : length part ≡ length (take run.size (drop slot rows))
        → (AreBytes run.marker (length (take run.size (drop slot rows))) (take run.size (drop slot rows))
        → rows_view at part ≡ told_rows leads (run_rows (pairs (runs_view runs)) place (run_view run)))
        → IsTold leads at outer tokens runs slots (place + 1) (put_mid slot run.size rows part)
    written_over count part_view =
        record {
          front = (told.front ++ f.before) ++ part;
          inner = f.behind;
          rest = f.rest;
          same = written;
          others = subst (λ n. IsContainer leads at f.behind n (drop (place + 1) runs) (drop (place + 1) slots) f.rest)
              (next (count ∙ ap length text_is ∙ text_size)) f.others;
          view = all_view (part_view bytes_there);
        }

-- one more run
pub one_told : (leads : Target → LinkTexts) (at : ℕ → LinkTexts) (outer : List InlineRow) (tokens : List Token) (runs : List Run) (slots : List ℕ) (place : ℕ)
    (d : Run) (rows part : List InlineRow)
    → place < length runs → length slots ≡ length runs → length part ≡ length (take (get_or runs place d).size (drop (slice_index slots place) rows))
    → (AreBytes (get_or runs place d).marker (length (take (get_or runs place d).size (drop (slice_index slots place) rows)))
    (take (get_or runs place d).size (drop (slice_index slots place) rows))
    → rows_view at part ≡ told_rows leads (run_rows (pairs (runs_view runs)) place (run_view (get_or runs place d))))
    → IsTold leads at outer tokens runs slots place rows
    → IsTold leads at outer tokens runs slots (place + 1) (put_mid (slice_index slots place) (get_or runs place d).size rows part)
one_told leads at outer tokens runs slots place d rows part lt same_count count part_view told =
    let base = length (outer ++ told.front) in
    let cut_runs = drop_more runs place d lt in
    let cut_slots = drop_more slots place 0 (omega arith) in
    written_over leads at outer tokens runs slots place (slice_index slots place) (get_or runs place d) rows part told
    (first_run leads at (pairs (runs_view runs)) told.inner base (get_or runs place d) (drop (place + 1) runs) (slice_index slots place)
    (drop (place + 1) slots) told.rest
    (subst (λ rs. IsContainer leads at told.inner base rs (slice_index slots place ∷ drop (place + 1) slots) told.rest) cut_runs
    (subst (λ ss. IsContainer leads at told.inner base (drop place runs) ss told.rest) cut_slots told.others)))
    count part_view

-- all runs
pub all_told : (leads : Target → LinkTexts) (at : ℕ → LinkTexts) (outer inner : List InlineRow) (tokens : List Token) (runs : List Run) (slots : List ℕ)
    (place : ℕ)
    (rows : List InlineRow)
    → length runs ≤ place → IsContainer leads at inner (length outer) runs slots tokens → IsTold leads at outer tokens runs slots place rows
    → AreTold leads at outer tokens rows
all_told leads at outer inner tokens runs slots place rows past c told =
    let ps = pairs (runs_view runs) in
    let none : IsContainer leads at told.inner (length (outer ++ told.front)) [] (drop place slots) told.rest =
    subst (λ rs. IsContainer leads at told.inner (length (outer ++ told.front)) rs (drop place slots) told.rest) (drop_all place runs past) told.others in
    let whole : rows ≡ outer ++ (told.front ++ told.inner) = told.same ∙ append_assoc outer told.front told.inner in
    let paired : pairs (runs_of tokens) ≡ ps = ap pairs (runs_are leads at inner (length outer) runs slots tokens c) in
    record {
      before = ap (take (length outer)) whole ∙ take_at outer (told.front ++ told.inner) (length outer) refl;
      told =
          ap (λ xs. rows_view at (drop (length outer) xs)) whole
          ∙ ap (rows_view at) (drop_at outer (told.front ++ told.inner) (length outer) refl)
          ∙ flat_map-append (row_view at) told.front told.inner
          ∙ ap (λ xs. rows_view at told.front ++ xs)
          (sym (no_run leads at ps told.inner (length (outer ++ told.front)) (drop place slots) told.rest place none))
          ∙ told.view
          ∙ ap (λ qs. shown leads at qs 0 tokens) (sym paired)
          ∙ sym (emphasized_rows leads tokens);
    }

-- of any container that the rows may have been
pub record IsToldWhere (old : List InlineRow) (runs : List Run) (slots : List ℕ) (place : ℕ) (rows : List InlineRow) : Type 0 where
  pub count : length rows ≡ length old
  pub told : (leads : Target → LinkTexts) (at : ℕ → LinkTexts) (outer inner : List InlineRow) (tokens : List Token) → old ≡ outer ++ inner
      → IsContainer leads at inner (length outer) runs slots tokens → IsTold leads at outer tokens runs slots place rows
