-- What a run becomes, and the runs of a container, as their definition has them.
use Rattle.std.proofs.Common.{◌≡◌, ◌∙◌, ℕ, zero, suc, ◌+◌, ◌<◌, Bool, true, false, cond, List, [], ◌∷◌, ◌++◌, length, get_or, drop, map, replicate, reverse, refl, sym, ap, arith}
use Rattle.std.proofs.lemmas.List.{drop-map, get_or-map, length-map}
use Rattle.definition_inline.specs.Attention.{Run as RunOf}
use Rattle.std.specs.Prelude.{◌==◌}
use Rattle.definition_inline.specs.GfmStrikethrough.{is_tilde}
use Rattle.definition_inline.specs.Mark.{is_equals}
use Rattle.definition_inline.specs.Inline as inline
use Rattle.definition_inline.specs.Inline.{Inline, Leaf, Data}
use Rattle.definition_inline.specs.Pairing.{Pair as PairOf}
use Rattle.definition_inline.specs.Spans.{span_of}
use Rattle.definition_inline.specs.SpanRows.{Closes, Holds, Opens, SpanRow}
use Rattle.inline_runs.specs.declared.pair.Pair.{Pair}
use Rattle.inline_runs.specs.declared.run.Run.{Run}
use Rattle.inline_runs.specs.declared.spans.RunSpans.{RunSpans}
use Rattle.inline_runs.specs.Paired.{BecomesRows, closed_at, opened_at, rows_of}
use Rattle.inline_runs.specs.declared.pair.Span.TheVariants.{Emphasis, Strong, Strikethrough, Mark}
use Rattle.inline_runs.specs.View.{bytes_by, pair_view, pairs_view, run_view, runs_view, span_by, span_view}
use Rattle.engine_events.specs.declared.event.Event.{Event}
use Rattle.engine_events.specs.declared.place.Point.{Point}
use Rattle.engine_edits.specs.Edits.{EditAt, with_edit}
use Rattle.state_edits_attention.specs.Attention.{SearchState, data_size, held_size, no_run, run_at, run_edits, run_events, replace_run}

-- ---- what a pair stands for

pub span_is : (marker : ℕ) (pair : Pair) → span_view (span_by marker pair.double) ≡ span_of marker (pair_view pair)
span_is marker pair = by_case (is_tilde marker) (is_equals marker) pair.double
  where
    by_case : (tilde equals double : Bool) → span_view (cond tilde Strikethrough (cond equals Mark (cond double Strong Emphasis)))
        ≡ cond tilde inline.Strikethrough (cond equals inline.Mark (cond (bytes_by double == 2) inline.Strong inline.Emphasis))
    by_case true equals double = refl
    by_case false true double = refl
    by_case false false true = refl
    by_case false false false = refl

-- ---- how many bytes are data

held_both : (xs ys : List SpanRow) → held_size (xs ++ ys) ≡ held_size xs + held_size ys
held_both [] ys = omega arith
held_both (Holds i ∷ xs) ys = omega (arith, held_both xs ys)
held_both (Opens s ∷ xs) ys = held_both xs ys
held_both (Closes ∷ xs) ys = held_both xs ys

held_starts : (marker : ℕ) (ps : List Pair) → held_size (map (λ (p : Pair). Opens (span_of marker (pair_view p))) ps) ≡ 0
held_starts marker [] = refl
held_starts marker (p ∷ ps) = held_starts marker ps

held_ends : (ps : List Pair) → held_size (map (λ (p : Pair). Closes) ps) ≡ 0
held_ends [] = refl
held_ends (p ∷ ps) = held_ends ps

held_data : (n : ℕ) (i : Inline) → held_size (replicate n (Holds i)) ≡ n
held_data zero i = refl
held_data (suc n) i = omega (arith, held_data n i)

held_text : (marker : ℕ) (s : RunSpans) → held_size (rows_of marker s) ≡ s.text
held_text marker s =
    let ends = map (λ (p : Pair). Closes) s.closed.now in
    let data_rows = replicate s.text (Holds (Leaf (Data marker))) in
    let starts = map (λ (p : Pair). Opens (span_of marker (pair_view p))) s.opened.now in
    omega (
      arith,
      held_both (ends ++ data_rows) starts,
      held_both ends data_rows,
      held_ends s.closed.now,
      held_data s.text (Leaf (Data marker)),
      held_starts marker s.opened.now,
    )

-- ---- a run

written_alike : (m n : ℕ) (c d : List PairOf) (t u : ℕ) (o q : List PairOf) (p : Point) → m ≡ n → c ≡ d → t ≡ u → o ≡ q
    → (replace_run m c t o p).events ≡ (replace_run n d u q p).events
written_alike m n c d t u o q p h i j k = rw (h, i, j, k) refl

same_marker : (runs : List Run) (k : ℕ) (d : Run) → k < length runs → (get_or runs k d).marker ≡ (run_at (runs_view runs) k).marker
same_marker runs k d less = sym (ap (λ (r : RunOf). r.marker) (get_or-map run_view runs k d no_run less))

-- what a run becomes is what it becomes by the definition
pub same_run : (runs : List Run) (k : ℕ) (d : Run) (s : RunSpans) (p : Point) → k < length runs
    → pairs_view s.closed.now ≡ closed_at k (runs_view runs) → pairs_view s.opened.now ≡ reverse (opened_at k (runs_view runs))
    → BecomesRows (runs_view runs) k s
    → (replace_run (get_or runs k d).marker (pairs_view s.closed.now) s.text (pairs_view s.opened.now) p).events ≡ run_events (runs_view runs) k p
same_run runs k d s p less closed opened rows =
    let all = runs_view runs in
    let text : s.text ≡ data_size all k = sym (held_text (run_at all k).marker s) ∙ ap held_size (rows no_run) in
    written_alike (get_or runs k d).marker (run_at all k).marker (pairs_view s.closed.now) (closed_at k all) s.text (data_size all k) (pairs_view s.opened.now)
    (reverse (opened_at k all)) p (same_marker runs k d less) closed text opened

-- ---- a container

edits_alike : (events : List Event) (these those : List ℕ) (rs qs : List RunOf) (m n : ℕ) (edits : List EditAt) → these ≡ those → rs ≡ qs → m ≡ n
    → run_edits events these rs m edits ≡ run_edits events those qs n edits
edits_alike events these those rs qs m n edits h i j = rw (h, i, j) refl

-- the runs after so many are told, seen by the definition
pub same_edits : (events : List Event) (entries these : List ℕ) (runs bs : List Run) (n : ℕ) (edits : List EditAt) → these ≡ drop n entries → bs ≡ drop n runs
    → run_edits events these (runs_view bs) (length bs) edits ≡ run_edits events (drop n entries) (drop n (runs_view runs))
    (length (drop n (runs_view runs))) edits
same_edits events entries these runs bs n edits h i =
    let view : runs_view bs ≡ drop n (runs_view runs) = ap runs_view i ∙ sym (drop-map run_view n runs) in
    let size : length bs ≡ length (drop n (runs_view runs)) = sym (length-map bs run_view) ∙ ap (λ (l : List RunOf). length l) view in
    edits_alike events these (drop n entries) (runs_view bs) (drop n (runs_view runs)) (length bs) (length (drop n (runs_view runs))) edits h view size

pub sought_alike : (a b : List ℕ) (r q : List RunOf) (s : List ℕ) (e f : List EditAt) → a ≡ b → r ≡ q → e ≡ f → let one : SearchState =
    record { entries = a; runs = r; starts = s; edits = e } in let other : SearchState = record { entries = b; runs = q; starts = s; edits = f } in one ≡ other
sought_alike a b r q s e f h i j = rw (h, i, j) refl

pub edit_alike : (at to : ℕ) (these those : List Event) (edits : List EditAt) → at ≡ to → these ≡ those
    → with_edit false at 2 these edits ≡ with_edit false to 2 those edits
edit_alike at to these those edits h i = rw (h, i) refl
