-- Pairs as the definition has them: filtered, turned round and as rows.
use Rattle.std.proofs.Common.{inl, inr, ◌≡◌, ℕ, ◌+◌, ◌-◌, ◌<◌, List, [], ◌∷◌, ◌++◌, Bool, map, refl, sym, ap, ap₂, ◌∙◌, length, get_or, reverse, replicate}
use Rattle.std.proofs.Common.{arith}
use Rattle.inline_runs.proofs.Prelude.{bytes, cases_Bool, closed_by, cond-false, cond-true, Ends, filter, get_or-map, IsEnds, IsLaid, length-map, opened_by}
use Rattle.inline_runs.proofs.Prelude.{Pair, pair_bytes, PairOf, pairs, pairs_view, reverse-append, Run, run_sizes, run_view, RunLayout, RunOf, runs_view}
use Rattle.inline_runs.proofs.Prelude.{slice_index, slice_range, sum_by-cons, text_at, ◌==◌}
use Rattle.std.proofs.lemmas.List.{map-append}
use Rattle.definition_inline.specs.Inline.{Leaf, Data}
use Rattle.definition_inline.specs.Spans.{span_of}
use Rattle.definition_inline.specs.SpanRows.{Holds, Opens, Closes, bytes_taken, run_rows}
use Rattle.inline_runs.specs.View.{pair_view}

filter_view : (f : PairOf → Bool) (ps : List Pair) → filter f (pairs_view ps) ≡ pairs_view (filter (λ (p : Pair). f (pair_view p)) ps)
filter_view f [] = refl
filter_view f (p ∷ ps) = elim (cases_Bool (f (pair_view p))) [
  | inl kept ↦
      cond-true (f (pair_view p)) _ _ kept ∙ ap (λ qs. pair_view p ∷ qs) (filter_view f ps)
      ∙ ap pairs_view (sym (cond-true (f (pair_view p)) (p ∷ filter (λ (q : Pair). f (pair_view q)) ps) _ kept))
  | inr dropped ↦
      cond-false (f (pair_view p)) _ _ dropped ∙ filter_view f ps
      ∙ ap pairs_view (sym (cond-false (f (pair_view p)) (p ∷ filter (λ (q : Pair). f (pair_view q)) ps) _ dropped))
]

reverse_view : (ps : List Pair) → pairs_view (reverse ps) ≡ reverse (pairs_view ps)
reverse_view [] = refl
reverse_view (p ∷ ps) =
    ap pairs_view (reverse-append (p ∷ []) ps) ∙ map-append pair_view (reverse ps) (p ∷ []) ∙ ap (λ qs. qs ++ pair_view p ∷ []) (reverse_view ps)
    ∙ sym (reverse-append (pair_view p ∷ []) (pairs_view ps))

bytes_view : (ps : List Pair) → bytes_taken (pairs_view ps) ≡ bytes ps
bytes_view [] = refl
bytes_view (p ∷ ps) =
    sum_by-cons (λ (q : PairOf). q.taken) (pair_view p) (pairs_view ps) ∙ ap (λ n. pair_bytes p + n) (bytes_view ps) ∙ sym (sum_by-cons pair_bytes p ps)

closes_view : (ps : List Pair) → map (λ (p : PairOf). Closes) (pairs_view ps) ≡ map (λ (p : Pair). Closes) ps
closes_view [] = refl
closes_view (p ∷ ps) = ap (λ rows. Closes ∷ rows) (closes_view ps)

opens_view : (marker : ℕ) (ps : List Pair) → map (λ (p : PairOf). Opens (span_of marker p)) (pairs_view ps)
    ≡ map (λ (p : Pair). Opens (span_of marker (pair_view p))) ps
opens_view marker [] = refl
opens_view marker (p ∷ ps) = ap (λ rows. Opens (span_of marker (pair_view p)) ∷ rows) (opens_view marker ps)

-- ---- of runs whose pairs are known

closed_of : (runs : List RunOf) (ps : List Pair) (place : ℕ) → pairs_view ps ≡ pairs runs
    → pairs_view (closed_by place ps) ≡ filter (λ (p : PairOf). p.closer == place) (pairs runs)
closed_of runs ps place are = sym (filter_view (λ (p : PairOf). p.closer == place) ps) ∙ ap (filter (λ (p : PairOf). p.closer == place)) are

opened_of : (runs : List RunOf) (ps : List Pair) (place : ℕ) → pairs_view ps ≡ pairs runs
    → pairs_view (opened_by place ps) ≡ filter (λ (p : PairOf). p.opener == place) (pairs runs)
opened_of runs ps place are = sym (filter_view (λ (p : PairOf). p.opener == place) ps) ∙ ap (filter (λ (p : PairOf). p.opener == place)) are

pub closed_is : (runs : List RunOf) (ps same : List Pair) (place : ℕ) (e : Ends) → IsEnds ps place e → same ≡ ps → pairs_view ps ≡ pairs runs
    → pairs_view (slice_range same e.first_closed e.closed_end) ≡ filter (λ (p : PairOf). p.closer == place) (pairs runs)
closed_is runs ps same place e ends is are =
    ap (λ qs. pairs_view (slice_range qs e.first_closed e.closed_end)) is ∙ ap pairs_view ends.closed ∙ closed_of runs ps place are

pub opened_is : (runs : List RunOf) (ps all same : List Pair) (place : ℕ) (l : RunLayout) → IsLaid ps place all l → same ≡ all → pairs_view ps ≡ pairs runs
    → pairs_view (slice_range same l.start l.end) ≡ reverse (filter (λ (p : PairOf). p.opener == place) (pairs runs))
opened_is runs ps all same place l laid is are =
    ap (λ qs. pairs_view (slice_range qs l.start l.end)) is ∙ ap pairs_view laid.opened ∙ reverse_view (opened_by place ps)
    ∙ ap reverse (opened_of runs ps place are)

size_of : (runs : List RunOf) (i : ℕ) (d : RunOf) → i < length runs → slice_index (run_sizes runs) i ≡ (get_or runs i d).left
size_of runs i d lt = get_or-map (λ (run : RunOf). run.left) runs i d 0 lt

pub size_at : (runs : List Run) (i n : ℕ) (d : Run) → n ≡ i → i < length runs → (get_or runs i d).size ≡ slice_index (run_sizes (runs_view runs)) n
size_at runs i n d is lt =
    sym (ap (λ k. slice_index (run_sizes (runs_view runs)) k) is
    ∙ size_of (runs_view runs) i (run_view d) (omega (arith, length-map runs run_view))
    ∙ ap (λ (run : RunOf). run.left) (get_or-map run_view runs i d (run_view d) lt))

pub rows_are : (runs : List RunOf) (ps closed opened : List Pair) (place text : ℕ) (d : RunOf) → pairs_view ps ≡ pairs runs → place < length runs
    → pairs_view closed ≡ filter (λ (p : PairOf). p.closer == place) (pairs runs)
    → pairs_view opened ≡ reverse (filter (λ (p : PairOf). p.opener == place) (pairs runs))
    → text ≡ text_at ps place (slice_index (run_sizes runs) place)
    → (map (λ (p : Pair). Closes) closed ++ replicate text (Holds (Leaf (Data (get_or runs place d).marker)))
    ++ map (λ (p : Pair). Opens (span_of (get_or runs place d).marker (pair_view p))) opened)
    ≡ run_rows (pairs runs) place (get_or runs place d)
rows_are runs ps closed opened place text d are lt is_closed is_opened is_text =
    let run = get_or runs place d in
    let left : slice_index (run_sizes runs) place ≡ run.left = size_of runs place d lt in
    let closes = sym (closes_view closed) ∙ ap (map (λ (p : PairOf). Closes)) is_closed in
    let opens = sym (opens_view run.marker opened) ∙ ap (map (λ (p : PairOf). Opens (span_of run.marker p))) is_opened in
    let taken : bytes (closed_by place ps) + bytes (opened_by place ps)
    ≡ bytes_taken (filter (λ (p : PairOf). p.closer == place) (pairs runs)) + bytes_taken (filter (λ (p : PairOf). p.opener == place) (pairs runs)) =
    ap₂ (λ m n. m + n) (sym (bytes_view (closed_by place ps)) ∙ ap bytes_taken (closed_of runs ps place are))
    (sym (bytes_view (opened_by place ps)) ∙ ap bytes_taken (opened_of runs ps place are)) in
    let texts = is_text ∙ ap₂ (λ m n. m - n) left taken in
    ap₂ (λ xs ys. xs ++ ys) (ap₂ (λ xs n. xs ++ replicate n (Holds (Leaf (Data run.marker)))) closes texts) opens
