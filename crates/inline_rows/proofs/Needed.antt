-- A run has enough rows for what it becomes.
use Rattle.std.proofs.Common.{◌≡◌, ℕ, ◌+◌, ◌-◌, ◌<◌, ◌≤◌, List, [], ◌∷◌, ◌++◌, Bool, true, false, map, refl, sym, ap, ◌∙◌, length, get_or, reverse, replicate}
use Rattle.std.proofs.Common.{arith, subst}
use Rattle.inline_rows.proofs.Prelude.{bytes_by, bytes_taken, Closes, Data, filter, Holds, Leaf, length-append, length-map, length-replicate, length-reverse}
use Rattle.inline_rows.proofs.Prelude.{Opens, pair_view, pairs, rows_needed, rows_of, Run, run_rows, run_view, runs_view, RunSpans, span_of, SpanRow, ◌==◌}
use Rattle.std.proofs.lemmas.List.{reverse-append, get_or-map}
use Rattle.std.proofs.lemmas.List.Sums.{sum_by_push, sum_by-cons}
use Rattle.definition_inline.specs.Attention.{Run as RunOf}
use Rattle.definition_inline.specs.Pairing.{Pair as PairOf}
use Rattle.inline_runs.specs.View.{pairs_view}
use Rattle.inline_runs.specs.declared.pair.Pair.{Pair}
use Rattle.definition_inline.proofs.PairsTaken.{bytes_fit}

some_bytes : (double : Bool) → 1 ≤ bytes_by double
some_bytes true = omega arith
some_bytes false = omega arith

-- a pair takes a byte at least
count_le : (ps : List Pair) → length ps ≤ bytes_taken (pairs_view ps)
count_le [] = omega arith
count_le (p ∷ ps) = omega (arith, some_bytes p.double, count_le ps, sum_by-cons (λ (q : PairOf). q.taken) (pair_view p) (pairs_view ps))

bytes-reverse : (ps : List PairOf) → bytes_taken (reverse ps) ≡ bytes_taken ps
bytes-reverse [] = refl
bytes-reverse (p ∷ ps) =
    let back : reverse (p ∷ ps) ≡ reverse ps ++ p ∷ [] = reverse-append (p ∷ []) ps in
    let one : bytes_taken (reverse ps ++ p ∷ []) ≡ bytes_taken (reverse ps) + p.taken = sum_by_push (λ (q : PairOf). q.taken) (reverse ps) p in
    let rest : bytes_taken (reverse ps) ≡ bytes_taken ps = bytes-reverse ps in
    let whole : bytes_taken (p ∷ ps) ≡ p.taken + bytes_taken ps = sum_by-cons (λ (q : PairOf). q.taken) p ps in
    ap bytes_taken back ∙ one ∙ omega arith

count_three : (xs ys zs : List SpanRow) → length (xs ++ ys ++ zs) ≡ length xs + length ys + length zs
count_three xs ys zs = omega (arith, length-append (xs ++ ys) zs, length-append xs ys)

pub needed_fits : (runs : List RunOf) (place : ℕ) (d : RunOf) (spans : RunSpans) → place < length runs
    → pairs_view spans.closed.now ≡ filter (λ (p : PairOf). p.closer == place) (pairs runs)
    → pairs_view spans.opened.now ≡ reverse (filter (λ (p : PairOf). p.opener == place) (pairs runs))
    → rows_of (get_or runs place d).marker spans ≡ run_rows (pairs runs) place (get_or runs place d)
    → rows_needed spans ≤ (get_or runs place d).left
needed_fits runs place d spans lt is_closed is_opened rows =
    let run = get_or runs place d in
    let closed = filter (λ (p : PairOf). p.closer == place) (pairs runs) in
    let started = filter (λ (p : PairOf). p.opener == place) (pairs runs) in
    let left = run.left - (bytes_taken closed + bytes_taken started) in
    let fit : bytes_taken closed + bytes_taken started ≤ run.left = bytes_fit runs place d lt in
    let ends : List SpanRow = map (λ (p : Pair). Closes) spans.closed.now in
    let texts : List SpanRow = replicate spans.text (Holds (Leaf (Data run.marker))) in
    let starts : List SpanRow = map (λ (p : Pair). Opens (span_of run.marker (pair_view p))) spans.opened.now in
    let ends2 : List SpanRow = map (λ (p : PairOf). Closes) closed in
    let texts2 : List SpanRow = replicate left (Holds (Leaf (Data run.marker))) in
    let starts2 : List SpanRow = map (λ (p : PairOf). Opens (span_of run.marker p)) (reverse started) in
    let a : length (ends ++ texts ++ starts) ≡ length spans.closed.now + spans.text + length spans.opened.now =
    omega (
      arith,
      count_three ends texts starts,
      length-map spans.closed.now (λ (p : Pair). Closes),
      length-replicate spans.text (Holds (Leaf (Data run.marker))),
      length-map spans.opened.now (λ (p : Pair). Opens (span_of run.marker (pair_view p))),
    ) in
    let b : length (ends2 ++ texts2 ++ starts2) ≡ length closed + left + length started =
    omega (
      arith,
      count_three ends2 texts2 starts2,
      length-map closed (λ (p : PairOf). Closes),
      length-replicate left (Holds (Leaf (Data run.marker))),
      length-map (reverse started) (λ (p : PairOf). Opens (span_of run.marker p)),
      length-reverse started,
    ) in
    let same : length (ends ++ texts ++ starts) ≡ length (ends2 ++ texts2 ++ starts2) = ap length rows in
    let few_closed : length closed ≤ bytes_taken closed = (let le = count_le spans.closed.now in
    let n : length spans.closed.now ≡ length closed = sym (length-map spans.closed.now pair_view) ∙ ap length is_closed in
    let m : bytes_taken (pairs_view spans.closed.now) ≡ bytes_taken closed = ap bytes_taken is_closed in omega arith) in
    let few_started : length started ≤ bytes_taken started = (let le = count_le spans.opened.now in
    let n : length spans.opened.now ≡ length started = sym (length-map spans.opened.now pair_view) ∙ ap length is_opened ∙ length-reverse started in
    let m : bytes_taken (pairs_view spans.opened.now) ≡ bytes_taken started = ap bytes_taken is_opened ∙ bytes-reverse started in omega arith) in
    omega arith

-- ---- of runs as the code has them

pub rows_at : (runs : List Run) (place : ℕ) (d : Run) (spans : RunSpans) → place < length runs
    → ((e : RunOf) → rows_of (get_or (runs_view runs) place e).marker spans ≡ run_rows (pairs (runs_view runs)) place (get_or (runs_view runs) place e))
    → rows_of (get_or runs place d).marker spans ≡ run_rows (pairs (runs_view runs)) place (run_view (get_or runs place d))
rows_at runs place d spans lt are =
    subst (λ (r : RunOf). rows_of r.marker spans ≡ run_rows (pairs (runs_view runs)) place r) (get_or-map run_view runs place d (run_view d) lt)
    (are (run_view d))

pub needed_at : (runs : List Run) (place : ℕ) (d : Run) (spans : RunSpans) → place < length runs
    → pairs_view spans.closed.now ≡ filter (λ (p : PairOf). p.closer == place) (pairs (runs_view runs))
    → pairs_view spans.opened.now ≡ reverse (filter (λ (p : PairOf). p.opener == place) (pairs (runs_view runs)))
    → ((e : RunOf) → rows_of (get_or (runs_view runs) place e).marker spans ≡ run_rows (pairs (runs_view runs)) place (get_or (runs_view runs) place e))
    → rows_needed spans ≤ (get_or runs place d).size
needed_at runs place d spans lt closed opened are =
    subst (λ (r : RunOf). rows_needed spans ≤ r.left) (get_or-map run_view runs place d (run_view d) lt)
    (needed_fits (runs_view runs) place (run_view d) spans (omega (arith, length-map runs run_view)) closed opened (are (run_view d)))
