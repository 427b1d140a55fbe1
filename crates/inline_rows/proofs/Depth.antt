-- The rows of a container close as many spans as they open, and none too early.
use Rattle.std.proofs.Common.{inl, inr, ◌≡◌, ℕ, zero, suc, ◌+◌, ◌-◌, ◌<◌, List, [], ◌∷◌, ◌++◌, false, map, refl, sym, ap, ◌∙◌, length, reverse, replicate}
use Rattle.std.proofs.Common.{arith, subst}
use Rattle.inline_rows.proofs.Prelude.{bytes_taken, Closes, Data, Delimiters, filter, Holds, Inline, inline_rows, Item, Leaf, length-append, length-reverse}
use Rattle.inline_rows.proofs.Prelude.{LinkTexts, Opens, Pair, pairs, rows_from, run_rows, runs_of, span_of, SpanRow, Target, Token, told_rows, ◌==◌}
use Rattle.std.proofs.lemmas.Grind.{common_steps}
use Rattle.std.proofs.lemmas.Bool.{cond-false}
use Rattle.definition_inline.specs.Attention.{Run}
use Rattle.definition_inline.specs.Spans.{with_spans}
use Rattle.definition_inline.proofs.PairsNested.{AreNested, closes_at, is_around, is_open, none_open, opens_at, pairs_nested}
use Rattle.definition_inline.proofs.PairsNested.{closing as closed_first, opening as opened_first}
use Rattle.definition_inline.proofs.PairsTaken.{AreOrdered, pairs_ordered}
use Rattle.definition_inline.proofs.SpanRows.{spans_by_rows}
use Rattle.inline_rows.proofs.Balanced.{Nests, nested_rows}

-- ---- how many are open

abbrev depth_at : ℕ → List Pair → ℕ
depth_at place ps = length (filter (is_open place) ps)

none_last : (n : ℕ) (ps : List Pair) → AreOrdered n ps → depth_at n ps ≡ 0
none_last n [] ordered = refl
none_last n (p ∷ ps) ordered =
    let lt : p.closer < n = ordered.1 in
    let none : is_open n p ≡ false = grind (arith, common_steps) in
    ap length (cond-false (is_open n p) (p ∷ filter (is_open n) ps) (filter (is_open n) ps) none) ∙ none_last n ps ordered.2

-- ---- rows

after_both : (before between after : ℕ) (xs ys : List SpanRow) → Nests before xs between → Nests between ys after → Nests before (xs ++ ys) after
after_both before between after [] ys first second = subst (λ n. Nests n ys after) (sym first) second
after_both before between after (Holds i ∷ xs) ys first second = after_both before between after xs ys first second
after_both before between after (Opens span ∷ xs) ys first second = after_both (before + 1) between after xs ys first second
after_both before between after (Closes ∷ xs) ys first second = (first.0, after_both (before - 1) between after xs ys first.1 second)

closing : (ps : List Pair) (after : ℕ) → Nests (length ps + after) (map (λ (p : Pair). Closes) ps) after
closing [] after = omega arith
closing (p ∷ ps) after =
    let fewer : length ps + after ≡ suc (length ps) + after - 1 = omega arith in
    (omega arith, subst (λ n. Nests n (map (λ (p : Pair). Closes) ps) after) fewer (closing ps after))

holding : (n depth : ℕ) (i : Inline) → Nests depth (replicate n (Holds i)) depth
holding zero depth i = refl
holding (suc n) depth i = holding n depth i

opening : (marker : ℕ) (ps : List Pair) (before : ℕ) → Nests before (map (λ (p : Pair). Opens (span_of marker p)) ps) (before + length ps)
opening marker [] before = omega arith
opening marker (p ∷ ps) before =
    let more : before + 1 + length ps ≡ before + suc (length ps) = omega arith in
    subst (λ n. Nests (before + 1) (map (λ (p : Pair). Opens (span_of marker p)) ps) n) more (opening marker ps (before + 1))

run_nests : (ps : List Pair) (place : ℕ) (run : Run) → AreNested ps → Nests (depth_at place ps) (run_rows ps place run) (depth_at (place + 1) ps)
run_nests ps place run nested =
    let closed = filter (closes_at place) ps in
    let started = filter (opens_at place) ps in
    let around = filter (is_around place) ps in
    let depth = length around in
    let left = run.left - (bytes_taken closed + bytes_taken started) in
    let first : length closed + depth ≡ depth_at place ps = sym (ap length (closed_first place ps nested) ∙ length-append closed around) in
    let last : depth + length (reverse started) ≡ depth_at (place + 1) ps =
    omega (arith, length-reverse started, ap length (opened_first place ps nested), length-append started around) in
    let ends = map (λ (p : Pair). Closes) closed in
    let texts = replicate left (Holds (Leaf (Data run.marker))) in
    let starts = map (λ (p : Pair). Opens (span_of run.marker p)) (reverse started) in
    let all : Nests (length closed + depth) (ends ++ texts ++ starts) (depth + length (reverse started)) =
    after_both (length closed + depth) depth (depth + length (reverse started)) (ends ++ texts) starts
    (after_both (length closed + depth) depth depth ends texts (closing closed depth) (holding left depth (Leaf (Data run.marker))))
    (opening run.marker (reverse started) depth) in
    subst (λ m. Nests m (run_rows ps place run) (depth_at (place + 1) ps)) first
    (subst (Nests (length closed + depth) (run_rows ps place run)) last all)

rows_nest : (ps : List Pair) (place : ℕ) (ts : List Token) → AreNested ps
    → Nests (depth_at place ps) (rows_from ps place ts) (depth_at (place + length (runs_of ts)) ps)
rows_nest ps place [] nested = ap (λ m. depth_at m ps) (let same : place ≡ place + 0 = omega arith in same)
rows_nest ps place (Item i ∷ ts) nested = rows_nest ps place ts nested
rows_nest ps place (Delimiters run ∷ ts) nested =
    let more : place + 1 + length (runs_of ts) ≡ place + suc (length (runs_of ts)) = omega arith in
    after_both (depth_at place ps) (depth_at (place + 1) ps) (depth_at (place + suc (length (runs_of ts))) ps)
    (run_rows ps place run) (rows_from ps (place + 1) ts) (run_nests ps place run nested)
    (subst (λ m. Nests (depth_at (place + 1) ps) (rows_from ps (place + 1) ts) (depth_at m ps)) more (rows_nest ps (place + 1) ts nested))

-- the rows of the inline structure of a container
pub emphasized_rows : (leads : Target → LinkTexts) (ts : List Token) → inline_rows leads (with_spans ts) ≡ told_rows leads (rows_from (pairs (runs_of ts)) 0 ts)
emphasized_rows leads ts =
    let ps = pairs (runs_of ts) in
    let n = length (runs_of ts) in
    let rs = rows_from ps 0 ts in
    let end : depth_at (0 + n) ps ≡ 0 =
    ap (λ m. depth_at m ps) (let same : 0 + n ≡ n = omega arith in same) ∙ none_last n ps (pairs_ordered (runs_of ts)) in
    ap (inline_rows leads) (spans_by_rows ts)
    ∙ nested_rows leads rs
    (subst (λ m. Nests m rs 0) (ap length (none_open ps))
    (subst (Nests (depth_at 0 ps) rs) end (rows_nest ps 0 ts (pairs_nested (runs_of ts)))))
