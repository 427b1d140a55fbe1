-- Tokens and the spans among them, with another ending in place of each LF.
use Rattle.std.proofs.Common.{◌≡◌, ℕ, zero, suc, ◌+◌, ◌-◌, List, [], ◌∷◌, ◌++◌, eqb, refl, sym, ap, ◌∙◌, map}
use Rattle.laws_endings.proofs.Prelude.{Cons, Data, Delimiters, filter, fold, Inline, inline_with, Inlines, inlines_with, Leaf, LineEnding, map-append, Nil}
use Rattle.laws_endings.proofs.Prelude.{replicate, reverse, Run, Span, Token, with_spans}
use Rattle.definition_inline.specs.Inline.{followed_by}
use Rattle.definition_inline.specs.Pairing.{Pair, pairs}
use Rattle.definition_inline.specs.Spans.{Item, runs_of, span_of}
use Rattle.definition_inline.specs.SpanRows.{SpanRow, Holds, Opens, Closes, bytes_taken, run_rows}
use Rattle.definition_inline.specs.SpanRows.{OpenSpan, Nest, nest, leave, nest_row, nest_spans}
use Rattle.definition_inline.proofs.SpanRows.{rows_from, spans_by_rows}

module _ (e : LineEnding) where
  abbrev pub token_with : Token → Token
  token_with (Item i) = Item (inline_with e i)
  token_with (Delimiters run) = Delimiters run

  abbrev pub tokens_with : List Token → List Token
  tokens_with ts = map token_with ts

  abbrev row_with : SpanRow → SpanRow
  row_with (Holds i) = Holds (inline_with e i)
  row_with (Opens kind) = Opens kind
  row_with Closes = Closes

  -- ---- rows

  runs_of-with : (ts : List Token) → runs_of (tokens_with ts) ≡ runs_of ts
  runs_of-with [] = refl
  runs_of-with (Item i ∷ ts) = runs_of-with ts
  runs_of-with (Delimiters run ∷ ts) = ap (λ runs. run ∷ runs) (runs_of-with ts)

  closes_same : (ps : List Pair) → map row_with (map (λ (p : Pair). Closes) ps) ≡ map (λ (p : Pair). Closes) ps
  closes_same [] = refl
  closes_same (p ∷ ps) = ap (λ rows. Closes ∷ rows) (closes_same ps)

  opens_same : (marker : ℕ) (ps : List Pair) → map row_with (map (λ (p : Pair). Opens (span_of marker p)) ps) ≡ map (λ (p : Pair). Opens (span_of marker p)) ps
  opens_same marker [] = refl
  opens_same marker (p ∷ ps) = ap (λ rows. Opens (span_of marker p) ∷ rows) (opens_same marker ps)

  left_same : (n marker : ℕ) → map row_with (replicate n (Holds (Leaf (Data marker)))) ≡ replicate n (Holds (Leaf (Data marker)))
  left_same zero marker = refl
  left_same (suc n) marker = ap (λ rows. Holds (Leaf (Data marker)) ∷ rows) (left_same n marker)

  three_same : (xs ys zs : List SpanRow) → map row_with xs ≡ xs → map row_with ys ≡ ys → map row_with zs ≡ zs → map row_with (xs ++ ys ++ zs) ≡ xs ++ ys ++ zs
  three_same xs ys zs p q r =
      map-append row_with (xs ++ ys) zs
      ∙ ap (λ rows. rows ++ map row_with zs) (map-append row_with xs ys)
      ∙ ap (λ rows. rows ++ map row_with ys ++ map row_with zs) p
      ∙ ap (λ rows. xs ++ rows ++ map row_with zs) q
      ∙ ap (λ rows. xs ++ ys ++ rows) r

  run_rows-same : (ps : List Pair) (place : ℕ) (run : Run) → map row_with (run_rows ps place run) ≡ run_rows ps place run
  run_rows-same ps place run =
      let closed = filter (λ (p : Pair). eqb p.closer place) ps in
      let started = filter (λ (p : Pair). eqb p.opener place) ps in
      let left = run.left - (bytes_taken closed + bytes_taken started) in
      three_same (map (λ (p : Pair). Closes) closed) (replicate left (Holds (Leaf (Data run.marker))))
      (map (λ (p : Pair). Opens (span_of run.marker p)) (reverse started))
      (closes_same closed) (left_same left run.marker) (opens_same run.marker (reverse started))

  rows_from-with : (ps : List Pair) (place : ℕ) (ts : List Token) → rows_from ps place (tokens_with ts) ≡ map row_with (rows_from ps place ts)
  rows_from-with ps place [] = refl
  rows_from-with ps place (Item i ∷ ts) = ap (λ rows. Holds (inline_with e i) ∷ rows) (rows_from-with ps place ts)
  rows_from-with ps place (Delimiters run ∷ ts) =
      let rows = run_rows ps place run in
      let others = rows_from ps (place + 1) ts in
      ap (λ more. rows ++ more) (rows_from-with ps (place + 1) ts)
      ∙ ap (λ first. first ++ map row_with others) (sym (run_rows-same ps place run))
      ∙ sym (map-append row_with rows others)

  -- ---- spans

  followed_by-with : (is : Inlines) (i : Inline) → followed_by (inlines_with e is) (inline_with e i) ≡ inlines_with e (followed_by is i)
  followed_by-with Nil i = refl
  followed_by-with (Cons first is) i = ap (Cons (inline_with e first)) (followed_by-with is i)

  abbrev span_with : OpenSpan → OpenSpan
  span_with s = record { kind = s.kind; before = inlines_with e s.before }

  abbrev nest_with : Nest → Nest
  nest_with n = nest (inlines_with e n.now) (map span_with n.around)

  leave-with : (now : Inlines) (around : List OpenSpan) → leave (inlines_with e now) (map span_with around) ≡ nest_with (leave now around)
  leave-with now [] = refl
  leave-with now (innermost ∷ others) =
      ap (λ is. nest is (map span_with others)) (followed_by-with innermost.before (Span innermost.kind now))

  nest_row-with : (n : Nest) (row : SpanRow) → nest_row (nest_with n) (row_with row) ≡ nest_with (nest_row n row)
  nest_row-with n (Holds i) = ap (λ is. nest is (map span_with n.around)) (followed_by-with n.now i)
  nest_row-with n (Opens kind) = refl
  nest_row-with n Closes = leave-with n.now n.around

  nest_rows-with : (n : Nest) (rows : List SpanRow) → fold nest_row (nest_with n) (map row_with rows) ≡ nest_with (fold nest_row n rows)
  nest_rows-with n [] = refl
  nest_rows-with n (row ∷ rows) = ap (λ next. fold nest_row next (map row_with rows)) (nest_row-with n row) ∙ nest_rows-with (nest_row n row) rows

  pub emphasized-with : (ts : List Token) → with_spans (tokens_with ts) ≡ inlines_with e (with_spans ts)
  emphasized-with ts =
      let rows = rows_from (pairs (runs_of ts)) 0 ts in
      spans_by_rows (tokens_with ts)
      ∙ ap (λ runs. nest_spans (rows_from (pairs runs) 0 (tokens_with ts))) (runs_of-with ts)
      ∙ ap nest_spans (rows_from-with (pairs (runs_of ts)) 0 ts)
      ∙ ap (λ (n : Nest). n.now) (nest_rows-with (nest Nil []) rows)
      ∙ ap (inlines_with e) (sym (spans_by_rows ts))
