-- If each part of a container is good, and so are the spans that its runs may form, it is good with its spans.
use Rattle.std.proofs.Common.{ℕ, ◌+◌, ◌-◌, ◌==◌, List, [], ◌∷◌, ◌++◌, map, reverse, replicate, filter, fold, sym, subst}
use Rattle.definition_inline.specs.Inline.{Data, SpanKind, Inline, Leaf, Span, Inlines, Nil, Cons, followed_by}
use Rattle.definition_inline.specs.Attention.{Run}
use Rattle.definition_inline.specs.Pairing.{Pair, pairs}
use Rattle.definition_inline.specs.Spans.{Token, Item, Delimiters, runs_of, span_of, with_spans}
use Rattle.definition_inline.specs.SpanRows.{SpanRow, Holds, Opens, Closes, bytes_taken, run_rows, OpenSpan, Nest, nest, leave, nest_row}
use Rattle.definition_inline.proofs.SpanRows.{rows_from, spans_by_rows}
use Rattle.definition_text.proofs.Each.{Each, each-append, each_map, each_same}

module _ (Good : Inline → Type 0) (AllGood : Inlines → Type 0) where
  -- parts after one another
  pub record Siblings : Type 0 where
    pub none : AllGood Nil
    pub more : (i : Inline) (is : Inlines) → Good i → AllGood is → AllGood (Cons i is)
    pub first : (i : Inline) (is : Inlines) → AllGood (Cons i is) → Good i
    pub rest : (i : Inline) (is : Inlines) → AllGood (Cons i is) → AllGood is

  -- a span of what is good
  abbrev pub KindGood : SpanKind → Type 0
  KindGood kind = (kids : Inlines) → AllGood kids → Good (Span kind kids)

  -- a run, as text and as what it may form
  abbrev pub RunGood : Run → Type 0
  RunGood run = Good (Leaf (Data run.marker)) × ((p : Pair) → KindGood (span_of run.marker p))

  abbrev pub TokenGood : Token → Type 0
  TokenGood (Item i) = Good i
  TokenGood (Delimiters run) = RunGood run

  abbrev RowGood : SpanRow → Type 0
  RowGood (Holds i) = Good i
  RowGood (Opens kind) = KindGood kind
  RowGood Closes = Unit {0}

  abbrev SpanGood : OpenSpan → Type 0
  SpanGood s = KindGood s.kind × AllGood s.before

  abbrev NestGood : Nest → Type 0
  NestGood n = AllGood n.now × Each SpanGood n.around

  run_good : (ps : List Pair) (place : ℕ) (r : Run) → RunGood r → Each RowGood (run_rows ps place r)
  run_good ps place r h =
      let closed = filter (λ (p : Pair). p.closer == place) ps in
      let started = filter (λ (p : Pair). p.opener == place) ps in
      let closing = map (λ (p : Pair). Closes) closed in
      let left = r.left - (bytes_taken closed + bytes_taken started) in
      let opening = map (λ (p : Pair). Opens (span_of r.marker p)) (reverse started) in
      each-append RowGood (closing ++ replicate left (Holds (Leaf (Data r.marker)))) opening
      (each-append RowGood closing (replicate left (Holds (Leaf (Data r.marker)))) (each_map RowGood (λ (p : Pair). Closes) closed (λ p. tt))
      (each_same RowGood left (Holds (Leaf (Data r.marker))) h.0))
      (each_map RowGood (λ (p : Pair). Opens (span_of r.marker p)) (reverse started) h.1)

  rows_good : (ps : List Pair) (place : ℕ) (tokens : List Token) → Each TokenGood tokens → Each RowGood (rows_from ps place tokens)
  rows_good ps place [] h = tt
  rows_good ps place (Item i ∷ ts) h = (h.0, rows_good ps place ts h.1)
  rows_good ps place (Delimiters r ∷ ts) h =
      each-append RowGood (run_rows ps place r) (rows_from ps (place + 1) ts) (run_good ps place r h.0) (rows_good ps (place + 1) ts h.1)

  module _ (n : Siblings) where
    follow_good : (is : Inlines) (last : Inline) → AllGood is → Good last → AllGood (followed_by is last)
    follow_good Nil last p q = n.more last Nil q n.none
    follow_good (Cons i is) last p q = n.more i (followed_by is last) (n.first i is p) (follow_good is last (n.rest i is p) q)

    leave_good : (now : Inlines) (around : List OpenSpan) → AllGood now → Each SpanGood around → NestGood (leave now around)
    leave_good now [] p h = (p, tt)
    leave_good now (s ∷ others) p h = (follow_good s.before (Span s.kind now) h.0.1 (h.0.0 now p), h.1)

    nest_row_good : (here : Nest) (row : SpanRow) → NestGood here → RowGood row → NestGood (nest_row here row)
    nest_row_good here (Holds i) p q = (follow_good here.now i p.0 q, p.1)
    nest_row_good here (Opens kind) p q = (n.none, ((q, p.0), p.1))
    nest_row_good here Closes p q = leave_good here.now here.around p.0 p.1

    nest_good : (here : Nest) (rows : List SpanRow) → NestGood here → Each RowGood rows → NestGood (fold nest_row here rows)
    nest_good here [] p h = p
    nest_good here (row ∷ rows) p h = nest_good (nest_row here row) rows (nest_row_good here row p h.0) h.1

    pub spans_hold : (tokens : List Token) → Each TokenGood tokens → AllGood (with_spans tokens)
    spans_hold tokens h =
        let ps = pairs (runs_of tokens) in
        subst AllGood (sym (spans_by_rows tokens)) (nest_good (nest Nil []) (rows_from ps 0 tokens) (n.none, tt) (rows_good ps 0 tokens h)).0
