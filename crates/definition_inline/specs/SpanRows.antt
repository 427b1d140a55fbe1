-- Spans as rows from left to right: each run becomes ends of spans, text and starts of spans. They stand for the spans of the definition (CommonMark 6.2).
use Rattle.std.specs.Prelude.{ℕ, ◌+◌, ◌-◌, ◌==◌, List, [], ◌∷◌, ◌++◌, map, reverse, replicate}
use Rattle.std.specs.List.{filter, fold, sum_by}
use Rattle.definition_inline.specs.Inline.{Inline, Leaf, Data, Span, SpanKind, Inlines, Nil, followed_by}
use Rattle.definition_inline.specs.Attention.{Run}
use Rattle.definition_inline.specs.Pairing.{Pair}
use Rattle.definition_inline.specs.Spans.{span_of}

-- tokens where each run is told apart: a part, the start of a span, or the end of the innermost one
pub data SpanRow : Type 0 where
  Holds : Inline → SpanRow
  Opens : SpanKind → SpanRow
  Closes : SpanRow

-- the bytes of these pairs at one of their runs
abbrev pub bytes_taken : List Pair → ℕ
bytes_taken ps = sum_by (λ (p : Pair). p.taken) ps

-- a run at its place: its first bytes close spans, the innermost first, its last open spans, and what is left is text (CommonMark 6.2)
abbrev pub run_rows : List Pair → ℕ → Run → List SpanRow
run_rows ps place run =
    let closed = filter (λ (p : Pair). p.closer == place) ps in
    let started = filter (λ (p : Pair). p.opener == place) ps in
    map (λ (p : Pair). Closes) closed
    ++ replicate (run.left - (bytes_taken closed + bytes_taken started)) (Holds (Leaf (Data run.marker)))
    ++ map (λ (p : Pair). Opens (span_of run.marker p)) (reverse started)

-- a span that is open, and the parts before it
pub record OpenSpan : Type 0 where
  pub kind : SpanKind
  pub before : Inlines

-- the parts of the innermost span that is open, and the open spans, the innermost first
pub record Nest : Type 0 where
  pub now : Inlines
  pub around : List OpenSpan

abbrev pub nest : Inlines → List OpenSpan → Nest
nest now around = record { now = now; around = around }

-- the innermost span ends
abbrev pub leave : Inlines → List OpenSpan → Nest
leave now [] = nest now []
leave now (innermost ∷ others) = nest (followed_by innermost.before (Span innermost.kind now)) others

-- one more row
abbrev pub nest_row : Nest → SpanRow → Nest
nest_row n (Holds i) = nest (followed_by n.now i) n.around
nest_row n (Opens kind) = nest Nil (record { kind = kind; before = n.now } ∷ n.around)
nest_row n Closes = leave n.now n.around

-- the parts that rows stand for
abbrev pub nest_spans : List SpanRow → Inlines
nest_spans rows = (fold nest_row (nest Nil []) rows).now
