-- Runs and pairs as the definition has them.
use Rattle.std.specs.Prelude.{ℕ, Bool, if◌then◌else◌, List, map}
use Rattle.definition_inline.specs.Attention.{Run as RunOf}
use Rattle.definition_inline.specs.Pairing.{Pair as PairOf}
use Rattle.definition_inline.specs.GfmStrikethrough.{is_tilde}
use Rattle.definition_inline.specs.Mark.{is_equals}
use Rattle.definition_inline.specs.Inline as inline
use Rattle.inline_runs.specs.declared.run.Run.{Run}
use Rattle.inline_runs.specs.declared.pair.Span.{Span}
use Rattle.inline_runs.specs.declared.pair.Span.TheVariants.{Emphasis, Strong, Strikethrough, Mark}
use Rattle.inline_runs.specs.declared.pair.Pair.{Pair}

abbrev pub run_view : Run → RunOf
run_view run = record { marker = run.marker; left = run.size; may_open = run.may_open; may_close = run.may_close }

abbrev pub runs_view : List Run → List RunOf
runs_view runs = map run_view runs

abbrev pub span_view : Span → inline.SpanKind
span_view Emphasis = inline.Emphasis
span_view Strong = inline.Strong
span_view Strikethrough = inline.Strikethrough
span_view Mark = inline.Mark

-- how many bytes a pair takes of each run
abbrev pub bytes_by : Bool → ℕ
bytes_by double = if double then 2 else 1

-- what a pair stands for, by the byte of its runs and whether it takes two
abbrev pub span_by : ℕ → Bool → Span
span_by marker double = if is_tilde marker then Strikethrough else (if is_equals marker then Mark else (if double then Strong else Emphasis))

abbrev pub pair_view : Pair → PairOf
pair_view pair = record { opener = pair.opener; closer = pair.closer; taken = bytes_by pair.double }

abbrev pub pairs_view : List Pair → List PairOf
pairs_view pairs = map pair_view pairs
