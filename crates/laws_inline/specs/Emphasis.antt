-- What the spans of a container depend on: its runs, and of each run its byte, its size and its neighbours (CommonMark 6.2).
use Rattle.std.specs.Prelude.{◌≡◌, ℕ, ◌+◌, ◌-◌, false, List, [], ◌∷◌, ◌++◌, Option, None, Some, slice_index_or}
use Rattle.std.specs.List.{All}
use Rattle.markdown_options.specs.declared.configuration.ParseOptions.{ParseOptions}
use Rattle.markdown_options.specs.declared.beside.Kind.{Kind}
use Rattle.definition_text.specs.InlineCode.{InlineCode}
use Rattle.definition_inline.specs.Attention.{Run, run_size, run_at}
use Rattle.definition_inline.specs.Pairing.{Pair, pairs}
use Rattle.definition_inline.specs.Spans.{Token, Item, Delimiters, runs_of, with_spans}
use Rattle.definition_inline.specs.SpanRows.{SpanRow, Holds, run_rows, nest_spans}
use Rattle.definition_inline.specs.Scan.{InlineContext, text, reading, scan, whole_text}

-- ---- a run

-- what stands at the front of a content: a byte, how many of it, and the kinds of the characters before the first and after the last of them
pub record Front : Type 0 where
  pub marker : ℕ
  pub size : ℕ
  pub before : Kind
  pub after : Kind

abbrev pub front_of : List InlineCode → Option Front
front_of [] = None
front_of (c ∷ cs) =
    let size = run_size c.code (c ∷ cs) in
    Some (record { marker = c.code; size = size; before = c.before; after = (slice_index_or (c ∷ cs) (size - 1) c).after })

-- the run that a content begins with, and whether it may open and close, is told by what stands at its front alone (CommonMark 6.2)
abbrev pub RunOfItsNeighbours : Type 0
RunOfItsNeighbours =
    (options : ParseOptions) (content other : List InlineCode) → front_of content ≡ front_of other → run_at options content ≡ run_at options other

-- ---- the runs of a content

-- a run that stands somewhere in a content
abbrev pub StandsIn : ParseOptions → List InlineCode → Run → Type 0
StandsIn options content run = (before rest : List InlineCode) × (content ≡ before ++ rest) × (run_at options rest ≡ Some run)

-- the outermost container of a content: a label that forms something is one token of it
abbrev pub tokens_of : InlineContext → List InlineCode → List Token
tokens_of context content = (whole_text (scan context 0 (reading (text [] false) []) content)).tokens

-- each run of it stands in the content
abbrev pub RunsOfTheContent : Type 0
RunsOfTheContent =
    (context : InlineContext) (content : List InlineCode) → All (StandsIn context.options content) (runs_of (tokens_of context content))

-- ---- a container

-- what runs stand for, where they form these pairs: the spans that each closes, what of it is text, and the spans that it opens
abbrev pub rows_by : List Pair → ℕ → List Run → List (List SpanRow)
rows_by ps place [] = []
rows_by ps place (run ∷ runs) = run_rows ps place run ∷ rows_by ps (place + 1) runs

-- the same of the runs of a container
abbrev pub rows_of_runs : List Run → List (List SpanRow)
rows_of_runs runs = rows_by (pairs runs) 0 runs

-- tokens with these rows in place of their runs, and all else as it stands
abbrev pub with_runs : List (List SpanRow) → List Token → List SpanRow
with_runs rows [] = []
with_runs rows (Item i ∷ ts) = Holds i ∷ with_runs rows ts
with_runs [] (Delimiters run ∷ ts) = with_runs [] ts
with_runs (row ∷ rows) (Delimiters run ∷ ts) = row ++ with_runs rows ts

-- the spans of a container are those that its runs form, whatever stands between them (CommonMark 6.2)
abbrev pub SpansOfRuns : Type 0
SpansOfRuns = (tokens : List Token) → with_spans tokens ≡ nest_spans (with_runs (rows_of_runs (runs_of tokens)) tokens)
