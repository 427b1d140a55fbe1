-- What the spans of a container depend on.
use Rattle.std.proofs.Common.{◌≡◌, ℕ, cond, ◌+◌, List, [], ◌∷◌, ◌++◌, Option, None, Some, drop, refl, sym, ◌∙◌, ap, append_assoc}
use Rattle.std.specs.List.{All}
use Rattle.std.proofs.lemmas.List.Elements.{All-nil, All-cons}
use Rattle.markdown_options.specs.declared.configuration.ParseOptions.{ParseOptions}
use Rattle.definition_text.specs.Content.{text_before}
use Rattle.definition_text.specs.InlineCode.{InlineCode, codes_of}
use Rattle.definition_inline.specs.Inline.{Data, Leaf}
use Rattle.definition_inline.specs.Attention.{Run, is_marker, run_between, run_at}
use Rattle.definition_inline.specs.Pairing.{Pair, pairs}
use Rattle.definition_inline.specs.Spans.{Token, Item, Delimiters, runs_of}
use Rattle.definition_inline.specs.SpanRows.{Holds, run_rows, nest_spans}
use Rattle.definition_inline.specs.Scan.{InlineContext, leaf_here, leaf_tokens, LabelStart, label_start_at, start_bytes, start_tokens, formed_part, formed_at}
use Rattle.definition_inline.specs.Scan.{Text, with_tokens}
use Rattle.definition_inline.proofs.SpanRows.{rows_from, spans_by_rows}
use Rattle.definition_inline.proofs.ScanHolds.{where_always, Keeps, text_holds}
use Rattle.laws_inline.specs.Emphasis.{Front, front_of, RunOfItsNeighbours, StandsIn, RunsOfTheContent, tokens_of, rows_by, with_runs, SpansOfRuns}
use Rattle.laws_inline.proofs.Each.{Each, WhereSome, each-append, each_map}

-- ---- a run

abbrev run_of : ParseOptions → Option Front → Option Run
run_of options None = None
run_of options (Some f) = cond (is_marker options f.marker) (Some (run_between options f.marker f.size f.before f.after)) None

run-of : (options : ParseOptions) (content : List InlineCode) → run_at options content ≡ run_of options (front_of content)
run-of options [] = refl
run-of options (c ∷ cs) = refl

pub run_of_its_neighbours : RunOfItsNeighbours
run_of_its_neighbours options content other same = run-of options content ∙ ap (run_of options) same ∙ sym (run-of options other)

-- ---- a container

with_runs-rows : (ps : List Pair) (place : ℕ) (ts : List Token) → rows_from ps place ts ≡ with_runs (rows_by ps place (runs_of ts)) ts
with_runs-rows ps place [] = refl
with_runs-rows ps place (Item i ∷ ts) = ap (λ rows. Holds i ∷ rows) (with_runs-rows ps place ts)
with_runs-rows ps place (Delimiters run ∷ ts) = ap (λ rows. run_rows ps place run ++ rows) (with_runs-rows ps (place + 1) ts)

pub spans_of_runs : SpansOfRuns
spans_of_runs tokens = spans_by_rows tokens ∙ ap nest_spans (with_runs-rows (pairs (runs_of tokens)) 0 tokens)

-- ---- the runs of a content

module _ (context : InlineContext) (whole : List InlineCode) where
  abbrev Stands : Token → Type 0
  Stands (Item i) = Unit {0}
  Stands (Delimiters run) = StandsIn context.options whole run

  abbrev TextStands : Text → Type 0
  TextStands t = Each Stands t.tokens

  -- what is left of the content
  abbrev IsLeft : List InlineCode → Type 0
  IsLeft rest = (seen : List InlineCode) × (whole ≡ seen ++ rest)

  stands_more : (t : Text) (more : List Token) → TextStands t → Each Stands more → Each Stands (t.tokens ++ more)
  stands_more t more h p = each-append Stands t.tokens more h p

  -- the run at the front of what is left
  front_stands : (t : Text) (rest : List InlineCode) (found : Option Run) → IsLeft rest → run_at context.options rest ≡ found → TextStands t
      → WhereSome (λ (run : Run). TextStands (with_tokens t (Delimiters run ∷ []))) found
  front_stands t rest None left is h = tt
  front_stands t rest (Some run) left is h = stands_more t (Delimiters run ∷ []) h ((left.0, rest, left.1, is), tt)

  abbrev AnyStart : LabelStart → Type 0
  AnyStart start = Unit {0}

  keeps : Keeps context IsLeft AnyStart TextStands
  keeps =
      record {
        tail = λ c cs h. (h.0 ++ c ∷ [], h.1 ∙ sym (append_assoc h.0 (c ∷ []) cs));
        starts = λ content h. where_always AnyStart (label_start_at context.options.constructs (codes_of content)) (λ start. tt);
        empty = tt;
        leaf = λ t content h p.
            where_always _ (leaf_here context content)
            (λ found. stands_more t (leaf_tokens found) p (each_map Stands (λ part. Item (Leaf part)) found.parts (λ part. tt)));
        run = λ t content h p. front_stands t content (run_at context.options content) h refl p;
        byte = λ t c cs h none p. stands_more t (Item (Leaf (Data c.code)) ∷ []) p (tt, tt);
        close = λ t p. stands_more t (Item (Leaf (Data 93)) ∷ []) p (tt, tt);
        unformed = λ label inner h p.
            let start = start_tokens label.start in
            stands_more label.outer (start ++ inner.tokens) h
            (each-append Stands start inner.tokens (each_map Stands (λ b. Item (Leaf (Data b))) (start_bytes label.start) (λ b. tt)) p);
        formed = λ label inner content h on may s q p.
            where_always _ (formed_at context label.start (text_before label.from (codes_of content)) (drop 1 (codes_of content)))
            (λ found. stands_more label.outer (Item (formed_part label.start found inner.tokens) ∷ []) q (tt, tt));
      }

  runs_stand : (ts : List Token) → Each Stands ts → All (StandsIn context.options whole) (runs_of ts)
  runs_stand [] h = All-nil (StandsIn context.options whole)
  runs_stand (Item i ∷ ts) h = runs_stand ts h.1
  runs_stand (Delimiters run ∷ ts) h = All-cons (StandsIn context.options whole) run (runs_of ts) h.0 (runs_stand ts h.1)

pub runs_of_the_content : RunsOfTheContent
runs_of_the_content context content =
    runs_stand context content (tokens_of context content)
    (text_holds context (IsLeft context content) (AnyStart context content) (TextStands context content) (keeps context content) content ([], refl))
