-- Emphasis, strong emphasis, strikethrough and marked text: what stands between the runs that go together (CommonMark 6.2 and GFM 6.5).
use Rattle.std.specs.Prelude.{ℕ, ◌+◌, if◌then◌else◌, ◌==◌, List, [], ◌∷◌, ◌++◌, replicate}
use Rattle.std.specs.List.{fold}
use Rattle.definition_inline.specs.Inline.{Inline, Leaf, Data, Span, SpanKind, Emphasis, Strong, Strikethrough, Mark, Inlines, Nil, followed_by}
use Rattle.definition_inline.specs.Attention.{Run}
use Rattle.definition_inline.specs.GfmStrikethrough.{is_tilde}
use Rattle.definition_inline.specs.Mark.{is_equals}
use Rattle.definition_inline.specs.Pairing.{Pair, OpenRun, open_run, without, pairs}

-- a part of a container: one that is read whole, or a run
pub data Token : Type 0 where
  Item : Inline → Token
  Delimiters : Run → Token

-- the run of a token
abbrev pub token_run : Token → List Run
token_run (Item i) = []
token_run (Delimiters run) = run ∷ []

-- the runs among tokens
abbrev pub runs_of : List Token → List Run
runs_of [] = []
runs_of (t ∷ ts) = token_run t ++ runs_of ts

-- what a pair of runs of this byte stands for: strikethrough (GFM 6.5), marked text, emphasis, or strong emphasis where two bytes are taken (CommonMark 6.2)
abbrev pub span_of : ℕ → Pair → SpanKind
span_of marker pair =
    if is_tilde marker then Strikethrough else (if is_equals marker then Mark else (if pair.taken == 2 then Strong else Emphasis))

-- a token of a container while its pairs are worked in: a part, or what is left of a run at its place among the runs
pub data Piece : Type 0 where
  Whole : Inline → Piece
  Left : OpenRun → Piece

-- tokens as pieces, of which the next run has this place
abbrev pub pieces_from : ℕ → List Token → List Piece
pieces_from place [] = []
pieces_from place (Item i ∷ ts) = Whole i ∷ pieces_from place ts
pieces_from place (Delimiters run ∷ ts) = Left (open_run run place) ∷ pieces_from (place + 1) ts

-- parts and a piece after them: what is left of a run is text (CommonMark 6.2)
abbrev pub with_piece : Inlines → Piece → Inlines
with_piece before (Whole i) = followed_by before i
with_piece before (Left p) = fold followed_by before (replicate p.run.left (Leaf (Data p.run.marker)))

-- a span up to the closer of its pair, before which these parts stand (CommonMark 6.2)
abbrev pub span_to_closer : SpanKind → Pair → Inlines → List Piece → List Piece
span_to_closer kind pair inside [] = []
span_to_closer kind pair inside (Whole i ∷ others) = span_to_closer kind pair (followed_by inside i) others
span_to_closer kind pair inside (Left run ∷ others) =
    if run.place == pair.closer then Whole (Span kind inside) ∷ Left (without pair.taken run) ∷ others
    else span_to_closer kind pair (with_piece inside (Left run)) others

-- the span of a pair in place of what stands between its runs, which lose their bytes to it (CommonMark 6.2)
abbrev pub with_span : List Piece → Pair → List Piece
with_span [] pair = []
with_span (Whole i ∷ others) pair = Whole i ∷ with_span others pair
with_span (Left run ∷ others) pair =
    if run.place == pair.opener then Left (without pair.taken run) ∷ span_to_closer (span_of run.run.marker pair) pair Nil others
    else Left run ∷ with_span others pair

-- the inline structure of one container: its tokens, with a span for each pair of its runs, one pair after another (CommonMark 6.2)
abbrev pub with_spans : List Token → Inlines
with_spans tokens = fold with_piece Nil (fold with_span (pieces_from 0 tokens) (pairs (runs_of tokens)))
