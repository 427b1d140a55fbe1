-- Code spans (CommonMark 6.1), and math, which is the same with dollars.
use Rattle.std.specs.Prelude.{ℕ, ◌+◌, ◌-◌, false, if◌then◌else◌, List, [], ◌∷◌, drop, length, take, unwrap_or}
use Rattle.definition_text.specs.Ascii.{backtick, dollar}
use Rattle.definition_text.specs.Columns.{Code}
use Rattle.definition_text.specs.Content.{is_eol}
use Rattle.definition_text.specs.Runs.{after_run, run}
use Rattle.definition_inline.specs.CodeText.{run_of}
use Rattle.engine_events.specs.declared.event.Name.{Name}
use Rattle.engine_events.specs.declared.event.Name.TheVariants as n
use Rattle.event_definition.specs.Pieces.{Token, Pieces, Nil, Cons, around, in_first, join_all, token}
use Rattle.event_definition.specs.Sized.{Sized, sized}

-- the lines of raw text as tokens, and each line ending as one
abbrev pub raw_pieces : Name → List Code → Pieces
raw_pieces name [] = Nil
raw_pieces name (c ∷ cs) = if is_eol c then Cons (Token n.LineEnding (c ∷ [])) (raw_pieces name cs) else in_first name c (raw_pieces name cs)

-- the names of the whole, of both runs, and of the text between
pub record RawNames : Type 0 where
  pub outer : Name
  pub sequence : Name
  pub text : Name

-- raw text between two runs of a byte, each of the same size
abbrev pub raw_span_pieces : RawNames → ℕ → List Code → Sized
raw_span_pieces names marker content =
    let size = run marker content in
    let inside = after_run marker content in
    let count = length inside - length (unwrap_or (run_of marker size false inside) []) in
    sized
    (around names.outer (join_all (
    token names.sequence (take size content) ∷ raw_pieces names.text (take count inside) ∷ token names.sequence (take size (drop count inside)) ∷ []
    )))
    (size + count + size)

abbrev pub code_text_pieces : List Code → Sized
code_text_pieces content = raw_span_pieces (record { outer = n.CodeText; sequence = n.CodeTextSequence; text = n.CodeTextData }) backtick content

abbrev pub math_text_pieces : List Code → Sized
math_text_pieces content = raw_span_pieces (record { outer = n.MathText; sequence = n.MathTextSequence; text = n.MathTextData }) dollar content
