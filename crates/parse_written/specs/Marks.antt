-- The bytes of sequences and calls.
use Rattle.std.specs.Prelude.{ℕ, List, [], ◌∷◌, ◌++◌, codes}
use Rattle.definition_text.specs.Ascii.{right_bracket, tilde}
use Rattle.definition_text.specs.Runs.{run}
use Rattle.inline_runs.specs.declared.pair.Span.{Span}
use Rattle.inline_runs.specs.declared.pair.Span.TheVariants.{Emphasis, Strong, Strikethrough, Mark}

-- the size of the sequence that a span starts with: of tildes the whole run (CommonMark 6.2 and GFM 6.5)
abbrev pub sequence_size : Span → List ℕ → ℕ
sequence_size Emphasis bytes = 1
sequence_size Strong bytes = 2
sequence_size Strikethrough bytes = run tilde bytes
sequence_size Mark bytes = 2

-- a call with a label
abbrev pub call_text : List ℕ → List ℕ
call_text label = codes "[^" ++ (label ++ right_bracket ∷ [])
