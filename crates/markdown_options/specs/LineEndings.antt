-- The bytes of line endings (CommonMark 2.1), and reading them.
use Rattle.std.specs.Prelude.{◌≡◌, ◌≢◌, ℕ, List, [], ◌∷◌, Result, MatchResult}
use Rattle.markdown_options.specs.declared.line_ending.LineEnding.{LineEnding}
use Rattle.markdown_options.specs.declared.line_ending.LineEnding.TheVariants.{CarriageReturnLineFeed, CarriageReturn, LineFeed}
use Rattle.markdown_options.specs.declared.line_ending.LineEndingError.{LineEndingError}

-- CR LF, CR or LF
abbrev pub ending_bytes : LineEnding → List ℕ
ending_bytes CarriageReturnLineFeed = 13 ∷ 10 ∷ []
ending_bytes CarriageReturn = 13 ∷ []
ending_bytes LineFeed = 10 ∷ []

-- a text read as the ending whose bytes it has, and refused if it is no ending's
abbrev pub ReadsEnding : List ℕ → Result LineEnding LineEndingError → Type 0
ReadsEnding text read =
    MatchResult read (λ ending. text ≡ ending_bytes ending)
    (λ _. (ending : LineEnding) → text ≢ ending_bytes ending)
