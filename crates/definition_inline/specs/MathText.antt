-- Math in a text: a code span with dollars in place of backticks (in neither standard).
use Rattle.std.specs.Prelude.{ℕ, Bool, not, ◌==◌, ◌&&◌, ◌||◌, List, Option}
use Rattle.markdown_options.specs.declared.configuration.ParseOptions.{ParseOptions}
use Rattle.definition_text.specs.Ascii.{dollar}
use Rattle.definition_text.specs.Columns.{Code}
use Rattle.definition_text.specs.Runs.{run}
use Rattle.definition_inline.specs.Inline.{Found}
use Rattle.definition_inline.specs.CodeText.{raw_at}

-- whether a run of n dollars may open math: one alone only where that is asked for
abbrev pub may_open_math : ParseOptions → ℕ → Bool
may_open_math options n = options.constructs.math_text && (options.math_text_single_dollar || not (n == 1))

-- a run of dollars, which may open math
abbrev pub math_text_at : ParseOptions → List Code → Option Found
math_text_at options content = raw_at dollar (may_open_math options (run dollar content)) content
