-- A text with `+ ` before its first line and two spaces before every other.
use Rattle.std.specs.Prelude.{ℕ, List}
use Rattle.definition_text.specs.Ascii.{space, plus}
use Rattle.laws_quote.specs.Quoted.{pair_before, pair_after_endings}

-- `+ ` before the first line, two spaces before every other
abbrev pub list_lines : List ℕ → List ℕ
list_lines text = pair_before plus space (pair_after_endings space space text)
