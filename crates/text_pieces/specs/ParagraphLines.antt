-- The lines of a paragraph, as reading a text line by line gives them (CommonMark 2.1 and 4.8).
use Rattle.std.specs.Prelude.{◌≡◌, ℕ, ◌<◌, false, List, [], ◌∷◌, Some, length}
use Rattle.markdown_options.specs.declared.line_ending.LineEnding.{LineEnding}
use Rattle.definition_text.specs.BlockLines.{BlockLine}
use Rattle.definition_text.specs.Content.{is_eol}

-- codes without a line ending
abbrev pub HaveNoEnding : List ℕ → Type 0
HaveNoEnding [] = Unit {0}
HaveNoEnding (c ∷ cs) = (is_eol c ≡ false) × HaveNoEnding cs

-- lines of a paragraph: none is empty, and all but the last have an ending
abbrev pub AreLines : List BlockLine → Type 0
AreLines [] = Unit {0}
AreLines (line ∷ []) = HaveNoEnding line.codes × (0 < length line.codes)
AreLines (line ∷ next ∷ others) =
    HaveNoEnding line.codes × (0 < length line.codes) × ((e : LineEnding) × (line.ending ≡ Some e)) × AreLines (next ∷ others)
