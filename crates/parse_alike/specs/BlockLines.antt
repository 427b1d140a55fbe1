-- When the lines of code and of HTML are alike (CommonMark 4.4 to 4.6).
use Rattle.std.specs.Prelude.{◌≡◌, ℕ, Bool, true, false, List, [], ◌∷◌, ◌++◌, Option, None, Some}
use Rattle.std.specs.List.{flat_map}
use Rattle.markdown_options.specs.declared.line_ending.LineEnding.{LineEnding}
use Rattle.definition_text.specs.BlockLines.{BlockLine}
use Rattle.definition_text.specs.Columns.{bytes_of}
use Rattle.definition_text.specs.Content.{line_text}

abbrev pub has_lines : List BlockLine → Bool
has_lines [] = false
has_lines (line ∷ ls) = true

-- Lines of code are alike if they have the same text: a line and its ending may be cut apart, and a remaining column of a tab may be a space.
abbrev pub AreCodeLinesAlike : List BlockLine → List BlockLine → Type 0
AreCodeLinesAlike ls ls' = flat_map line_text ls ≡ flat_map line_text ls'

-- what is printed of HTML, in which a tag is filtered or isn't: text, or the ending of a line
pub data HtmlPart : Type 0 where
  Text : List ℕ → HtmlPart
  End : LineEnding → HtmlPart

abbrev pub html_text : List ℕ → List HtmlPart
html_text [] = []
html_text (b ∷ bs) = Text (b ∷ bs) ∷ []

abbrev pub html_end : Option LineEnding → List HtmlPart
html_end None = []
html_end (Some ending) = End ending ∷ []

abbrev pub html_parts : BlockLine → List HtmlPart
html_parts line = html_text (bytes_of line.codes) ++ html_end line.ending

-- Lines of HTML are alike if they have the same parts: a line and its ending may be cut apart, but a text isn't, since a tag could be cut with it.
abbrev pub AreHtmlLinesAlike : List BlockLine → List BlockLine → Type 0
AreHtmlLinesAlike ls ls' = flat_map html_parts ls ≡ flat_map html_parts ls'
