-- Raw HTML in a text as the pieces of its lines (CommonMark 6.6).
use Rattle.std.specs.Prelude.{List, [], ◌∷◌, ◌++◌, map}
use Rattle.std.specs.List.{flat_map}
use Rattle.definition_text.specs.Columns.{Code, bare}
use Rattle.definition_inline.specs.Inline.{InlineLeaf, Html, LineEnd}
use Rattle.definition_page.specs.InlinePieces.{HtmlLine, html_lines}

-- HTML that isn't empty
abbrev pub html_leaf : List Code → List InlineLeaf
html_leaf [] = []
html_leaf (c ∷ cs) = Html (c ∷ cs) ∷ []

-- a line, and its ending
abbrev pub line_leaves : List Code → List Code → List InlineLeaf
line_leaves line ending = html_leaf line ++ map LineEnd ending

-- a later line, without the spaces and tabs at its start
abbrev pub later_leaves : HtmlLine → List InlineLeaf
later_leaves l = line_leaves (bare l.line) l.ending

abbrev pub lines_leaves : List HtmlLine → List InlineLeaf
lines_leaves [] = []
lines_leaves (first ∷ others) = line_leaves first.line first.ending ++ flat_map later_leaves others

-- HTML cut at its line endings: each line is a piece, if anything is left of it, and each ending
abbrev pub html_leaves : List Code → List InlineLeaf
html_leaves html = lines_leaves (html_lines html)
