-- The marks of lines.
use Rattle.std.specs.Prelude.{ℕ, Bool, false, ◌==◌, ◌+◌, List, [], ◌∷◌, ◌++◌, length}
use Rattle.markdown_options.specs.declared.beside.Kind.{Kind}
use Rattle.markdown_options.specs.declared.beside.Kind.TheVariants.{Whitespace, Punctuation, Other}
use Rattle.definition_text.specs.BlockLines.{BlockLine}
use Rattle.definition_text.specs.Content.{line_text}
use Rattle.text_pieces.specs.declared.piece.Piece.{Piece}
use Rattle.text_pieces.specs.ParagraphLines.{HaveNoEnding, AreLines}
use Rattle.inline_content.specs.declared.mark.Mark.{Mark}

abbrev pub mark_of : ℕ → Kind → List Mark
mark_of place Whitespace = []
mark_of place Punctuation = record { place = place; kind = Punctuation } ∷ []
mark_of place Other = record { place = place; kind = Other } ∷ []

-- the marks of lines, the first of which starts at a place
abbrev pub marks_of : ℕ → List BlockLine → List Mark
marks_of place [] = []
marks_of place (line ∷ others) = mark_of place line.before ++ marks_of (place + length (line_text line)) others

-- the lines of a content: one without a line ending in it, or those of a paragraph
abbrev pub AreContentLines : List BlockLine → Type 0
AreContentLines [] = Unit {0}
AreContentLines (line ∷ []) = HaveNoEnding line.codes
AreContentLines (line ∷ next ∷ others) = AreLines (line ∷ next ∷ others)

-- there is one line, and no column of it is left of a tab
abbrev pub is_one_line : List Piece → Bool
is_one_line [] = false
is_one_line (line ∷ []) = line.owed == 0
is_one_line (line ∷ next ∷ others) = false
