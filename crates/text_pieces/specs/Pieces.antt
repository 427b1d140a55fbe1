-- The lines of a text, and of pieces of it, as lines of a block.
use Rattle.std.specs.Prelude.{ℕ, List, ◌++◌, map, replicate}
use Rattle.definition_text.specs.Lines.{TextLine, lines}
use Rattle.definition_text.specs.Columns.{tab_column}
use Rattle.definition_text.specs.BlockLines.{BlockLine, block_line, spaced_line}
use Rattle.text_pieces.specs.declared.piece.Piece.{Piece}

-- the lines of a text as lines of a block
abbrev pub whole_line : TextLine → BlockLine
whole_line line = spaced_line line.content line.ending

abbrev pub whole_lines : List ℕ → List BlockLine
whole_lines text = map whole_line (lines text)

-- the line that a piece of the text stands for
abbrev pub piece_line : Piece → BlockLine
piece_line piece = block_line (replicate piece.owed tab_column ++ piece.text.now) piece.ending piece.before

abbrev pub piece_lines : List Piece → List BlockLine
piece_lines pieces = map piece_line pieces
