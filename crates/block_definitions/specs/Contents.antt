-- How many bytes lines have in a content.
use Rattle.std.specs.Prelude.{ℕ, Bool, false, ◌==◌, List, [], ◌∷◌, length}
use Rattle.std.specs.List.{sum_by}
use Rattle.text_pieces.specs.declared.piece.Piece.{Piece}
use Rattle.definition_text.specs.Ascii.{left_bracket}
use Rattle.definition_text.specs.BlockLines.{BlockLine}
use Rattle.definition_text.specs.Content.{content_codes, line_text}
use Rattle.definition_inline.specs.Space.{after_spaces}

-- how many bytes a line has with its ending, and lines have
abbrev pub room : BlockLine → ℕ
room line = length (line_text line)

abbrev pub total : List BlockLine → ℕ
total ls = sum_by room ls

-- whether an opening bracket comes first
abbrev pub begins_label : List ℕ → Bool
begins_label [] = false
begins_label (c ∷ cs) = c == left_bracket

-- whether one comes first after the spaces and tabs of the first line
abbrev pub begins_with_bracket : List Piece → Bool
begins_with_bracket [] = false
begins_with_bracket (piece ∷ others) = begins_label (after_spaces (content_codes piece.text.now))
