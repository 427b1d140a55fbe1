-- The lines of a paragraph and of a heading without the ending of the last one.
use Rattle.std.proofs.Common.{List, [], ◌∷◌}
use Rattle.html_rows.proofs.Prelude.{AreHeadingLines, AreLines, BlockLine, own_lines}

pub without_ending : (ls : List BlockLine) → AreLines ls → AreLines (own_lines ls)
without_ending [] h = tt
without_ending (a ∷ []) h = h
without_ending (a ∷ b ∷ []) h = h
without_ending (a ∷ b ∷ c ∷ others) h = (h.0, h.1, h.2, without_ending (b ∷ c ∷ others) h.3)

pub heading_lines : (ls : List BlockLine) → AreLines ls → AreHeadingLines (own_lines ls)
heading_lines [] h = tt
heading_lines (a ∷ []) h = h.0
heading_lines (a ∷ b ∷ []) h = h
heading_lines (a ∷ b ∷ c ∷ others) h = without_ending (a ∷ b ∷ c ∷ others) h
