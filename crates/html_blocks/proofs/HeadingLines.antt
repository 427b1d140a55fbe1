-- The lines of a heading.
use Rattle.std.proofs.Common.{List, [], ◌∷◌}
use Rattle.html_blocks.proofs.Prelude.{BlockLine, own_lines}
use Rattle.html_looseness.specs.Printable.{AreHeadingLines}
use Rattle.html_rows.proofs.Lines.{with_ending}
use Rattle.html_contents.specs.Texts.{AreTextLines}

-- they are those of a text
pub heading_text_lines : (ls : List BlockLine) → AreHeadingLines (own_lines ls) → AreTextLines ls
heading_text_lines [] h = tt
heading_text_lines (a ∷ []) h = h
heading_text_lines (a ∷ b ∷ []) h = with_ending (a ∷ b ∷ []) h
heading_text_lines (a ∷ b ∷ c ∷ others) h = with_ending (a ∷ b ∷ c ∷ others) h
