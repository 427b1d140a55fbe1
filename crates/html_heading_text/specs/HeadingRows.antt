-- What a heading says, row by row.
use Rattle.std.specs.Prelude.{ℕ, zero, suc, List, [], ◌∷◌, ◌++◌}
use Rattle.definition_inline.specs.Inline.{Link, Image}
use Rattle.inline_rows.specs.InlineRows.{InlineRow, Part, EnterSpan, EnterLinked, Leave, CallRow}
use Rattle.html_heading_text.specs.HeadingLines.{leaf_says}
use Rattle.html_heading_text.specs.declared.heading_text.Endings.{Endings}

-- a row that isn't in an image
abbrev pub row_says : Endings → InlineRow → List ℕ
row_says endings (Part part) = leaf_says endings part
row_says endings (EnterSpan kind) = []
row_says endings (EnterLinked kind target) = []
row_says endings Leave = []
row_says endings (CallRow label) = []

-- one part more is open, if an image is
abbrev pub one_more : ℕ → ℕ
one_more zero = zero
one_more (suc n) = suc (suc n)

abbrev pub one_less : ℕ → ℕ
one_less zero = zero
one_less (suc n) = n

-- how many parts are open from the outermost image on, after a row
abbrev pub silent_after : ℕ → InlineRow → ℕ
silent_after silent (Part part) = silent
silent_after silent (EnterSpan kind) = one_more silent
silent_after silent (EnterLinked Link target) = one_more silent
silent_after silent (EnterLinked Image target) = suc silent
silent_after silent Leave = one_less silent
silent_after silent (CallRow label) = silent

-- a row behind this number of open parts
abbrev pub says_in : Endings → ℕ → InlineRow → List ℕ
says_in endings zero row = row_says endings row
says_in endings (suc n) row = []

-- rows behind this number of open parts
abbrev pub rows_say : Endings → ℕ → List InlineRow → List ℕ
rows_say endings silent [] = []
rows_say endings silent (r ∷ rs) = says_in endings silent r ++ rows_say endings (silent_after silent r) rs
