-- The endings that wait at the end of the rows.
use Rattle.std.specs.Prelude.{Bool, true, false, ◌-◌, List, [], ◌∷◌, length, take, drop}
use Rattle.definition_block.specs.Container.{Container, Quote, Item, Footnote}
use Rattle.block_rows.specs.declared.row.Row.{Row}
use Rattle.block_rows.specs.declared.row.Row.TheVariants as row

-- the endings that stand in a container that ends, and those that stand after it
abbrev pub inside : Container → List Row → List Row
inside Quote waiting = take (length waiting - 1) waiting
inside c waiting = []

abbrev pub outside : Container → List Row → List Row
outside Quote waiting = drop (length waiting - 1) waiting
outside c waiting = waiting

-- whether these are the ending of one blank line
abbrev pub is_one_blank_row : List Row → Bool
is_one_blank_row (row.Blank ending ∷ []) = true
is_one_blank_row rows = false

abbrev pub enter_row : Container → Row
enter_row Quote = row.EnterQuote
enter_row (Item item) = row.EnterItem item.marker item.number
enter_row (Footnote label) = row.EnterFootnote
