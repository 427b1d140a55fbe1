-- The rows of a content, wherever they stand.
use Rattle.std.specs.Prelude.{◌==◌, ◌&&◌, ℕ, Bool, not, List, [], ◌∷◌, drop}
use Rattle.definition_text.specs.Columns.{is_blank}
use Rattle.inline_rows.specs.declared.row.InlineRow.{InlineRow}
use Rattle.inline_text.specs.declared.plain.Front.{Front}
use Rattle.inline_parser.specs.declared.found.FoundRows.{FoundRows}
use Rattle.inline_parser.specs.declared.found.FoundRows.TheVariants.{Alone, InRoom, InList}

abbrev pub found_rows : {A : Type 0} → FoundRows A → List InlineRow
found_rows (Alone row) = row ∷ []
found_rows (InRoom rows) = rows.now
found_rows (InList rows) = rows.items

-- the text at the front of a content is all that is left of it, but for spaces and tabs at its end
abbrev pub is_alone : Front → List ℕ → Bool
is_alone front content = not (front.size == 0) && is_blank (drop front.size content)
