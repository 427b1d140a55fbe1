-- The cells of lines (GFM 4.10).
use Rattle.std.specs.Prelude.{◌≡◌, ℕ, true, false, not, ◌==◌, List, [], ◌∷◌}
use Rattle.std.specs.List.{list_all}
use Rattle.definition_text.specs.Ascii.{vertical_bar}
use Rattle.markdown_options.specs.declared.beside.Kind.{Kind}
use Rattle.markdown_options.specs.declared.beside.Kind.TheVariants.{Whitespace}
use Rattle.definition_text.specs.Columns.{is_blank}
use Rattle.definition_block.specs.GfmTable.{cell, cells}

-- a line without a bar that isn't blank is one cell
abbrev pub OneCell : Type 0
OneCell =
    (before : Kind) (line : List ℕ) → list_all (λ c. not (c == vertical_bar)) line ≡ true → is_blank line ≡ false
    → cells before line ≡ cell line before Whitespace ∷ []
