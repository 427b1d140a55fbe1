-- The cells of a line among its bytes, and what is written of them (GFM 4.10).
use Rattle.std.specs.Prelude.{◌≡◌, ◌⊎◌, ℕ, ◌+◌, true, ◌==◌, if◌then◌else◌, List, [], ◌∷◌, ◌++◌, drop, slice_index}
use Rattle.std.specs.List.{list_all, prefix_len}
use Rattle.markdown_options.specs.declared.beside.Kind.TheVariants.{Punctuation, Whitespace}
use Rattle.definition_text.specs.Ascii.{vertical_bar}
use Rattle.definition_text.specs.Columns.{bytes_of, is_white}
use Rattle.definition_block.specs.GfmTable.{Cell}

-- these are the cells of bytes, each with the bar after it; after the last one may be white space
abbrev pub AreCellsOf : List Cell → List ℕ → Type 0
AreCellsOf [] ahead = list_all is_white ahead ≡ true
AreCellsOf (c ∷ cs) ahead =
    ((c.after ≡ Whitespace) × (cs ≡ []) × (ahead ≡ bytes_of c.codes))
    ⊎ ((c.after ≡ Punctuation) × (rest : List ℕ) × (ahead ≡ bytes_of c.codes ++ vertical_bar ∷ rest) × AreCellsOf cs rest)

-- bytes after a bar that only white space is before
abbrev pub after_first_bar : List ℕ → List ℕ
after_first_bar bytes =
    let white = prefix_len is_white bytes in
    if slice_index bytes white == vertical_bar then drop (white + 1) bytes else bytes
