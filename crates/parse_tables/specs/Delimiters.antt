-- Rows of delimiters, part by part (GFM 4.10).
use Rattle.std.specs.Prelude.{◌≡◌, ℕ, Bool, true, false, not, ◌==◌, ◌&&◌, List, [], ◌∷◌, ◌++◌, replicate}
use Rattle.definition_text.specs.Ascii.{colon, hyphen}
use Rattle.definition_text.specs.Columns.{is_white}
use Rattle.definition_block.specs.GfmTable.{alignment}
use Rattle.markdown_options.specs.declared.align_kind.AlignKind.{AlignKind}

-- a colon, or nothing
abbrev pub colon_if : Bool → List ℕ
colon_if true = colon ∷ []
colon_if false = []

-- whether no colon and no dash comes first
abbrev pub begins_other : List ℕ → Bool
begins_other [] = true
begins_other (b ∷ bs) = not (b == colon) && not (b == hyphen)

-- bytes are bars, white space and delimiters, which say how so many columns are aligned
pub data AreDelimiters : List ℕ → List AlignKind → Type 0 where
  none : AreDelimiters [] []
  bar : {bs : List ℕ} {aligns : List AlignKind} → AreDelimiters bs aligns → AreDelimiters (124 ∷ bs) aligns
  white : {b : ℕ} {bs : List ℕ} {aligns : List AlignKind} → is_white b ≡ true → AreDelimiters bs aligns → AreDelimiters (b ∷ bs) aligns
  column : {bytes bs : List ℕ} {aligns : List AlignKind} (left right : Bool) (n : ℕ)
      → bytes ≡ colon_if left ++ (hyphen ∷ (replicate n hyphen ++ (colon_if right ++ bs))) → begins_other bs ≡ true
      → AreDelimiters bs aligns → AreDelimiters bytes (alignment left right ∷ aligns)
