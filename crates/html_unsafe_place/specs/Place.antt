-- The first place of a page that isn't safe.
use Rattle.std.specs.Prelude.{◌≡◌, ◌+◌, ◌==◌, if◌then◌else◌, ℕ, List, [], ◌∷◌, Option, None, Some, take, drop}
use Rattle.definition_text.specs.Ascii.{line_feed}
use Rattle.html_safe_page.specs.declared.table.TagTable.TheVariants.{Basic}
use Rattle.html_safe_page.specs.SafePage.{IsSafePage}
use Rattle.html_safe_page.specs.Place.{IsUnsafeAt}
use Rattle.html_unsafe_place.specs.What.{unsafe_at}
use Rattle.html_unsafe_place.specs.declared.place.UnsafePlace.{UnsafePlace}

-- the line after bytes that begin on this line
abbrev pub line_after : ℕ → List ℕ → ℕ
line_after line [] = line
line_after line (b ∷ bs) = line_after (if b == line_feed then line + 1 else line) bs

-- the column after bytes that begin at this column
abbrev pub column_after : ℕ → List ℕ → ℕ
column_after column [] = column
column_after column (b ∷ bs) = column_after (if b == line_feed then 1 else column + 1) bs

-- what is found at the place after the first n bytes of a page
pub record IsPlaceAt (page : List ℕ) (n : ℕ) (found : UnsafePlace) : Type 0 where
  pub line : found.line ≡ line_after 1 (take n page)
  pub column : found.column ≡ column_after 1 (take n page)
  pub what : found.what ≡ unsafe_at (drop n page)

-- nothing for a safe page, and otherwise the place after its longest beginning that end tags make a safe page
abbrev pub IsFirstUnsafe : List ℕ → Option UnsafePlace → Type 0
IsFirstUnsafe page None = IsSafePage page
IsFirstUnsafe page (Some found) = (n : ℕ) × (IsUnsafeAt Basic page n × IsPlaceAt page n found)
