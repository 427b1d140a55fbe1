-- Where a page can't be read on.
use Rattle.std.specs.Prelude.{ℕ, ◌≤◌, List, [], ◌∷◌, ◌++◌, Option, None, Some, length, take}
use Rattle.definition_text.specs.Ascii.{slash, less_than, greater_than}
use Rattle.html_safe_page.specs.SafePage.{IsSafePageBy}
use Rattle.html_safe_page.specs.declared.table.TagTable.{TagTable}

-- end tags of these names
abbrev pub end_tags : List (List ℕ) → List ℕ
end_tags [] = []
end_tags (n ∷ ns) = less_than ∷ slash ∷ (n ++ (greater_than ∷ end_tags ns))

-- end tags make a safe page of bytes
abbrev pub IsBeginning : TagTable → List ℕ → Type 0
IsBeginning table bytes = (names : List (List ℕ)) × IsSafePageBy table (bytes ++ end_tags names)

-- the first n bytes are the longest beginning of a page that end tags make a safe page
pub record IsUnsafeAt (table : TagTable) (page : List ℕ) (n : ℕ) : Type 0 where
  pub not_safe : IsSafePageBy table page → ⊥
  pub within : n ≤ length page
  pub beginning : IsBeginning table (take n page)
  pub longest : (m : ℕ) → m ≤ length page → IsBeginning table (take m page) → m ≤ n

abbrev pub IsUnsafePlace : TagTable → List ℕ → Option ℕ → Type 0
IsUnsafePlace table page None = IsSafePageBy table page
IsUnsafePlace table page (Some n) = IsUnsafeAt table page n
