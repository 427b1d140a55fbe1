-- Lines without tabs (CommonMark 2.2).
use Rattle.std.specs.Prelude.{◌≡◌, ℕ, Bool, true, not, ◌==◌, List}
use Rattle.std.specs.List.{list_all}
use Rattle.definition_text.specs.Ascii.{tab}
use Rattle.definition_text.specs.Columns.{codes_from}

-- any byte but a tab
abbrev pub is_no_tab : ℕ → Bool
is_no_tab b = not (b == tab)

-- no byte is a tab
abbrev pub IsWithoutTabs : List ℕ → Type 0
IsWithoutTabs bytes = list_all is_no_tab bytes ≡ true

-- the codes of bytes without tabs are the bytes, from any column on
abbrev pub CodesAreBytes : Type 0
CodesAreBytes = (bytes : List ℕ) → IsWithoutTabs bytes → (column : ℕ) → codes_from column bytes ≡ bytes

-- bytes without tabs are read the same at any two columns
abbrev pub SameAtAnyColumn : Type 0
SameAtAnyColumn = (bytes : List ℕ) → IsWithoutTabs bytes → (column other : ℕ) → codes_from column bytes ≡ codes_from other bytes
