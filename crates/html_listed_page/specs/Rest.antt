-- What is left of a page where elements are open.
use Rattle.std.specs.Prelude.{◌≡◌, ◌↔◌, ℕ, Bool, true, false, List, [], ◌∷◌, ◌++◌, IsTrue}
use Rattle.definition_text.specs.Ascii.{slash, less_than, greater_than}
use Rattle.html_safe_page.specs.SafePage.{Tag, Items, spell_before}
use Rattle.html_safe_page.specs.declared.table.TagTable.{TagTable}
use Rattle.html_listed.specs.ListedPage.{have_tags, is_start, is_void}
use Rattle.html_listed_page.specs.Tags.{lacks}

-- items whose tags pass these tests, and what may follow them
pub record HasItems (start void : Tag → Bool) (After : List ℕ → Type 0) (bytes : List ℕ) : Type 0 where
  pub items : Items
  pub next : List ℕ
  pub tags : IsTrue (have_tags start void items)
  pub spelling : spell_before items next ≡ bytes
  pub follows : After next

-- the end tag of this name, and what may follow it
pub record HasEnd (name : List ℕ) (After : List ℕ → Type 0) (bytes : List ℕ) : Type 0 where
  pub rest : List ℕ
  pub one_tag : IsTrue (lacks greater_than name)
  pub spelling : less_than ∷ slash ∷ (name ++ (greater_than ∷ rest)) ≡ bytes
  pub follows : After rest

-- what may follow the items of the innermost of these elements, whose names are given
abbrev pub IsAfter : (Tag → Bool) → (Tag → Bool) → List (List ℕ) → List ℕ → Type 0
IsAfter start void [] bytes = bytes ≡ []
IsAfter start void (n ∷ ns) bytes = HasEnd n (HasItems start void (IsAfter start void ns)) bytes

-- what may follow where these elements are open
abbrev pub IsRestWith : (Tag → Bool) → (Tag → Bool) → List (List ℕ) → List ℕ → Type 0
IsRestWith start void names bytes = HasItems start void (IsAfter start void names) bytes

-- in a listed page
abbrev pub IsRest : TagTable → List (List ℕ) → List ℕ → Type 0
IsRest table names bytes = IsRestWith (is_start table) (is_void table) names bytes

-- a tag, by what stands between its `<` and `>`, before other bytes
abbrev pub in_tag : List ℕ → List ℕ → List ℕ
in_tag tag rest = less_than ∷ (tag ++ (greater_than ∷ rest))

-- what may follow a tag may follow where these elements are open then; or the tag can't stand here
abbrev pub Leads : TagTable → Bool → List ℕ → List (List ℕ) → List (List ℕ) → Type 0
Leads table true tag before after = (rest : List ℕ) → IsRest table before (in_tag tag rest) ↔ IsRest table after rest
Leads table false tag before after = (rest : List ℕ) → IsRest table before (in_tag tag rest) → ⊥
