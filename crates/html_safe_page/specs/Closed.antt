-- What safe pages are made of.
use Rattle.std.specs.Prelude.{◌≡◌, ℕ, true, List, [], ◌∷◌, ◌++◌, codes}
use Rattle.definition_text.specs.Ascii.{slash, less_than, greater_than}
use Rattle.definition_text.specs.Encode.{encode}
use Rattle.html_safe_page.specs.Table.{start_rows_of, void_rows_of}
use Rattle.html_safe_page.specs.declared.table.TagTable.{TagTable}
use Rattle.html_safe_page.specs.SafePage.{Tag, spell_tag, void_end, is_tag_of, IsSafePageBy}

-- an element with this inside
abbrev pub element : Tag → List ℕ → List ℕ
element tag inside = less_than ∷ spell_tag tag (greater_than ∷ (inside ++ (less_than ∷ slash ∷ (tag.name ++ codes ">"))))

abbrev pub void : Tag → List ℕ
void tag = less_than ∷ spell_tag tag (void_end ++ codes ">")

pub record Closure (table : TagTable) : Type 0 where
  pub nothing : IsSafePageBy table []
  pub line_feed : IsSafePageBy table (codes "\n")
  pub carriage_return : IsSafePageBy table (codes "\r")
  pub both : IsSafePageBy table (codes "\r\n")
  pub text : (text : List ℕ) → IsSafePageBy table (encode text)
  pub void_tag : (tag : Tag) → is_tag_of (void_rows_of table) tag ≡ true → IsSafePageBy table (void tag)
  pub tags_around : (tag : Tag) (inside : List ℕ) → is_tag_of (start_rows_of table) tag ≡ true → IsSafePageBy table inside
      → IsSafePageBy table (element tag inside)
  pub in_a_row : (one other : List ℕ) → IsSafePageBy table one → IsSafePageBy table other → IsSafePageBy table (one ++ other)
  -- one before a tag of another one, where 60 is the byte `<`
  pub put_in : (before after inner : List ℕ) → IsSafePageBy table (before ++ less_than ∷ after) → IsSafePageBy table inner
      → IsSafePageBy table (before ++ (inner ++ less_than ∷ after))
