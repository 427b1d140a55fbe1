-- Texts, attributes and tags of a listed page, by their bytes.
use Rattle.std.specs.Prelude.{◌≡◌, ℕ, Bool, true, not, ◌==◌, List, [], ◌∷◌, ◌++◌, Option, None, Some, codes, IsTrue}
use Rattle.std.specs.List.{list_all}
use Rattle.std.proofs.Common.{Bor}
use Rattle.definition_text.specs.Ascii.{double_quote, equals}
use Rattle.html_safe_page.specs.SafePage.{spell_text, Attribute, attribute_start, spell_attributes, Tag, spell_tag}
use Rattle.html_listed.specs.ListedPage.{are_some_of, is_listed_value}

-- bytes are none but others than this one
abbrev pub lacks : ℕ → List ℕ → Bool
lacks c bytes = list_all (λ b. not (b == c)) bytes

-- bytes begin with this one, if there are any
abbrev pub stops_at : ℕ → List ℕ → Bool
stops_at c [] = true
stops_at c (b ∷ bs) = b == c

-- bytes are cut before the first such byte, or at their end
pub record IsCut (c : ℕ) (bytes before after : List ℕ) : Type 0 where
  pub parts : before ++ after ≡ bytes
  pub before_lacks : IsTrue (lacks c before)
  pub after_stops : IsTrue (stops_at c after)

-- bytes are letters and references
abbrev pub IsText : List ℕ → Type 0
IsText bytes = (text : List ℕ) × (spell_text text [] ≡ bytes)

-- the value of the attribute of this name that bytes begin with, as it is spelled, and what follows its `"`
abbrev pub IsQuoted : List ℕ → List ℕ → Option (Bor (List ℕ) × Bor (List ℕ)) → Type 0
IsQuoted name bytes None = (value after : List ℕ) → attribute_start name ++ (value ++ (double_quote ∷ after)) ≡ bytes → ⊥
IsQuoted name bytes (Some p) = IsTrue (lacks double_quote p.0.now) × (attribute_start name ++ (p.0.now ++ (double_quote ∷ p.1.now)) ≡ bytes)

-- names without `=`
abbrev pub are_names : List (List ℕ) → Bool
are_names names = list_all (lacks equals) names

-- bytes are attributes that have some of these names, in this order, with values of the list
pub record HasAttributes (names : List (List ℕ)) (bytes : List ℕ) : Type 0 where
  pub attributes : List Attribute
  pub named : IsTrue (are_some_of names attributes)
  pub values : IsTrue (list_all (λ a. is_listed_value a.name a.value) attributes)
  pub spelling : spell_attributes attributes [] ≡ bytes

-- bytes are a tag that passes a test, with what ends it
pub record IsTagOf (test : Tag → Bool) (ending bytes : List ℕ) : Type 0 where
  pub tag : Tag
  pub passes : IsTrue (test tag)
  pub spelling : spell_tag tag ending ≡ bytes

-- the element of a start tag with nothing in it, by what stands in the tag and its name
abbrev pub empty_element : List ℕ → List ℕ → List ℕ
empty_element tag name = codes "<" ++ tag ++ codes "></" ++ name ++ codes ">"

-- a void tag, by what stands before its ` /`
abbrev pub void_tag : List ℕ → List ℕ
void_tag tag = codes "<" ++ tag ++ codes " />"
