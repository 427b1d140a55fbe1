-- The slugs that are taken (in no standard; as GitHub makes the ids of headings).
use Rattle.std.specs.Prelude.{◌≡◌, ◌<◌, ◌+◌, ℕ, true, false, List, length, Some, String, is_some}
use Rattle.std.specs.BTreeMap.{BTreeMap, btree_map_len, get_by_text}
use Rattle.definition_page.specs.Slug.{first_free, is_taken, numbered}

-- a slug is taken with each number below this one
abbrev pub AreTaken : List (List ℕ) → List ℕ → ℕ → Type 0
AreTaken taken slug count = (n : ℕ) → n < count → is_taken taken (numbered slug n) ≡ true

-- the number with which a slug is free, and the slug with it
pub record IsFree (taken : List (List ℕ)) (slug : List ℕ) (number : ℕ) (free : List ℕ) : Type 0 where
  pub named : free ≡ numbered slug number
  pub first : free ≡ first_free taken slug
  pub before : AreTaken taken slug number
  pub new : is_taken taken free ≡ false

-- the slugs that are taken: beside each is a number, and the slug is taken with each number up to that one
pub record HasSlugs {A : Type 0} (table : BTreeMap (String A) ℕ) (taken : List (List ℕ)) : Type 0 where
  pub keys : (slug : List ℕ) → is_some (get_by_text table slug) ≡ is_taken taken slug
  pub numbers : (slug : List ℕ) (last : ℕ) → get_by_text table slug ≡ Some last → AreTaken taken slug (last + 1)
  pub count : btree_map_len table ≡ length taken
