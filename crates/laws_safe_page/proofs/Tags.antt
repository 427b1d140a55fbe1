-- Tags, as they are printed, are tags of a safe page.
use Rattle.std.proofs.Common.{◌≡◌, ℕ, Bool, true, eqb, not, ◌||◌, List, [], ◌∷◌, ◌++◌, codes, sym, refl, ap, ◌∙◌, subst, append_assoc, inl, inr}
use Rattle.std.specs.List.{flat_map, list_all, list_any}
use Rattle.std.proofs.lemmas.Bool.{and_parts, and_from, false≢true, or_cases, or_left, or_parts, or_right, not-true}
use Rattle.definition_page.specs.Tags.{said_bytes, Attribute, attribute_bytes, Tag, tag_bytes, start_tag, end_tag, void_tag}
use Rattle.html_safe_page.specs.Table.{Row, start_rows, start_rows_of, more_start_rows, void_rows, void_rows_of, more_void_rows}
use Rattle.html_safe_page.specs.declared.table.TagTable.{TagTable}
use Rattle.html_safe_page.specs.declared.table.TagTable.TheVariants.{Basic, Extended}
use Rattle.html_safe_page.specs.SafePage as safe
use Rattle.html_safe_page.specs.SafePage.{kind, is_of_row, is_tag_of, spell_text, spell_attributes, spell_tag}
use Rattle.html_safe_page.specs.Reader.{attribute, tag_of}
use Rattle.html_safe_page.proofs.Text.{is_plain, spell_text-append}
use Rattle.html_safe_page.proofs.Spelled.{all_values, is_word_byte, is_word, word_bytes, is_worded_list, is_worded}
use Rattle.html_safe_page.proofs.Pages.{start_worded_by, void_worded_by}
use Rattle.html_safe_page.proofs.Sound.{tag_append}
use Rattle.laws_safe_page.proofs.Marked.{IsPage, void_page, element_page}
use Rattle.laws_safe_page.proofs.Values.{has_no_nul, no_nul_append, IsText}

-- the value of each attribute is a text
abbrev pub HaveTexts : List Attribute → Type 0
HaveTexts [] = Unit {0}
HaveTexts (a ∷ others) = IsText (flat_map said_bytes a.value) × HaveTexts others

-- attributes with their texts
abbrev pub with_texts : (attributes : List Attribute) → HaveTexts attributes → List safe.Attribute
with_texts [] h = []
with_texts (a ∷ others) h = attribute a.name h.0.0 ∷ with_texts others h.1

abbrev pub tag_with : (t : Tag) → HaveTexts t.attributes → safe.Tag
tag_with t h = tag_of t.name (with_texts t.attributes h)

-- a tag is one of these rows
abbrev pub IsTag : List Row → Tag → Type 0
IsTag rows t = (texts : HaveTexts t.attributes) × (is_tag_of rows (tag_with t texts) ≡ true)

-- ---- tags of more rows

any_first : (f : Row → Bool) (rows more : List Row) → list_any f rows ≡ true → list_any f (rows ++ more) ≡ true
any_first f [] more h = absurd (false≢true h)
any_first f (row ∷ rows) more h =
    elim (or_cases (f row) (list_any f rows) h) [
      | inl e ↦ or_left (f row) (list_any f (rows ++ more)) e
      | inr e ↦ or_right (f row) (list_any f (rows ++ more)) (any_first f rows more e)
    ]

any_last : (f : Row → Bool) (rows more : List Row) → list_any f more ≡ true → list_any f (rows ++ more) ≡ true
any_last f [] more h = h
any_last f (row ∷ rows) more h = or_right (f row) (list_any f (rows ++ more)) (any_last f rows more h)

more_rows : (rows others : List Row) (t : Tag) → ((f : Row → Bool) → list_any f rows ≡ true → list_any f others ≡ true) → IsTag rows t → IsTag others t
more_rows rows others t kept i =
    let it = tag_with t i.0 in
    let values = all_values it.name it.attributes in
    let parts = and_parts (list_any (is_of_row it) rows) values i.1 in
    (i.0, and_from (list_any (is_of_row it) others) values (kept (is_of_row it) parts.0) parts.1)

-- a tag of the basic table is one of each table
pub as_start : (table : TagTable) (t : Tag) → IsTag start_rows t → IsTag (start_rows_of table) t
as_start Basic t i = i
as_start Extended t i = more_rows start_rows (start_rows ++ more_start_rows) t (λ f h. any_first f start_rows more_start_rows h) i

pub as_void : (table : TagTable) (t : Tag) → IsTag void_rows t → IsTag (void_rows_of table) t
as_void Basic t i = i
as_void Extended t i = more_rows void_rows (void_rows ++ more_void_rows) t (λ f h. any_first f void_rows more_void_rows h) i

-- what only the extended table has is one of its tags
pub as_more_start : (table : TagTable) (t : Tag) → table ≡ Extended → IsTag more_start_rows t → IsTag (start_rows_of table) t
as_more_start table t e i =
    subst (λ table. IsTag (start_rows_of table) t) (sym e)
    (more_rows more_start_rows (start_rows ++ more_start_rows) t (λ f h. any_last f start_rows more_start_rows h) i)

pub as_more_void : (table : TagTable) (t : Tag) → table ≡ Extended → IsTag more_void_rows t → IsTag (void_rows_of table) t
as_more_void table t e i =
    subst (λ table. IsTag (void_rows_of table) t) (sym e)
    (more_rows more_void_rows (void_rows ++ more_void_rows) t (λ f h. any_last f void_rows more_void_rows h) i)

-- ---- how they are spelled

attributes_spelled : (attributes : List Attribute) (h : HaveTexts attributes)
    → flat_map attribute_bytes attributes ≡ spell_attributes (with_texts attributes h) []
attributes_spelled [] h = refl
attributes_spelled (a ∷ others) h =
    let start = a.name ++ codes "=\"" in
    let value = flat_map said_bytes a.value in
    let rest = flat_map attribute_bytes others in
    ap (λ x. 32 ∷ x)
    (append_assoc (start ++ value) (34 ∷ []) rest
    ∙ append_assoc start value (34 ∷ rest)
    ∙ ap (λ x. start ++ (x ++ (34 ∷ rest))) h.0.1
    ∙ ap (λ x. start ++ x) (spell_text-append h.0.0 (34 ∷ rest))
    ∙ ap (λ x. start ++ spell_text h.0.0 (34 ∷ x)) (attributes_spelled others h.1))

tag_spelled : (t : Tag) (h : HaveTexts t.attributes) (after : List ℕ) → tag_bytes t ++ after ≡ spell_tag (tag_with t h) after
tag_spelled t h after = ap (λ x. (t.name ++ x) ++ after) (attributes_spelled t.attributes h) ∙ sym (tag_append (tag_with t h) [] after)

-- ---- no NUL is printed of a tag

word_no_nul : (word : List ℕ) → list_all is_word_byte word ≡ true → has_no_nul word ≡ true
word_no_nul [] h = refl
word_no_nul (b ∷ bs) h =
    let parts = and_parts (is_word_byte b) (list_all is_word_byte bs) h in
    let other = not-true (eqb b 32 || eqb b 61 || eqb b 47 || eqb b 0) (and_parts (is_plain (kind b)) _ parts.0).1 in
    and_from (not (eqb b 0)) (has_no_nul bs) (ap not (or_parts (eqb b 32 || eqb b 61 || eqb b 47) (eqb b 0) other).1) (word_no_nul bs parts.1)

name_no_nul : (name : List ℕ) → is_word name ≡ true → has_no_nul name ≡ true
name_no_nul name h = word_no_nul name (word_bytes name h)

attributes_no_nul : (attributes : List Attribute) (h : HaveTexts attributes) → is_worded_list (with_texts attributes h) ≡ true
    → has_no_nul (flat_map attribute_bytes attributes) ≡ true
attributes_no_nul [] h w = refl
attributes_no_nul (a ∷ others) h w =
    let parts = and_parts (is_word a.name) (is_worded_list (with_texts others h.1)) w in
    let value = flat_map said_bytes a.value in
    let named = codes " " ++ a.name ++ codes "=\"" in
    no_nul_append (attribute_bytes a) (flat_map attribute_bytes others)
    (no_nul_append (named ++ value) (codes "\"")
    (no_nul_append named value (no_nul_append (codes " " ++ a.name) (codes "=\"") (name_no_nul a.name parts.0) refl) h.0.2) refl)
    (attributes_no_nul others h.1 parts.1)

tag_no_nul : (t : Tag) (h : HaveTexts t.attributes) → is_worded (tag_with t h) ≡ true → has_no_nul (tag_bytes t) ≡ true
tag_no_nul t h w =
    let parts = and_parts (is_word t.name) (is_worded_list (with_texts t.attributes h)) w in
    no_nul_append t.name (flat_map attribute_bytes t.attributes) (name_no_nul t.name parts.0) (attributes_no_nul t.attributes h parts.1)

-- ---- tags of a table

module _ (marks : Bool) (table : TagTable) where
  pub page_around : (t : Tag) (inside : List ℕ) → IsTag (start_rows_of table) t → IsPage marks table inside
      → IsPage marks table (start_tag t ++ (inside ++ end_tag t.name))
  page_around t inside i p =
      let rest = inside ++ end_tag t.name in
      subst (IsPage marks table) (sym (ap (λ x. 60 ∷ x) (append_assoc (tag_bytes t) (62 ∷ []) rest ∙ tag_spelled t i.0 (62 ∷ rest))))
      (element_page marks table (tag_with t i.0) inside i.1 p)

  pub page_of_void : (t : Tag) → IsTag (void_rows_of table) t → IsPage marks table (void_tag t)
  page_of_void t i =
      subst (IsPage marks table) (sym (ap (λ x. 60 ∷ x) (tag_spelled t i.0 (codes " />")))) (void_page marks table (tag_with t i.0) i.1)

module _ (table : TagTable) where
  pub start_no_nul : (t : Tag) → IsTag (start_rows_of table) t → has_no_nul (start_tag t) ≡ true
  start_no_nul t i = no_nul_append (tag_bytes t) (codes ">") (tag_no_nul t i.0 (start_worded_by table (tag_with t i.0) i.1)) refl

  pub end_no_nul : (t : Tag) → IsTag (start_rows_of table) t → has_no_nul (end_tag t.name) ≡ true
  end_no_nul t i =
      no_nul_append t.name (codes ">") (name_no_nul t.name (and_parts (is_word t.name) _ (start_worded_by table (tag_with t i.0) i.1)).0) refl

  pub void_no_nul : (t : Tag) → IsTag (void_rows_of table) t → has_no_nul (void_tag t) ≡ true
  void_no_nul t i = no_nul_append (tag_bytes t) (codes " />") (tag_no_nul t i.0 (void_worded_by table (tag_with t i.0) i.1)) refl
