-- The names of listed tags and of their attributes are words.
use Rattle.std.proofs.Common.{◌≡◌, ℕ, List, [], ◌∷◌, ◌++◌, true, not, ◌&&◌, ◌||◌, codes, refl, ◌∙◌, subst, inl, inr}
use Rattle.std.specs.List.{list_any, list_all}
use Rattle.std.specs.Str.{bytes_eq}
use Rattle.std.proofs.lemmas.Bool.{cond_both, false≢true, and_parts, and_from, or_cases}
use Rattle.std.proofs.lemmas.List.Folds.{list_all-append}
use Rattle.html_safe_page.specs.SafePage.{Attribute, Tag, spell_attributes, spell_tag}
use Rattle.html_safe_page.proofs.Spelled.{is_word_byte, is_word, starts_word, is_worded_list, is_worded, same_bytes}
use Rattle.html_safe_page.proofs.Pages.{start_worded_by, void_worded_by}
use Rattle.html_safe_page.specs.declared.table.TagTable.{TagTable}
use Rattle.definition_html.specs.Listing.{is_in, is_listed, free_names, heading_names, void_names, PartRow, part_rows, is_part, listed_attributes}
use Rattle.html_listed.specs.ListedPage.{url_names, attribute_names, are_some_of, is_listed_tag, is_listed_start, is_listed_void, is_start, is_void}

-- ---- what a tag begins with

name_starts : (name rest : List ℕ) → is_word name ≡ true → starts_word (name ++ rest) ≡ true
name_starts [] rest h = absurd (false≢true h)
name_starts (b ∷ bs) rest h = (and_parts (is_word_byte b) (list_all is_word_byte bs) h).0

pub tag_starts : (t : Tag) (x : List ℕ) → is_worded t ≡ true → starts_word (spell_tag t x) ≡ true
tag_starts t x h = name_starts t.name (spell_attributes t.attributes x) (and_parts (is_word t.name) (is_worded_list t.attributes) h).0

-- ---- tags of the list

-- a name that is one of some words is a word
one_of_words : (names : List (List ℕ)) (name : List ℕ) → list_all is_word names ≡ true → is_in names name ≡ true → is_word name ≡ true
one_of_words [] name h k = absurd (false≢true k)
one_of_words (n ∷ ns) name h k =
    let words = and_parts (is_word n) (list_all is_word ns) h in
    elim (or_cases (bytes_eq n name) (is_in ns name) k) [
      | inl e ↦ subst (λ m. is_word m ≡ true) (same_bytes n name e) words.0
      | inr e ↦ one_of_words ns name words.1 e
    ]

one_of_parts : (rows : List PartRow) (name : List ℕ) → list_all (λ (row : PartRow). list_all is_word row.names) rows ≡ true
    → list_any (λ (row : PartRow). is_in row.names name) rows ≡ true → is_word name ≡ true
one_of_parts [] name h k = absurd (false≢true k)
one_of_parts (row ∷ rows) name h k =
    let words = and_parts (list_all is_word row.names) _ h in
    elim (or_cases (is_in row.names name) _ k) [
      | inl e ↦ one_of_words row.names name words.0 e
      | inr e ↦ one_of_parts rows name words.1 e
    ]

free_words : list_all is_word free_names ≡ true
unfolding free_names
free_words = refl

heading_words : list_all is_word heading_names ≡ true
unfolding heading_names
heading_words = refl

void_words : list_all is_word void_names ≡ true
unfolding void_names
void_words = refl

part_words : list_all (λ (row : PartRow). list_all is_word row.names) part_rows ≡ true
unfolding part_rows
part_words = refl

attribute_words : list_all is_word listed_attributes ≡ true
unfolding listed_attributes
attribute_words = refl

listed_is_word : (name : List ℕ) → is_listed name ≡ true → is_word name ≡ true
listed_is_word name h =
    elim (or_cases (is_in free_names name || is_in heading_names name || is_in void_names name) (is_part name) h) [
      | inl most ↦ elim (or_cases (is_in free_names name || is_in heading_names name) (is_in void_names name) most) [
        | inl more ↦ elim (or_cases (is_in free_names name) (is_in heading_names name) more) [
          | inl e ↦ one_of_words free_names name free_words e
          | inr e ↦ one_of_words heading_names name heading_words e
        ]
        | inr e ↦ one_of_words void_names name void_words e
      ]
      | inr e ↦ one_of_parts part_rows name part_words e
    ]

some_are_words : (names : List (List ℕ)) (attributes : List Attribute) → list_all is_word names ≡ true → are_some_of names attributes ≡ true
    → is_worded_list attributes ≡ true
some_are_words [] [] h k = refl
some_are_words [] (a ∷ others) h k = absurd (false≢true k)
some_are_words (n ∷ ns) [] h k = refl
some_are_words (n ∷ ns) (a ∷ others) h k =
    let words = and_parts (is_word n) (list_all is_word ns) h in
    elim (or_cases (bytes_eq n a.name && are_some_of ns others) (are_some_of ns (a ∷ others)) k) [
      | inl e ↦
          let parts = and_parts (bytes_eq n a.name) (are_some_of ns others) e in
          and_from (is_word a.name) (is_worded_list others) (subst (λ m. is_word m ≡ true) (same_bytes n a.name parts.0) words.0)
          (some_are_words ns others words.1 parts.1)
      | inr e ↦ some_are_words ns (a ∷ others) words.1 e
    ]

url_words : (name : List ℕ) → list_all is_word (url_names name) ≡ true
url_words name =
    cond_both (bytes_eq name (codes "a")) (codes "href" ∷ []) _ (λ names. list_all is_word names ≡ true) (λ _. refl)
    (λ _. cond_both (bytes_eq name (codes "img")) (codes "src" ∷ []) [] (λ names. list_all is_word names ≡ true) (λ _. refl) (λ _. refl))

pub tag_is_worded : (t : Tag) → is_listed_tag t ≡ true → is_worded t ≡ true
tag_is_worded t h =
    let parts = and_parts (is_listed t.name) _ h in
    let more = and_parts (are_some_of (attribute_names t.name) t.attributes) _ parts.1 in
    and_from (is_word t.name) (is_worded_list t.attributes) (listed_is_word t.name parts.0)
    (some_are_words (attribute_names t.name) t.attributes
    (list_all-append is_word (url_names t.name) listed_attributes ∙ and_from _ (list_all is_word listed_attributes) (url_words t.name) attribute_words) more.0)

pub start_is_worded : (table : TagTable) (t : Tag) → is_start table t ≡ true → is_worded t ≡ true
start_is_worded table t h =
    elim (or_cases (is_listed_start t) _ h) [
      | inl e ↦ tag_is_worded t (and_parts (not (is_in void_names t.name)) (is_listed_tag t) e).1
      | inr e ↦ start_worded_by table t e
    ]

pub void_is_worded : (table : TagTable) (t : Tag) → is_void table t ≡ true → is_worded t ≡ true
void_is_worded table t h =
    elim (or_cases (is_listed_void t) _ h) [
      | inl e ↦ tag_is_worded t (and_parts (is_in void_names t.name) (is_listed_tag t) e).1
      | inr e ↦ void_worded_by table t e
    ]
