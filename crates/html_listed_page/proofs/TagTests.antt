-- The tests of tags.
use Rattle.std.proofs.Common.{◌≡◌, ◌↔◌, ℕ, List, [], ◌∷◌, ◌++◌, Bool, true, false, not, ◌&&◌, ◌||◌}
use Rattle.std.proofs.Common.{refl, sym, ap, ◌∙◌, subst, inl, inr}
use Rattle.std.proofs.lemmas.Bool.{true≢false, false≢true, and_parts, and_from, or_cases, or_left, or_right}
use Rattle.std.proofs.lemmas.List.{append-nil}
use Rattle.html_safe_page.specs.Table.{start_rows_of, void_rows_of}
use Rattle.html_safe_page.specs.SafePage.{Tag, spell_tag, spell_attributes, void_end, Items, End, Letter, Void}
use Rattle.html_safe_page.specs.SafePage.{Element, spell_before, is_tag_of, is_safe_by, IsSafePageBy}
use Rattle.html_safe_page.specs.Reader.{tag_of}
use Rattle.html_safe_page.specs.declared.table.TagTable.{TagTable}
use Rattle.html_safe_page.specs.declared.table.TagTable.TheVariants.{Basic}
use Rattle.html_safe_page.proofs.Sound.{tag_append}
use Rattle.html_safe_page.proofs.Spelled.{is_worded}
use Rattle.html_safe_page.proofs.Pages.{start_worded_by, void_worded_by}
use Rattle.definition_html.specs.Listing.{is_in, is_listed, void_names}
use Rattle.html_listed.specs.ListedPage.{attribute_names, are_some_of, is_listed_tag, is_listed_start, is_listed_void}
use Rattle.html_listed.specs.ListedPage.{have_tags}
use Rattle.html_listed_page.specs.Tags.{lacks, IsCut, IsText, HasAttributes, IsTagOf}
use Rattle.html_listed_page.specs.Rest.{IsRestWith, in_tag}
use Rattle.html_listed_page.proofs.Cuts.{lacks_append}
use Rattle.html_listed_page.proofs.Texts.{less_spared, text_lacks}
use Rattle.html_listed.proofs.Words.{tag_is_worded}
use Rattle.html_listed_page.proofs.Rests.{step, none_open, letters_off, letters_on}
use Rattle.html_listed_page.proofs.Pages.{no_slash, void_spelled, before_end, name_found}

-- ---- tags of the list

module _ (tag name attributes : List ℕ) (cut : IsCut 32 tag name attributes) where
  pub listed_tag : is_listed name ≡ true → HasAttributes (attribute_names name) attributes → IsTagOf is_listed_tag [] tag
  listed_tag h r = record {
    tag = tag_of name r.attributes;
    passes = and_from (is_listed name) _ h (and_from (are_some_of (attribute_names name) r.attributes) _ r.named r.values);
    spelling = ap (λ z. name ++ z) r.spelling ∙ cut.parts;
  }

  abbrev found : (t : Tag) → is_listed_tag t ≡ true → spell_tag t [] ≡ tag → (t.name ≡ name) × (spell_attributes t.attributes [] ≡ attributes)
  found t h e = name_found t tag name attributes (tag_is_worded t h) e cut

  pub listed_name : IsTagOf is_listed_tag [] tag → is_listed name ≡ true
  listed_name v = subst (λ n. is_listed n ≡ true) (found v.tag v.passes v.spelling).0 (and_parts (is_listed v.tag.name) _ v.passes).0

  pub listed_attributes_of : IsTagOf is_listed_tag [] tag → HasAttributes (attribute_names name) attributes
  listed_attributes_of v =
      let t = v.tag in
      let same = found t v.passes v.spelling in
      let parts = and_parts (are_some_of (attribute_names t.name) t.attributes) _ (and_parts (is_listed t.name) _ v.passes).1 in
      subst (λ n. HasAttributes (attribute_names n) attributes) same.0
      (record { attributes = t.attributes; named = parts.0; values = parts.1; spelling = same.1 })

module _ (tag name rest : List ℕ) (cut : IsCut 32 tag name rest) where
  pub start_listed : is_in void_names name ≡ false → IsTagOf is_listed_tag [] tag ↔ IsTagOf is_listed_start [] tag
  start_listed h = (
    λ v. record {
      tag = v.tag;
      passes = and_from (not (is_in void_names v.tag.name)) (is_listed_tag v.tag)
          (ap not (ap (is_in void_names) (found tag name rest cut v.tag v.passes v.spelling).0 ∙ h)) v.passes;
      spelling = v.spelling;
    },
    λ v. record { tag = v.tag; passes = (and_parts (not (is_in void_names v.tag.name)) (is_listed_tag v.tag) v.passes).1; spelling = v.spelling },
  )

  pub no_start_listed : is_in void_names name ≡ true → IsTagOf is_listed_start [] tag → ⊥
  no_start_listed h v =
      let parts = and_parts (not (is_in void_names v.tag.name)) (is_listed_tag v.tag) v.passes in
      false≢true (sym (ap not (ap (is_in void_names) (found tag name rest cut v.tag parts.1 v.spelling).0 ∙ h)) ∙ parts.0)

  pub void_listed : is_in void_names name ≡ true → IsTagOf is_listed_tag [] tag ↔ IsTagOf is_listed_void [] tag
  void_listed h = (
    λ v. record {
      tag = v.tag;
      passes = and_from (is_in void_names v.tag.name) (is_listed_tag v.tag)
          (ap (is_in void_names) (found tag name rest cut v.tag v.passes v.spelling).0 ∙ h) v.passes;
      spelling = v.spelling;
    },
    λ v. record { tag = v.tag; passes = (and_parts (is_in void_names v.tag.name) (is_listed_tag v.tag) v.passes).1; spelling = v.spelling },
  )

  pub no_void_listed : is_in void_names name ≡ false → IsTagOf is_listed_void [] tag → ⊥
  no_void_listed h v =
      let parts = and_parts (is_in void_names v.tag.name) (is_listed_tag v.tag) v.passes in
      true≢false (sym parts.0 ∙ ap (is_in void_names) (found tag name rest cut v.tag parts.1 v.spelling).0 ∙ h)

-- ---- either

pub first_of : (one two : Tag → Bool) (bytes : List ℕ) → IsTagOf one [] bytes → IsTagOf (λ t. one t || two t) [] bytes
first_of one two bytes v = record { tag = v.tag; passes = or_left (one v.tag) (two v.tag) v.passes; spelling = v.spelling }

pub or_second : (one two : Tag → Bool) (bytes : List ℕ) → (IsTagOf one [] bytes → ⊥) → IsTagOf two [] bytes ↔ IsTagOf (λ t. one t || two t) [] bytes
or_second one two bytes none = (
  λ v. record { tag = v.tag; passes = or_right (one v.tag) (two v.tag) v.passes; spelling = v.spelling },
  λ v. elim (or_cases (one v.tag) (two v.tag) v.passes) [
    | inl e ↦ absurd (none (record { tag = v.tag; passes = e; spelling = v.spelling }))
    | inr e ↦ record { tag = v.tag; passes = e; spelling = v.spelling }
  ],
)

-- ---- safe pages

safe_tags : (table : TagTable) (items : Items) → is_safe_by table items ≡ have_tags (is_tag_of (start_rows_of table)) (is_tag_of (void_rows_of table)) items
safe_tags table End = refl
safe_tags table (Letter b items) = safe_tags table items
safe_tags table (Void t items) = ap (λ x. is_tag_of (void_rows_of table) t && x) (safe_tags table items)
safe_tags table (Element t inside items) =
    ap (λ x. is_tag_of (start_rows_of table) t && (x && is_safe_by table items)) (safe_tags table inside)
    ∙ ap (λ x. is_tag_of (start_rows_of table) t && (have_tags (is_tag_of (start_rows_of table)) (is_tag_of (void_rows_of table)) inside && x))
    (safe_tags table items)

module _ (table : TagTable) where
  abbrev start : Tag → Bool
  start t = is_tag_of (start_rows_of table) t

  abbrev void : Tag → Bool
  void t = is_tag_of (void_rows_of table) t

  abbrev worded_start : (t : Tag) → start t ≡ true → is_worded t ≡ true
  worded_start t h = start_worded_by table t h

  abbrev worded_void : (t : Tag) → void t ≡ true → is_worded t ≡ true
  worded_void t h = void_worded_by table t h

  safe_rest : (page : List ℕ) → IsSafePageBy table page → IsRestWith start void [] page
  safe_rest page p = record { items = p.0; next = []; tags = sym (safe_tags table p.0) ∙ p.1.0; spelling = p.1.1; follows = refl }

  rest_safe : (page : List ℕ) → IsRestWith start void [] page → IsSafePageBy table page
  rest_safe page h = (h.items, (safe_tags table h.items ∙ h.tags, ap (λ z. spell_before h.items z) (sym h.follows) ∙ h.spelling))

  -- an end tag ends nothing
  no_end_tag : {A : Type 0} (name : List ℕ) → lacks 62 name ≡ true → IsRestWith start void [] (in_tag (47 ∷ name) []) → A
  no_end_tag name l h =
      step start void worded_start worded_void [] (47 ∷ name) [] l h
      (λ t k j _. no_slash t [] name (worded_start t k) j)
      (λ t k j _. no_slash t void_end name (worded_void t k) j)
      (λ m ms k _ _. cc)

  -- a start tag of a safe page, by its element
  pub safe_start : (tag name : List ℕ) → lacks 62 tag ≡ true → lacks 62 name ≡ true → IsSafePageBy table (in_tag tag (in_tag (47 ∷ name) []))
      → IsTagOf start [] tag
  safe_start tag name l k p =
      step start void worded_start worded_void [] tag (in_tag (47 ∷ name) []) l (safe_rest (in_tag tag (in_tag (47 ∷ name) [])) p)
      (λ t h e _. record { tag = t; passes = h; spelling = e })
      (λ t h e r. no_end_tag name k r)
      (λ m ms j _ _. cc)

  pub start_safe : (tag name rest : List ℕ) → IsCut 32 tag name rest → IsTagOf start [] tag → IsSafePageBy table (in_tag tag (in_tag (47 ∷ name) []))
  start_safe tag name rest cut v =
      let t = v.tag in
      let same = (name_found t tag name rest (worded_start t v.passes) v.spelling cut).0 in (
        Element t End End,
        (
          and_from (start t) true v.passes refl,
          ap (λ z. 60 ∷ spell_tag t (62 ∷ in_tag (47 ∷ z) [])) same
              ∙ ap (λ z. 60 ∷ z) (tag_append t [] (62 ∷ in_tag (47 ∷ name) []))
              ∙ ap (λ z. in_tag z (in_tag (47 ∷ name) [])) v.spelling,
        ),
      )

  -- and a void tag
  pub safe_void : (inside : List ℕ) → lacks 62 inside ≡ true → IsSafePageBy table (in_tag (inside ++ void_end) []) → IsTagOf void [] inside
  safe_void inside l p =
      step start void worded_start worded_void [] (inside ++ void_end) [] (lacks_append 62 inside void_end l refl)
      (safe_rest (in_tag (inside ++ void_end) []) p)
      (λ t h e r. none_open start void t.name [] r)
      (λ t h e _. record { tag = t; passes = h; spelling = before_end (spell_tag t []) inside (sym (void_spelled t) ∙ e) })
      (λ m ms j _ _. cc)

  pub void_safe : (inside : List ℕ) → IsTagOf void [] inside → IsSafePageBy table (in_tag (inside ++ void_end) [])
  void_safe inside v =
      let t = v.tag in (
        Void t End,
        (
          and_from (void t) true v.passes refl,
          ap (λ z. 60 ∷ z) (tag_append t void_end (62 ∷ []) ∙ ap (λ z. z ++ (62 ∷ [])) (void_spelled t ∙ ap (λ z. z ++ void_end) v.spelling)),
        ),
      )

-- ---- texts

-- a text without `<` is a safe page if it is letters and references
pub text_safe : (text : List ℕ) → lacks 60 text ≡ true → IsSafePageBy Basic text ↔ IsText text
text_safe text l = (
  λ p. (letters_off (start Basic) (void Basic) [] text [] l refl
      (subst (IsRestWith (start Basic) (void Basic) []) (sym (append-nil text)) (safe_rest Basic text p))).0,
  λ t. rest_safe Basic text (subst (IsRestWith (start Basic) (void Basic) []) (append-nil text)
      (letters_on (start Basic) (void Basic) [] text [] t (record { items = End; next = []; tags = refl; spelling = refl; follows = refl }))),
)

pub text_no_less : (text : List ℕ) → IsText text → lacks 60 text ≡ true
text_no_less text t = subst (λ x. lacks 60 x ≡ true) t.1 (text_lacks 60 less_spared t.0 [] refl)
