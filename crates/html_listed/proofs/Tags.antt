-- The tags that are printed are tags of the list.
use Rattle.std.proofs.Common.{◌≡◌, ℕ, Bool, true, false, ◌&&◌, ◌||◌, cond, List, [], ◌∷◌, ◌++◌, Option, None, Some, codes, refl, sym, ap, ◌∙◌, subst, inl, inr}
use Rattle.std.proofs.Common.{append_assoc, append-nil, not}
use Rattle.std.specs.List.{list_all, flat_map}
use Rattle.std.specs.Option.{IfSome, option_map}
use Rattle.std.specs.Str.{bytes_eq}
use Rattle.std.proofs.lemmas.Bool.{cases_Bool, cond-false, cond_both, and_parts, and_from, or_left, or_right, or_parts, not-true}
use Rattle.markdown_compile_options.specs.declared.configuration.CompileOptions.{CompileOptions}
use Rattle.definition_text.specs.Encode.{encode, plain}
use Rattle.definition_page.specs.Urls.{percent, sanitize, permits, href_protocols, src_protocols}
use Rattle.definition_page.specs.Tags.{Words, said_bytes, Attribute, attribute, attribute_bytes, Tag, tag_bytes, start_tag, end_tag, void_tag}
use Rattle.definition_page.specs.InlinePieces.{permitted_url, link_url, image_url}
use Rattle.html_safe_page.specs.SafePage as safe
use Rattle.html_safe_page.specs.SafePage.{spell_text, spell_attributes, spell_tag, is_value}
use Rattle.html_safe_page.specs.Closed.{element, void}
use Rattle.html_safe_page.proofs.Text.{spell_text-append}
use Rattle.html_safe_page.proofs.Spelled.{bytes_same}
use Rattle.html_safe_page.proofs.Sound.{tag_append}
use Rattle.html_safe_page.proofs.Closing.{encode_spelled}
use Rattle.html_safe_page.proofs.Values.{value_spelled}
use Rattle.definition_html.specs.Listing.{is_listed, is_in, void_names, listed_attributes}
use Rattle.definition_html.specs.Attributes.{Written, first_of, if_written, url_bytes, url_attributes, kept}
use Rattle.html_listed.specs.ListedPage.{attribute_names, are_some_of, is_listed_value, is_listed_tag, is_listed_start, is_listed_void}
use Rattle.html_listed.specs.Laws.{HaveSafeProtocols}

-- ---- attributes

-- attributes are spelled, and have some of these names and values that they may have
pub record AreKept (names : List (List ℕ)) (attributes : List Attribute) : Type 0 where
  pub spelled : List safe.Attribute
  pub spelling : flat_map attribute_bytes attributes ≡ spell_attributes spelled []
  pub named : are_some_of names spelled ≡ true
  pub values : list_all (λ a. is_listed_value a.name a.value) spelled ≡ true

none_kept : (names : List (List ℕ)) → AreKept names []
none_kept names = record { spelled = []; spelling = refl; named = no_name names; values = refl }
  where
    no_name : (names : List (List ℕ)) → are_some_of names [] ≡ true
    no_name [] = refl
    no_name (n ∷ ns) = refl

-- one name more
later_kept : (n : List ℕ) (ns : List (List ℕ)) (attributes : List Attribute) → AreKept ns attributes → AreKept (n ∷ ns) attributes
later_kept n ns attributes h = record { spelled = h.spelled; spelling = h.spelling; named = later h.spelled h.named; values = h.values }
  where
    later : (spelled : List safe.Attribute) → are_some_of ns spelled ≡ true → are_some_of (n ∷ ns) spelled ≡ true
    later [] h = refl
    later (a ∷ others) h = or_right (bytes_eq n a.name && are_some_of ns others) (are_some_of ns (a ∷ others)) h

-- and an attribute of this name
one_kept : (n value : List ℕ) (ns : List (List ℕ)) (attributes : List Attribute) → is_listed_value n (plain value) ≡ true
    → AreKept ns attributes → AreKept (n ∷ ns) (attribute n value ∷ attributes)
one_kept n value ns attributes v h =
    let text = flat_map said_bytes (Words value ∷ []) in
    let rest = flat_map attribute_bytes attributes in
    let start = n ++ codes "=\"" in
    record {
      spelled = record { name = n; value = plain value } ∷ h.spelled;
      spelling =
          ap (λ x. 32 ∷ x)
          (append_assoc (start ++ text) (34 ∷ []) rest
          ∙ append_assoc start text (34 ∷ rest)
          ∙ ap (λ x. start ++ (x ++ (34 ∷ rest))) (append-nil (encode value) ∙ encode_spelled value)
          ∙ ap (λ x. start ++ x) (spell_text-append (plain value) (34 ∷ rest))
          ∙ ap (λ x. start ++ spell_text (plain value) (34 ∷ x)) h.spelling);
      named = or_left (bytes_eq n n && are_some_of ns h.spelled) _ (and_from (bytes_eq n n) (are_some_of ns h.spelled) (bytes_same n) h.named);
      values = and_from (is_listed_value n (plain value)) _ v h.values;
    }

if_kept : (n : List ℕ) (o : Option (List ℕ)) (ns : List (List ℕ)) (attributes : List Attribute) → IfSome o (λ v. is_listed_value n (plain v) ≡ true)
    → AreKept ns attributes → AreKept (n ∷ ns) (if_written n o ++ attributes)
if_kept n None ns attributes v h = later_kept n ns attributes h
if_kept n (Some value) ns attributes v h = one_kept n value ns attributes v h

-- ---- attributes without a URL

abbrev is_free : List ℕ → Bool
is_free name = not (bytes_eq name (codes "href") || bytes_eq name (codes "src"))

any_value : (n value : List ℕ) → is_free n ≡ true → is_listed_value n value ≡ true
any_value n value h =
    let parts = or_parts (bytes_eq n (codes "href")) (bytes_eq n (codes "src")) (not-true _ h) in
    cond-false (bytes_eq n (codes "href")) (permits href_protocols value) _ parts.0
    ∙ cond-false (bytes_eq n (codes "src")) (permits src_protocols value) true parts.1

all_free : list_all is_free listed_attributes ≡ true
unfolding listed_attributes
all_free = refl

some_value : (o : Option (List ℕ)) (n : List ℕ) → is_free n ≡ true → IfSome o (λ v. is_listed_value n (plain v) ≡ true)
some_value None n h = tt
some_value (Some v) n h = any_value n (plain v) h

free_kept : (ws : List Written) (names : List (List ℕ)) → list_all is_free names ≡ true → AreKept names (flat_map (λ a. if_written a (first_of a ws)) names)
free_kept ws [] h = none_kept []
free_kept ws (n ∷ ns) h =
    let parts = and_parts (is_free n) (list_all is_free ns) h in
    if_kept n (first_of n ws) ns (flat_map (λ a. if_written a (first_of a ws)) ns) (some_value (first_of n ws) n parts.0) (free_kept ws ns parts.1)

-- ---- URLs

-- a value is tested as it is printed
tested_as_printed : (tag name text : List ℕ) → is_value tag name (plain text) ≡ is_value tag name (encode text)
tested_as_printed tag name text = value_spelled tag name (plain text) ∙ ap (is_value tag name) (sym (encode_spelled text))

only_permitted : (all : Bool) (protocols : List (List ℕ)) (url : List ℕ) → all ≡ false
    → ((text : List ℕ) → permits protocols (plain text) ≡ permits protocols (encode text))
    → permits protocols (plain (permitted_url all protocols url)) ≡ true
only_permitted all protocols url off same =
    let test = permits protocols (sanitize url) in
    cond_both (all || test) (percent url) [] (λ x. permits protocols (plain x) ≡ true)
    (λ e. same (percent url) ∙ ap (λ b. b || test) (sym off) ∙ e) (λ _. refl)

module _ (options : CompileOptions) (safe_protocols : HaveSafeProtocols options) where
  href_permitted : (o : Option (List ℕ)) → IfSome (option_map (λ v. link_url options (url_bytes v)) o) (λ v. is_listed_value (codes "href") (plain v) ≡ true)
  href_permitted None = tt
  href_permitted (Some v) =
      only_permitted options.allow_dangerous_protocol href_protocols (url_bytes v) safe_protocols.no_protocol (tested_as_printed (codes "a") (codes "href"))

  src_permitted : (o : Option (List ℕ)) → IfSome (option_map (λ v. image_url options (url_bytes v)) o) (λ v. is_listed_value (codes "src") (plain v) ≡ true)
  src_permitted None = tt
  src_permitted (Some v) =
      only_permitted (options.allow_any_img_src || options.allow_dangerous_protocol) src_protocols (url_bytes v)
      (ap (λ b. b || options.allow_dangerous_protocol) safe_protocols.no_source ∙ safe_protocols.no_protocol)
      (tested_as_printed (codes "img") (codes "src"))

  url_kept : (name : List ℕ) (ws : List Written) (attributes : List Attribute) → AreKept listed_attributes attributes
      → AreKept (attribute_names name) (url_attributes options name ws ++ attributes)
  url_kept name ws attributes h =
      let is_a = bytes_eq name (codes "a") in
      let is_img = bytes_eq name (codes "img") in
      let href = if_written (codes "href") (option_map (λ v. link_url options (url_bytes v)) (first_of (codes "href") ws)) in
      let src = if_written (codes "src") (option_map (λ v. image_url options (url_bytes v)) (first_of (codes "src") ws)) in
      let P = λ (names : List (List ℕ)) (urls : List Attribute). AreKept (names ++ listed_attributes) (urls ++ attributes) in
      elim (cases_Bool is_a) [
        | inl e ↦
            subst (λ b. P (cond b (codes "href" ∷ []) (cond is_img (codes "src" ∷ []) [])) (cond b href (cond is_img src []))) (sym e)
            (if_kept (codes "href") _ listed_attributes attributes (href_permitted (first_of (codes "href") ws)) h)
        | inr e ↦
            subst (λ b. P (cond b (codes "href" ∷ []) (cond is_img (codes "src" ∷ []) [])) (cond b href (cond is_img src []))) (sym e)
            (elim (cases_Bool is_img) [
              | inl k ↦
                  subst (λ b. P (cond b (codes "src" ∷ []) []) (cond b src [])) (sym k)
                  (if_kept (codes "src") _ listed_attributes attributes (src_permitted (first_of (codes "src") ws)) h)
              | inr k ↦ subst (λ b. P (cond b (codes "src" ∷ []) []) (cond b src [])) (sym k) h
            ])
      ]

  -- the attributes of an element
  pub attributes_kept : (name : List ℕ) (ws : List Written) → AreKept (attribute_names name) (kept options name ws)
  attributes_kept name ws = url_kept name ws _ (free_kept ws listed_attributes all_free)

-- ---- tags

-- a tag is printed as one that passes a test is spelled
pub record IsTagWith (test : safe.Tag → Bool) (t : Tag) : Type 0 where
  pub spelled : safe.Tag
  pub named : spelled.name ≡ t.name
  pub spelling : tag_bytes t ≡ spell_tag spelled []
  pub passes : test spelled ≡ true

tag_spelled : (test : safe.Tag → Bool) (t : Tag) (h : IsTagWith test t) (after : List ℕ) → tag_bytes t ++ after ≡ spell_tag h.spelled after
tag_spelled test t h after = ap (λ x. x ++ after) h.spelling ∙ sym (tag_append h.spelled [] after)

pub element_spelled : (test : safe.Tag → Bool) (t : Tag) (h : IsTagWith test t) (inside : List ℕ)
    → start_tag t ++ (inside ++ end_tag t.name) ≡ element h.spelled inside
element_spelled test t h inside =
    let rest = inside ++ end_tag t.name in
    ap (λ x. 60 ∷ x) (append_assoc (tag_bytes t) (62 ∷ []) rest ∙ tag_spelled test t h (62 ∷ rest))
    ∙ ap (λ n. 60 ∷ spell_tag h.spelled (62 ∷ (inside ++ end_tag n))) (sym h.named)

pub void_spelled : (test : safe.Tag → Bool) (t : Tag) (h : IsTagWith test t) → void_tag t ≡ void h.spelled
void_spelled test t h = ap (λ x. 60 ∷ x) (tag_spelled test t h (codes " />"))

-- a tag of a listed name and attributes that are kept
abbrev tag_listed : (name : List ℕ) (attributes : List Attribute) → is_listed name ≡ true → AreKept (attribute_names name) attributes
    → IsTagWith is_listed_tag (record { name = name; attributes = attributes })
tag_listed name attributes n h = record {
  spelled = record { name = name; attributes = h.spelled };
  named = refl;
  spelling = ap (λ x. name ++ x) h.spelling;
  passes = and_from (is_listed name) _ n (and_from (are_some_of (attribute_names name) h.spelled) _ h.named h.values);
}

pub start_listed : (name : List ℕ) (attributes : List Attribute) → is_listed name ≡ true → is_in void_names name ≡ false
    → AreKept (attribute_names name) attributes → IsTagWith is_listed_start (record { name = name; attributes = attributes })
start_listed name attributes n v h =
    let t = tag_listed name attributes n h in
    record {
      spelled = t.spelled;
      named = t.named;
      spelling = t.spelling;
      passes = and_from (not (is_in void_names name)) (is_listed_tag t.spelled) (ap not v) t.passes;
    }

pub void_listed : (name : List ℕ) (attributes : List Attribute) → is_listed name ≡ true → is_in void_names name ≡ true
    → AreKept (attribute_names name) attributes → IsTagWith is_listed_void (record { name = name; attributes = attributes })
void_listed name attributes n v h =
    let t = tag_listed name attributes n h in
    record {
      spelled = t.spelled;
      named = t.named;
      spelling = t.spelling;
      passes = and_from (is_in void_names name) (is_listed_tag t.spelled) v t.passes;
    }
