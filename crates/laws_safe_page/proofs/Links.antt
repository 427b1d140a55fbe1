-- The tags of links and images are those of a safe page.
use Rattle.std.proofs.Common.{◌≡◌, ℕ, Bool, true, false, ◌&&◌, ◌||◌, List, [], ◌∷◌, ◌++◌, Option, None, Some, String, string_bytes, codes, sym, refl, ap, ◌∙◌}
use Rattle.std.proofs.Common.{append-nil}
use Rattle.std.proofs.lemmas.Bool.{cond_both}
use Rattle.definition_text.specs.Encode.{encode, plain}
use Rattle.definition_page.specs.Urls.{percent, sanitize, permits, href_protocols, src_protocols}
use Rattle.definition_page.specs.Tags.{PrintedPart, Words, said_bytes, attribute, Attribute, Tag, tag}
use Rattle.definition_page.specs.InlinePieces.{Meaning, permitted_url, link_url, image_url, title_attributes, title_attribute, rel_attributes}
use Rattle.definition_page.specs.InlinePieces.{loading_attributes}
use Rattle.html_safe_page.specs.Table.{start_rows, start_rows_of, more_start_rows, void_rows, void_rows_of, more_void_rows}
use Rattle.html_safe_page.specs.declared.table.TagTable.{TagTable}
use Rattle.html_safe_page.specs.declared.table.TagTable.TheVariants.{Extended}
use Rattle.html_safe_page.specs.SafePage.{is_value}
use Rattle.html_safe_page.proofs.Closing.{encode_spelled}
use Rattle.html_safe_page.proofs.Values.{value_spelled as value_tested}
use Rattle.laws_safe_page.specs.SafeHtml.{AreSafe}
use Rattle.laws_safe_page.proofs.Values.{has_no_nul, encode_no_nul, IsText, AreTextParts, value_spelled}
use Rattle.laws_safe_page.proofs.Tags.{IsTag, as_start, as_void, as_more_start, as_more_void}
use Rattle.laws_safe_page.proofs.Fits.{Fits}
use Rattle.std.specs.List.{flat_map}
use Rattle.std.specs.Option.{is_some}

-- ---- URLs

-- a value is tested as it is printed
tested_as_printed : (tag name text : List ℕ) → is_value tag name (plain text) ≡ is_value tag name (encode text)
tested_as_printed tag name text = value_tested tag name (plain text) ∙ ap (is_value tag name) (sym (encode_spelled text))

only_permitted : (all : Bool) (protocols : List (List ℕ)) (url : List ℕ) → all ≡ false
    → ((text : List ℕ) → permits protocols (plain text) ≡ permits protocols (encode text))
    → permits protocols (plain (permitted_url all protocols url)) ≡ true
only_permitted all protocols url off same =
    let test = permits protocols (sanitize url) in
    cond_both (all || test) (percent url) [] (λ x. permits protocols (plain x) ≡ true)
    (λ e. same (percent url) ∙ ap (λ b. b || test) (sym off) ∙ e) (λ _. refl)

-- ---- attributes

abbrev pub words_text : (text : List ℕ) → IsText (flat_map said_bytes (Words text ∷ []))
words_text text = (plain text, append-nil (encode text) ∙ encode_spelled text, ap has_no_nul (append-nil (encode text)) ∙ encode_no_nul text)

module _ (m : Meaning) (safe : AreSafe m.compile) where
  link_permitted : (url : List ℕ) → permits href_protocols (plain (link_url m.compile url)) ≡ true
  link_permitted url = only_permitted m.compile.allow_dangerous_protocol href_protocols url safe.no_protocol (tested_as_printed (codes "a") (codes "href"))

  image_permitted : (url : List ℕ) → permits src_protocols (plain (image_url m.compile url)) ≡ true
  image_permitted url =
      only_permitted (m.compile.allow_any_img_src || m.compile.allow_dangerous_protocol) src_protocols url
      (ap (λ b. b || m.compile.allow_dangerous_protocol) safe.no_source ∙ safe.no_protocol) (tested_as_printed (codes "img") (codes "src"))

  link_titled : (url title : List ℕ) → IsTag start_rows (tag (codes "a") (attribute (codes "href") (link_url m.compile url) ∷ title_attributes title))
  unfolding start_rows
  link_titled url [] = ((words_text (link_url m.compile url), tt), ap (λ x. x && true) (link_permitted url))
  link_titled url (b ∷ bs) = ((words_text (link_url m.compile url), (words_text (b ∷ bs), tt)), ap (λ x. x && true) (link_permitted url))

  -- the tag of a link with a URL, and what follows that
  abbrev link_with : List ℕ → List Attribute → Tag
  link_with url others = tag (codes "a") (attribute (codes "href") (link_url m.compile url) ∷ others)

  link_related : (url title rel : List ℕ) → IsTag more_start_rows (link_with url (title_attributes title ++ attribute (codes "rel") rel ∷ []))
  unfolding more_start_rows
  link_related url [] rel = ((words_text (link_url m.compile url), (words_text rel, tt)), ap (λ x. x && true) (link_permitted url))
  link_related url (b ∷ bs) rel =
      ((words_text (link_url m.compile url), (words_text (b ∷ bs), (words_text rel, tt))), ap (λ x. x && true) (link_permitted url))

  -- the tag of an image with a URL, a description and a title
  abbrev image_with : List ℕ → List PrintedPart → List Attribute → Tag
  image_with url description title =
      tag (codes "img") (attribute (codes "src") (image_url m.compile url) ∷ record { name = codes "alt"; value = description } ∷ title)

  image_titled : (url title : List ℕ) (description : List PrintedPart) → AreTextParts description
      → IsTag void_rows (image_with url description (title_attributes title))
  unfolding void_rows
  image_titled url [] description h =
      ((words_text (image_url m.compile url), (value_spelled description h, tt)), ap (λ x. x && true) (image_permitted url))
  image_titled url (b ∷ bs) description h =
      ((words_text (image_url m.compile url), (value_spelled description h, (words_text (b ∷ bs), tt))), ap (λ x. x && true) (image_permitted url))

  image_lazy : (url title : List ℕ) (description : List PrintedPart) → AreTextParts description
      → IsTag more_void_rows (image_with url description (title_attributes title ++ attribute (codes "loading") (codes "lazy") ∷ []))
  unfolding more_void_rows
  image_lazy url [] description h =
      ((words_text (image_url m.compile url), (value_spelled description h, (words_text (codes "lazy"), tt))), ap (λ x. x && true) (image_permitted url))
  image_lazy url (b ∷ bs) description h = (
    (words_text (image_url m.compile url), (value_spelled description h, (words_text (b ∷ bs), (words_text (codes "lazy"), tt)))),
    ap (λ x. x && true) (image_permitted url),
  )

  -- ---- by the table of the options

  module _ (table : TagTable) where
    link_by : {A : Type 0} (rel : Option (String A)) (url title : List ℕ) → (is_some rel ≡ true → table ≡ Extended)
        → IsTag (start_rows_of table) (link_with url (title_attributes title ++ rel_attributes rel))
    link_by None url [] h = as_start table (link_with url []) (link_titled url [])
    link_by None url (b ∷ bs) h = as_start table (link_with url (title_attributes (b ∷ bs))) (link_titled url (b ∷ bs))
    link_by (Some rel) url title h =
        as_more_start table (link_with url (title_attributes title ++ attribute (codes "rel") (string_bytes rel) ∷ [])) (h refl)
        (link_related url title (string_bytes rel))

    image_by : (lazy : Bool) (url title : List ℕ) (description : List PrintedPart) → (lazy ≡ true → table ≡ Extended) → AreTextParts description
        → IsTag (void_rows_of table) (image_with url description (title_attributes title ++ loading_attributes lazy))
    image_by false url [] description e h = as_void table (image_with url description []) (image_titled url [] description h)
    image_by false url (b ∷ bs) description e h =
        as_void table (image_with url description (title_attributes (b ∷ bs))) (image_titled url (b ∷ bs) description h)
    image_by true url title description e h =
        as_more_void table (image_with url description (title_attributes title ++ attribute (codes "loading") (codes "lazy") ∷ [])) (e refl)
        (image_lazy url title description h)

    module _ (marks : Bool) (fits : Fits marks m.compile table) where
      pub link_is_tag : (url : List ℕ) (title : Option (List ℕ))
          → IsTag (start_rows_of table) (link_with url (title_attribute m title ++ rel_attributes m.compile.link_rel))
      link_is_tag url None = link_by m.compile.link_rel url [] fits.rel
      link_is_tag url (Some title) = link_by m.compile.link_rel url _ fits.rel

      pub image_is_tag : (url : List ℕ) (title : Option (List ℕ)) (description : List PrintedPart) → AreTextParts description
          → IsTag (void_rows_of table) (image_with url description (title_attribute m title ++ loading_attributes m.compile.lazy_images))
      image_is_tag url None description h = image_by m.compile.lazy_images url [] description fits.lazy h
      image_is_tag url (Some title) description h = image_by m.compile.lazy_images url _ description fits.lazy h
