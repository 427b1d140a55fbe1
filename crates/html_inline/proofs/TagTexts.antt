-- The tags of links, images and check boxes, as they are printed.
use Rattle.std.proofs.Common.{◌≡◌, Bool, true, false, cond, ℕ, List, [], ◌∷◌, ◌++◌, refl, sym, ap, ◌∙◌, append_assoc, codes}
use Rattle.html_inline.proofs.Prelude.{append-nil, attribute_bytes, checkable_attributes, CompileOptions, done_attributes, encode, flat_map, flat_map-append}
use Rattle.html_inline.proofs.Prelude.{image_end, image_start, image_tag, link_tag, LinkTexts, Meaning, PrintedPart, said_bytes, say_bytes, start_tag}
use Rattle.html_inline.proofs.Prelude.{void_tag}
use Rattle.definition_page.specs.GfmTaskListItem.{check_tag}
use Rattle.definition_page.specs.Urls.{percent, sanitize, permits, sanitized_with}
use Rattle.definition_page.specs.Destinations.{image_source, link_destination}
use Rattle.definition_page.specs.InlinePieces.{permitted_url, url_of, link_url, image_url, title_attribute, title_attributes, rel_attributes}
use Rattle.definition_page.specs.InlinePieces.{address_tag, loading_attributes}
use Rattle.html_inline.specs.Printed.{loading_bytes, rel_bytes, title_bytes}

-- ---- URLs

-- a URL where not all are allowed
pub url_with : (all : Bool) (protocols : List (List ℕ)) (url : List ℕ) → all ≡ false → encode (permitted_url all protocols url) ≡ sanitized_with protocols url
url_with all protocols url none = ap (λ t. encode (permitted_url t protocols url)) none ∙ by_case (permits protocols (sanitize url))
  where
    by_case : (t : Bool) → encode (cond t (percent url) []) ≡ cond t (sanitize url) []
    by_case true = refl
    by_case false = refl

-- and where they are
pub url_any : (all : Bool) (protocols : List (List ℕ)) (url : List ℕ) → all ≡ true → encode (permitted_url all protocols url) ≡ sanitize url
url_any all protocols url any = ap (λ t. encode (permitted_url t protocols url)) any

-- ---- tags

-- the attribute of a title
titled : (v : List ℕ) → (codes " title=\"" ++ (v ++ []) ++ codes "\"") ++ [] ≡ codes " title=\"" ++ v ++ codes "\""
titled v = append-nil (codes " title=\"" ++ (v ++ []) ++ codes "\"") ∙ ap (λ x. codes " title=\"" ++ x ++ codes "\"") (append-nil v)

pub title_printed : (b : ℕ) (bs : List ℕ) → flat_map attribute_bytes (title_attributes (b ∷ bs)) ≡ codes " title=\"" ++ encode (b ∷ bs) ++ codes "\""
title_printed b bs = titled (encode (b ∷ bs))

-- a start tag of one attribute and others
open_tag : (a s v q t g : List ℕ) → a ++ (s ++ (v ++ []) ++ q ++ t) ++ g ≡ a ++ s ++ v ++ q ++ t ++ g
open_tag a s v q t g = simp (append_assoc, append-nil)

pub link_printed : (meaning : Meaning) (target : LinkTexts)
    → start_tag (link_tag meaning target)
    ≡ codes "<a href=\"" ++ encode (link_url meaning.compile (link_destination meaning.compile (url_of meaning target))) ++ codes "\""
    ++ title_bytes meaning target ++ rel_bytes meaning.compile ++ codes ">"
link_printed meaning target =
    let url = encode (link_url meaning.compile (link_destination meaning.compile (url_of meaning target))) in
    let title = title_bytes meaning target in
    let rel = rel_bytes meaning.compile in
    ap (λ x. codes "<a" ++ (codes " href=\"" ++ (url ++ []) ++ codes "\"" ++ x) ++ codes ">")
    (flat_map-append attribute_bytes (title_attribute meaning target.title) (rel_attributes meaning.compile.link_rel))
    ∙ open_tag (codes "<a") (codes " href=\"") url (codes "\"") (title ++ rel) (codes ">")
    ∙ ap (λ x. x ++ codes ">") (sym (append_assoc (codes "<a href=\"" ++ url ++ codes "\"") title rel))

pub address_printed : (options : CompileOptions) (url : List ℕ)
    → start_tag (address_tag options url) ≡ codes "<a href=\"" ++ encode (link_url options url) ++ codes "\"" ++ rel_bytes options ++ codes ">"
address_printed options url = open_tag (codes "<a") (codes " href=\"") (encode (link_url options url)) (codes "\"") (rel_bytes options) (codes ">")

-- the tag of an image, which stands around its description
image_parts : (a s v q r d e t l g : List ℕ)
    → a ++ (s ++ (v ++ []) ++ q ++ (r ++ d ++ e ++ (t ++ l))) ++ g ≡ (a ++ s ++ v ++ (q ++ r)) ++ (d ++ (e ++ t ++ l ++ g))
image_parts a s v q r d e t l g = simp (append_assoc, append-nil)

pub image_printed : (meaning : Meaning) (target : LinkTexts) (description : List PrintedPart)
    → void_tag (image_tag meaning target description) ≡ image_start meaning target ++ (say_bytes description ++ image_end meaning target)
image_printed meaning target description =
    let url = encode (image_url meaning.compile (image_source meaning.compile (url_of meaning target))) in
    let says = flat_map said_bytes description in
    ap (λ x. codes "<img" ++ (codes " src=\"" ++ (url ++ []) ++ codes "\"" ++ (codes " alt=\"" ++ says ++ codes "\"" ++ x)) ++ codes " />")
    (flat_map-append attribute_bytes (title_attribute meaning target.title) (loading_attributes meaning.compile.lazy_images))
    ∙ image_parts (codes "<img") (codes " src=\"") url (codes "\"") (codes " alt=\"")
    says (codes "\"") (title_bytes meaning target) (loading_bytes meaning.compile) (codes " />")

-- the tag of a check box
pub check_printed : (options : CompileOptions) (done : Bool)
    → void_tag (check_tag options done)
    ≡ codes "<input type=\"checkbox\"" ++ (flat_map attribute_bytes (checkable_attributes options.gfm_task_list_item_checkable)
    ++ flat_map attribute_bytes (done_attributes done)) ++ codes " />"
check_printed options done =
    ap (λ x. codes "<input type=\"checkbox\"" ++ x ++ codes " />")
    (flat_map-append attribute_bytes (checkable_attributes options.gfm_task_list_item_checkable) (done_attributes done))
