-- A page with its raw HTML by the list is the same by options that print links and images alike: it looks at no other option.
use Rattle.std.proofs.Common.{◌≡◌, ℕ, zero, suc, ◌-◌, cond, List, [], ◌∷◌, ◌++◌, Option, None, Some, length, take, drop, refl, ap, ◌∙◌}
use Rattle.std.specs.Prelude.{codes}
use Rattle.std.specs.List.{fold, flat_map}
use Rattle.std.specs.Option.{option_map}
use Rattle.std.specs.Str.{bytes_eq}
use Rattle.markdown_compile_options.specs.declared.configuration.CompileOptions.{CompileOptions}
use Rattle.definition_text.specs.Bytes.{begins_with, after_all}
use Rattle.definition_text.specs.Columns.{Code}
use Rattle.definition_text.specs.Content.{content_codes}
use Rattle.definition_text.specs.Encode.{encode}
use Rattle.definition_inline.specs.CharacterReference.{Names}
use Rattle.definition_inline.specs.Decoded.{known_at}
use Rattle.definition_inline.specs.HtmlTags.{is_tag_name_byte}
use Rattle.definition_inline.specs.HtmlText.{html_end}
use Rattle.definition_page.specs.InlinePieces.{link_url, image_url}
use Rattle.definition_page.specs.Tags.{Attribute, Tag, tag}
use Rattle.definition_html.specs.Attributes.{Written, tag_bytes, code_bytes, first_of, if_written, kept, url_bytes, written}
use Rattle.definition_html.specs.Listed.{listed, page_part, raw_part}
use Rattle.definition_html.specs.Listing.{is_in, is_listed, listed_attributes, void_names}
use Rattle.definition_html.specs.PageParts.{PagePart, Raw, page_parts}
use Rattle.definition_html.specs.Raw.{RawPart, Begin, Empty, End, Single, Text, ends_at_once, found_raw, name_of, open_part, or_code}
use Rattle.definition_html.specs.Raw.{raw_parts_after, reference_to, token_or_reference, token_part, token_to}
use Rattle.definition_html.specs.State.{State, all_ended, nothing_open}

-- a URL that is written, by functions that are the same for each
same_url : (name : List ℕ) (f g : List ℕ → List ℕ) → ((url : List ℕ) → f url ≡ g url) → (value : Option (List ℕ))
    → if_written name (option_map (λ v. f (url_bytes v)) value) ≡ if_written name (option_map (λ v. g (url_bytes v)) value)
same_url name f g same None = refl
same_url name f g same (Some value) = ap (λ url. if_written name (Some url)) (same (url_bytes value))

module _ (names : Names) (one another : CompileOptions) (link : (url : List ℕ) → link_url one url ≡ link_url another url)
    (image : (url : List ℕ) → image_url one url ≡ image_url another url) where
  same_kept : (name : List ℕ) (ws : List Written) → kept one name ws ≡ kept another name ws
  same_kept name ws =
      let by : List Attribute → List Attribute → List Attribute = λ hrefs srcs.
      cond (bytes_eq name (codes "a")) hrefs (cond (bytes_eq name (codes "img")) srcs [])
      ++ flat_map (λ a. if_written a (first_of a ws)) listed_attributes in
      ap (λ hrefs. by hrefs (if_written (codes "src") (option_map (λ v. image_url one (url_bytes v)) (first_of (codes "src") ws))))
      (same_url (codes "href") (link_url one) (link_url another) link (first_of (codes "href") ws))
      ∙ ap (by (if_written (codes "href") (option_map (λ v. link_url another (url_bytes v)) (first_of (codes "href") ws))))
      (same_url (codes "src") (image_url one) (image_url another) image (first_of (codes "src") ws))

  same_open : (name : List ℕ) (html : List Code) → open_part names one name html ≡ open_part names another name html
  same_open name html =
      let part : Tag → RawPart = λ t. cond (is_in void_names name) (Single t) (cond (ends_at_once html) (Empty t) (Begin t)) in
      ap (λ attributes. part (tag name attributes)) (same_kept name (written names (length html) (after_all is_tag_name_byte html)))

  same_token : (html : List Code) → token_part names one html ≡ token_part names another html
  same_token html =
      let part : RawPart → RawPart = λ opened.
      cond (begins_with (codes "<!--") html) (Text [])
      (cond (is_listed (name_of html)) (cond (begins_with (codes "</") html) (End (name_of html)) opened) (Text (encode (code_bytes html)))) in
      ap part (same_open (name_of html) (drop 1 html))

  same_to : (html : List Code) (end : Option (List ℕ)) → option_map (token_to names one html) end ≡ option_map (token_to names another html) end
  same_to html None = refl
  same_to html (Some rest) =
      let size = length html - length rest in
      ap (λ part. Some (found_raw part size)) (same_token (take size html))

  same_found : (html : List Code) → token_or_reference names one html ≡ token_or_reference names another html
  same_found html =
      ap (λ found. cond (begins_with (codes "<") html) found (option_map (reference_to html) (known_at names html)))
      (same_to html (html_end (tag_bytes html)))

  same_parts : (taken : ℕ) (html : List Code) → raw_parts_after names one taken html ≡ raw_parts_after names another taken html
  same_parts taken [] = refl
  same_parts (suc taken) (c ∷ cs) = same_parts taken cs
  same_parts zero (c ∷ cs) =
      let there = or_code c (token_or_reference names another (c ∷ cs)) in
      ap (λ found. let here = or_code c found in here.part ∷ raw_parts_after names one (here.size - 1) cs) (same_found (c ∷ cs))
      ∙ ap (λ parts. there.part ∷ parts) (same_parts (there.size - 1) cs)

  same_page_part : (s : State) (p : PagePart) → page_part names one s p ≡ page_part names another s p
  same_page_part s (Raw html) = ap (fold raw_part s) (same_parts 0 (content_codes html))
  same_page_part s p = refl

  same_fold : (s : State) (ps : List PagePart) → fold (page_part names one) s ps ≡ fold (page_part names another) s ps
  same_fold s [] = refl
  same_fold s (p ∷ ps) = ap (λ t. fold (page_part names one) t ps) (same_page_part s p) ∙ same_fold (page_part names another s p) ps

  pub same_listed : (page : List ℕ) → listed names one page ≡ listed names another page
  same_listed page = ap (λ s. let all = all_ended s in all.out) (same_fold nothing_open (page_parts page))
