-- Each part of raw HTML is a text or a tag of the list.
use Rattle.std.proofs.Common.{◌≡◌, ℕ, zero, suc, ◌-◌, true, cond, List, [], ◌∷◌, Option, None, Some, codes, length, take, drop, refl}
use Rattle.std.specs.Option.{IfSome, option_map}
use Rattle.std.proofs.lemmas.Bool.{cond_both}
use Rattle.markdown_compile_options.specs.declared.configuration.CompileOptions.{CompileOptions}
use Rattle.definition_text.specs.Bytes.{begins_with, after_all}
use Rattle.definition_text.specs.Columns.{Code}
use Rattle.definition_text.specs.Content.{Part, content_codes}
use Rattle.definition_text.specs.Encode.{encode}
use Rattle.definition_inline.specs.CharacterReference.{Names}
use Rattle.definition_inline.specs.Decoded.{known_at}
use Rattle.definition_inline.specs.HtmlTags.{is_tag_name_byte}
use Rattle.definition_inline.specs.HtmlText.{html_end}
use Rattle.definition_inline.specs.Strings.{eol_bytes}
use Rattle.definition_html.specs.Listing.{is_in, is_listed, void_names}
use Rattle.definition_html.specs.Attributes.{tag_bytes, code_bytes, written}
use Rattle.definition_html.specs.Raw.{Text, Begin, Empty, End, Single, kept_tag, ends_at_once, open_part, name_of, token_part, FoundRaw}
use Rattle.definition_html.specs.Raw.{token_to, reference_to, token_or_reference, or_code, raw_parts_after, raw_parts}
use Rattle.html_listed.specs.Laws.{HaveSafeProtocols}
use Rattle.html_listed.proofs.Tags.{attributes_kept, start_listed, void_listed}
use Rattle.html_listed.proofs.Open.{IsGood, AreGood}

module _ (names : Names) (options : CompileOptions) (safe_protocols : HaveSafeProtocols options) where
  open_good : (name : List ℕ) (html : List Code) → is_listed name ≡ true → IsGood (open_part names options name html)
  open_good name html h =
      let t = kept_tag names options name html in
      let attributes = attributes_kept options safe_protocols name (written names (length html) (after_all is_tag_name_byte html)) in
      let other = cond (ends_at_once html) (Empty t) (Begin t) in
      cond_both (is_in void_names name) (Single t) other IsGood
      (λ e. void_listed name t.attributes h e attributes)
      (λ e.
      let i = start_listed name t.attributes h e attributes in
      cond_both (ends_at_once html) (Empty t) (Begin t) IsGood (λ _. i) (λ _. i))

  token_good : (html : List Code) → IsGood (token_part names options html)
  token_good html =
      let name = name_of html in
      let tag = cond (begins_with (codes "</") html) (End name) (open_part names options name (drop 1 html)) in
      let shown = Text (encode (code_bytes html)) in
      cond_both (begins_with (codes "<!--") html) (Text []) (cond (is_listed name) tag shown) IsGood
      (λ _. ([], refl))
      (λ _. cond_both (is_listed name) tag shown IsGood
      (λ e. cond_both (begins_with (codes "</") html) (End name) (open_part names options name (drop 1 html)) IsGood
      (λ _. tt) (λ _. open_good name (drop 1 html) e))
      (λ _. (code_bytes html, refl)))

  abbrev IsGoodFound : FoundRaw → Type 0
  IsGoodFound found = IsGood found.part

  token_found : (html : List Code) (o : Option (List ℕ)) → IfSome (option_map (token_to names options html) o) IsGoodFound
  token_found html None = tt
  token_found html (Some rest) = token_good (take (length html - length rest) html)

  reference_found : (html : List Code) (o : Option Part) → IfSome (option_map (reference_to html) o) IsGoodFound
  reference_found html None = tt
  reference_found html (Some known) = (known.text, refl)

  or_good : (c : Code) (o : Option FoundRaw) → IfSome o IsGoodFound → IsGoodFound (or_code c o)
  or_good c None h = (eol_bytes c, refl)
  or_good c (Some found) h = h

  found_good : (html : List Code) → IfSome (token_or_reference names options html) IsGoodFound
  found_good html =
      cond_both (begins_with (codes "<") html) (option_map (token_to names options html) (html_end (tag_bytes html)))
      (option_map (reference_to html) (known_at names html)) (λ o. IfSome o IsGoodFound)
      (λ _. token_found html (html_end (tag_bytes html))) (λ _. reference_found html (known_at names html))

  after_good : (taken : ℕ) (html : List Code) → AreGood (raw_parts_after names options taken html)
  after_good taken [] = tt
  after_good (suc taken) (c ∷ cs) = after_good taken cs
  after_good zero (c ∷ cs) =
      let found = or_code c (token_or_reference names options (c ∷ cs)) in
      (or_good c (token_or_reference names options (c ∷ cs)) (found_good (c ∷ cs)), after_good (found.size - 1) cs)

  -- the parts of raw HTML are good
  pub parts_good : (html : List ℕ) → AreGood (raw_parts names options html)
  parts_good html = after_good 0 (content_codes html)
