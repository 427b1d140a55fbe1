-- Raw HTML in codes and in bytes: the same is printed of both.
use Rattle.std.proofs.Common.{◌≡◌, ℕ, zero, suc, ◌+◌, ◌<◌, ◌≤◌, Bool, true, false, not, ◌&&◌, cond, eqb, List, [], ◌∷◌, ◌++◌, Option, None, Some, codes}
use Rattle.std.proofs.Common.{length, drop}
use Rattle.std.proofs.Common.{map, refl, sym, ap, ◌∙◌, subst, arith, inl, inr, append_assoc}
use Rattle.std.specs.Prelude.{unwrap_or}
use Rattle.std.specs.Char.{is_ascii_digit, is_ascii_hexdigit, is_ascii_alphanumeric}
use Rattle.std.specs.List.{list_all, prefix_len}
use Rattle.std.specs.Option.{option_map}
use Rattle.std.proofs.lemmas.Bool.{cases_Bool, cond-true, cond-false, eqb-true, eqb-false, ne_eqb, and_parts, not-true, false≢true}
use Rattle.std.proofs.lemmas.List.{length-append, length-map, length-drop}
use Rattle.std.proofs.lemmas.Option.{none-some}
use Rattle.markdown_compile_options.specs.declared.configuration.CompileOptions.{CompileOptions}
use Rattle.definition_text.specs.Bytes.{begins_with, after_all, without_slash, lower}
use Rattle.definition_text.specs.Columns.{Code}
use Rattle.definition_text.specs.Content.{Part, part, content_codes}
use Rattle.definition_text.specs.Encode.{encode}
use Rattle.definition_inline.specs.CharacterReference.{Names, CharacterName}
use Rattle.definition_inline.specs.Decoded.{known_at, decode, decoded_after, replace_reference}
use Rattle.definition_inline.specs.HtmlTags.{is_tag_name_byte, tag_name, tag_space, attributes}
use Rattle.definition_inline.specs.HtmlText.{html_byte}
use Rattle.definition_inline.specs.Strings.{eol_bytes}
use Rattle.definition_page.specs.Tags.{tag}
use Rattle.inline_references.specs.Grammar.{IsWritten, name, digits, lower_x, upper_x}
use Rattle.inline_references.proofs.Decoding.{known_written, known_has, decoded_known}
use Rattle.inline_leaves.proofs.Codes.{plain_code}
use Rattle.definition_html.specs.Listing.{is_in, is_listed, void_names}
use Rattle.definition_html.specs.Attributes.{tag_bytes, code_bytes, written, kept}
use Rattle.definition_html.specs.Raw.{Text, Begin, Empty, End, Single, kept_tag, ends_at_once, open_part, name_of, token_part}
use Rattle.html_sanitizer.specs.Attributes.{after_space, Attribute, read_attribute, cut, rest_after}
use Rattle.html_sanitizer.proofs.Codes.{own_bytes, by_code, IsEven, after_bytes, while_same, is_ink, begins_bytes, drop_bytes, space_bytes, attribute_bytes}
use Rattle.html_sanitizer.proofs.Codes.{cut_bytes, rest_bytes}
use Rattle.html_sanitizer.proofs.Cutting.{IsOwn, after_own, space_html, is_html, written_cut, rest_cut, cut_enough, rest_enough}

-- ---- codes and their bytes

pub code_append : (a b : List Code) → code_bytes (a ++ b) ≡ code_bytes a ++ code_bytes b
code_append [] b = refl
code_append (c ∷ cs) b = ap (λ x. eol_bytes c ++ x) (code_append cs b) ∙ sym (append_assoc (eol_bytes c) (code_bytes cs) (code_bytes b))

-- bytes of bytes
bytes_twice : (cs : List Code) → code_bytes (code_bytes cs) ≡ code_bytes cs
bytes_twice [] = refl
bytes_twice (c ∷ cs) =
    by_code (λ x. code_bytes (code_bytes x) ≡ code_bytes x) c cs (ap (λ x. 13 ∷ 10 ∷ x) (bytes_twice cs))
    (λ h. ap code_bytes (own_bytes c cs h) ∙ own_bytes c (code_bytes cs) h ∙ ap (λ x. c ∷ x) (bytes_twice cs) ∙ sym (own_bytes c cs h))

abbrev pub AreBytes : List ℕ → Type 0
AreBytes [] = Unit {0}
AreBytes (b ∷ bs) = (b < 256) × AreBytes bs

-- the bytes of the codes of bytes
pub codes_back : (bs : List ℕ) → AreBytes bs → code_bytes (content_codes bs) ≡ bs
codes_back [] h = refl
codes_back (b ∷ []) h = elim (cases_Bool (eqb b 13)) [
  | inl is ↦ ap code_bytes (cond-true (eqb b 13) (13 ∷ []) (b ∷ []) is) ∙ ap (λ x. x ∷ []) (sym (eqb-true b 13 is))
  | inr other ↦ ap code_bytes (cond-false (eqb b 13) (13 ∷ []) (b ∷ []) other) ∙ own_bytes b [] (ne_eqb b 257 (λ e. omega (arith, e, h.0)))
]
codes_back (b ∷ d ∷ ds) h = elim (cases_Bool (eqb b 13)) [
  | inl is ↦ elim (cases_Bool (eqb d 10)) [
    | inl feed ↦
        let ten = eqb-true d 10 feed in
        let next : content_codes (d ∷ ds) ≡ d ∷ content_codes ds = cond-false (eqb d 13) _ _ (ne_eqb d 13 (λ e. omega (arith, e, ten))) in
        ap code_bytes (cond-true (eqb b 13) _ _ is ∙ cond-true (eqb d 10) _ _ feed ∙ ap (λ x. 257 ∷ drop 1 x) next)
        ∙ ap (λ x. 13 ∷ 10 ∷ x) (codes_back ds h.1.1)
        ∙ ap (λ x. x ∷ 10 ∷ ds) (sym (eqb-true b 13 is)) ∙ ap (λ x. b ∷ x ∷ ds) (sym ten)
    | inr alone ↦
        ap code_bytes (cond-true (eqb b 13) _ _ is ∙ cond-false (eqb d 10) _ _ alone)
        ∙ ap (λ x. 13 ∷ x) (codes_back (d ∷ ds) h.1)
        ∙ ap (λ x. x ∷ d ∷ ds) (sym (eqb-true b 13 is))
  ]
  | inr other ↦
      ap code_bytes (cond-false (eqb b 13) _ _ other)
      ∙ own_bytes b (content_codes (d ∷ ds)) (ne_eqb b 257 (λ e. omega (arith, e, h.0)))
      ∙ ap (λ x. b ∷ x) (codes_back (d ∷ ds) h.1)
]

-- ---- references

front_bytes : (front rest : List Code) → is_ink front ≡ true → code_bytes (front ++ rest) ≡ front ++ code_bytes rest
front_bytes [] rest ink = refl
front_bytes (f ∷ fs) rest ink =
    let parts = and_parts (not (eqb f 13) && not (eqb f 257)) (is_ink fs) ink in
    let no = and_parts (not (eqb f 13)) (not (eqb f 257)) parts.0 in
    own_bytes f (fs ++ rest) (not-true (eqb f 257) no.1) ∙ ap (λ x. f ∷ x) (front_bytes fs rest parts.1)

front_codes : (front rest : List ℕ) → is_ink front ≡ true → content_codes (front ++ rest) ≡ front ++ content_codes rest
front_codes [] rest ink = refl
front_codes (f ∷ fs) rest ink =
    let parts = and_parts (not (eqb f 13) && not (eqb f 257)) (is_ink fs) ink in
    let no = and_parts (not (eqb f 13)) (not (eqb f 257)) parts.0 in
    plain_code f (fs ++ rest) (eqb-false f 13 (not-true (eqb f 13) no.0)) ∙ ap (λ x. f ∷ x) (front_codes fs rest parts.1)

-- such a front of the bytes is one of the codes
record HasFront (front : List Code) (cs : List Code) : Type 0 where
  rest : List Code
  whole : cs ≡ front ++ rest

front_back : (front : List Code) (cs : List Code) (after : List ℕ) → is_ink front ≡ true → code_bytes cs ≡ front ++ after → HasFront front cs
front_back [] cs after ink e = record { rest = cs; whole = refl }
front_back (f ∷ fs) [] after ink e = cc
front_back (f ∷ fs) (c ∷ cs) after ink e =
    let parts = and_parts (not (eqb f 13) && not (eqb f 257)) (is_ink fs) ink in
    let no = and_parts (not (eqb f 13)) (not (eqb f 257)) parts.0 in
    elim (cases_Bool (eqb c 257)) [
      | inl h ↦
          let two : 13 ∷ 10 ∷ code_bytes cs ≡ f ∷ (fs ++ after) = ap (λ x. code_bytes (x ∷ cs)) (sym (eqb-true c 257 h)) ∙ e in
          let first : 13 ≡ f = cc in
          absurd (eqb-false f 13 (not-true (eqb f 13) no.0) (sym first))
      | inr h ↦
          let one : c ∷ code_bytes cs ≡ f ∷ (fs ++ after) = sym (own_bytes c cs h) ∙ e in
          let first : c ≡ f = cc in
          let others : code_bytes cs ≡ fs ++ after = cc in
          let more = front_back fs cs after parts.1 others in
          record { rest = more.rest; whole = ap (λ x. x ∷ cs) first ∙ ap (λ x. f ∷ x) more.whole }
    ]

value_ink : (test : ℕ → Bool) (value : List ℕ) → test 13 ≡ false → test 257 ≡ false → list_all test value ≡ true → is_ink (value ++ 59 ∷ []) ≡ true
value_ink test [] return both h = refl
value_ink test (v ∷ vs) return both h =
    let parts = and_parts (test v) (list_all test vs) h in
    let no_return : eqb v 13 ≡ false = ne_eqb v 13 (λ e. false≢true (sym return ∙ ap test (sym e) ∙ parts.0)) in
    let no_both : eqb v 257 ≡ false = ne_eqb v 257 (λ e. false≢true (sym both ∙ ap test (sym e) ∙ parts.0)) in
    ap (λ t. (not t && not (eqb v 257)) && is_ink (vs ++ 59 ∷ [])) no_return
    ∙ ap (λ t. not t && is_ink (vs ++ 59 ∷ [])) no_both
    ∙ value_ink test vs return both parts.1

written_ink : (front : List ℕ) (n : CharacterName) → IsWritten front n → is_ink front ≡ true
written_ink _ _ (name value h) = value_ink is_ascii_alphanumeric value refl refl h.bytes
written_ink _ _ (digits value h) = value_ink is_ascii_digit value refl refl h.bytes
written_ink _ _ (lower_x value h) = value_ink is_ascii_hexdigit value refl refl h.bytes
written_ink _ _ (upper_x value h) = value_ink is_ascii_hexdigit value refl refl h.bytes

module _ (names : Names) where
  known_bytes : (cs : List Code) → known_at names (code_bytes cs) ≡ option_map (λ (p : Part). part p.text (code_bytes p.rest)) (known_at names cs)
  known_bytes cs = by_codes (known_at names cs) refl
    where
      nothing : (o : Option Part) → known_at names (code_bytes cs) ≡ o → known_at names cs ≡ None → o ≡ None
      nothing None e none = refl
      nothing (Some q) e none =
          let has = known_has names (code_bytes cs) q e in
          let front = front_back has.front cs q.rest (written_ink has.front has.name has.written) has.is in
          let there = known_written names has.front front.rest q.text has.name has.written has.text in
          absurd (none-some _ (sym none ∙ ap (known_at names) front.whole ∙ there))

      by_codes : (o : Option Part) → known_at names cs ≡ o → known_at names (code_bytes cs) ≡ option_map (λ (p : Part). part p.text (code_bytes p.rest)) o
      by_codes None e = nothing (known_at names (code_bytes cs)) refl e
      by_codes (Some p) e =
          let has = known_has names cs p e in
          ap (λ x. known_at names (code_bytes x)) has.is
          ∙ ap (known_at names) (front_bytes has.front p.rest (written_ink has.front has.name has.written))
          ∙ known_written names has.front (code_bytes p.rest) p.text has.name has.written has.text

  -- the same of bytes, with what follows in codes
  pub known_codes : (bs : List ℕ) → AreBytes bs → known_at names (content_codes bs)
      ≡ option_map (λ (p : Part). part p.text (content_codes p.rest)) (known_at names bs)
  known_codes bs are = by_bytes (known_at names bs) refl
    where
      none : (o : Option Part) → option_map (λ (p : Part). part p.text (code_bytes p.rest)) o ≡ None → o ≡ None
      none None h = refl
      none (Some p) h = absurd (none-some _ (sym h))

      by_bytes : (o : Option Part) → known_at names bs ≡ o → known_at names (content_codes bs) ≡ option_map (λ (p : Part). part p.text (content_codes p.rest)) o
      by_bytes (Some p) e =
          let has = known_has names bs p e in
          ap (λ x. known_at names (content_codes x)) has.is
          ∙ ap (known_at names) (front_codes has.front p.rest (written_ink has.front has.name has.written))
          ∙ known_written names has.front (content_codes p.rest) p.text has.name has.written has.text
      by_bytes None e = none (known_at names (content_codes bs)) (sym (known_bytes (content_codes bs)) ∙ ap (known_at names) (codes_back bs are) ∙ e)

  pub written_some : (front : List ℕ) (n : CharacterName) → IsWritten front n → 0 < length front
  written_some _ _ (name value h) = omega arith
  written_some _ _ (digits value h) = omega arith
  written_some _ _ (lower_x value h) = omega arith
  written_some _ _ (upper_x value h) = omega arith

  -- ---- decoded values

  decoded_first : (b : ℕ) (bs : List ℕ) → known_at names (b ∷ bs) ≡ None → decode names (b ∷ bs) ≡ b ∷ decode names bs
  decoded_first b bs h = ap (λ found. replace_reference b bs found (λ n. decoded_after names n bs)) h

  abbrev IsDecoded : ℕ → Type 0
  IsDecoded n = (cs : List Code) → length cs ≤ n → code_bytes (decode names (code_bytes cs)) ≡ code_bytes (decode names cs)

  decoded_reference : (n : ℕ) (c : Code) (cs : List Code) (p : Part) → IsDecoded n → length (c ∷ cs) ≤ suc n → known_at names (c ∷ cs) ≡ Some p
      → code_bytes (decode names (code_bytes (c ∷ cs))) ≡ code_bytes (decode names (c ∷ cs))
  decoded_reference n c cs p ih le e =
      let has = known_has names (c ∷ cs) p e in
      let some = written_some has.front has.name has.written in
      let size : length (c ∷ cs) ≡ length has.front + length p.rest = ap length has.is ∙ length-append has.front p.rest in
      let there : known_at names (code_bytes (c ∷ cs)) ≡ Some (part p.text (code_bytes p.rest)) =
      known_bytes (c ∷ cs) ∙ ap (option_map (λ (p : Part). part p.text (code_bytes p.rest))) e in
      ap code_bytes (decoded_known names (code_bytes (c ∷ cs)) (part p.text (code_bytes p.rest)) there)
      ∙ code_append p.text (decode names (code_bytes p.rest))
      ∙ ap (λ x. code_bytes p.text ++ x) (ih p.rest (omega arith))
      ∙ sym (code_append p.text (decode names p.rest))
      ∙ ap code_bytes (sym (decoded_known names (c ∷ cs) p e))

  decoded_code : (n : ℕ) (c : Code) (cs : List Code) → IsDecoded n → length cs ≤ n → known_at names (c ∷ cs) ≡ None
      → code_bytes (decode names (code_bytes (c ∷ cs))) ≡ code_bytes (decode names (c ∷ cs))
  decoded_code n c cs ih le =
      let more = ih cs le in
      let bs = code_bytes cs in
      by_code (λ x. known_at names x ≡ None → code_bytes (decode names (code_bytes x)) ≡ code_bytes (decode names x)) c cs
      (λ e.
      ap code_bytes (decoded_first 13 (10 ∷ bs) refl ∙ ap (λ x. 13 ∷ x) (decoded_first 10 bs refl))
      ∙ ap (λ x. 13 ∷ 10 ∷ x) more
      ∙ ap code_bytes (sym (decoded_first 257 cs e)))
      (λ h e.
      let own = own_bytes c cs h in
      let none : known_at names (c ∷ bs) ≡ None =
      ap (known_at names) (sym own) ∙ known_bytes (c ∷ cs) ∙ ap (option_map (λ (p : Part). part p.text (code_bytes p.rest))) e in
      ap (λ x. code_bytes (decode names x)) own
      ∙ ap code_bytes (decoded_first c bs none)
      ∙ own_bytes c (decode names bs) h ∙ ap (λ x. c ∷ x) more ∙ sym (own_bytes c (decode names cs) h)
      ∙ ap code_bytes (sym (decoded_first c cs e)))

  decoded_bytes : (n : ℕ) → IsDecoded n
  decoded_bytes n [] le = refl
  decoded_bytes zero (c ∷ cs) le = absurd (omega arith)
  decoded_bytes (suc n) (c ∷ cs) le = by_case (decoded_bytes n) (known_at names (c ∷ cs)) refl
    where
      by_case : IsDecoded n → (o : Option Part) → known_at names (c ∷ cs) ≡ o → code_bytes (decode names (code_bytes (c ∷ cs)))
          ≡ code_bytes (decode names (c ∷ cs))
      by_case ih (Some p) e = decoded_reference n c cs p ih le e
      by_case ih None e = decoded_code n c cs ih (omega arith) e

  read_same : (items : List Attribute) → map (read_attribute names) (map attribute_bytes items) ≡ map (read_attribute names) items
  read_same [] = refl
  read_same (a ∷ items) =
      ap (λ v. record { name = lower a.name; value = v } ∷ map (read_attribute names) (map attribute_bytes items))
      (decoded_bytes (length a.value) a.value (omega arith))
      ∙ ap (λ ws. read_attribute names a ∷ ws) (read_same items)

-- ---- tags

tags_own : IsOwn is_tag_name_byte
tags_own = record { feed = refl; return = refl; both = refl; column = refl; space = refl }

tags_even : IsEven is_tag_name_byte
tags_even = record { both = refl; feed = refl }

fewer : (html : List Code) → length (after_all is_tag_name_byte html) ≤ length html
fewer html = omega (arith, length-drop (prefix_len is_tag_name_byte html) html)

more_bytes : (cs : List Code) → length cs ≤ length (code_bytes cs)
more_bytes [] = omega arith
more_bytes (c ∷ cs) =
    let ih = more_bytes cs in
    by_code (λ x. length x ≤ length (code_bytes x)) c cs (omega (arith, ih))
    (λ h. subst (λ x. length (c ∷ cs) ≤ length x) (sym (own_bytes c cs h)) (omega (arith, ih)))

slash_html : (l : List Code) → begins_with (codes "/") (tag_bytes l) ≡ begins_with (codes "/") l
slash_html [] = refl
slash_html (c ∷ cs) = ap (λ t. t && true) (is_html 47 c (refl, refl) (refl, (refl, refl)))

-- whether a tag ends at once, by what follows its attributes
pub ends_form : (html after : List Code) → after ≡ after_all is_tag_name_byte html
    → ends_at_once html ≡ begins_with (codes "/") (after_space (rest_after (length after) after))
ends_form html after is =
    let le : length after ≤ length html = omega (arith, ap length is, fewer html) in
    ap (λ x. begins_with (codes "/") (tag_space (unwrap_or (attributes (length (tag_bytes html)) x) [])))
    (after_own is_tag_name_byte tags_own html ∙ ap tag_bytes (sym is))
    ∙ ap (λ k. begins_with (codes "/") (tag_space (unwrap_or (attributes k (tag_bytes after)) []))) (length-map html html_byte)
    ∙ ap (λ x. begins_with (codes "/") (tag_space x)) (rest_cut (length html) after)
    ∙ ap (begins_with (codes "/")) (space_html (rest_after (length html) after))
    ∙ slash_html (after_space (rest_after (length html) after))
    ∙ ap (λ r. begins_with (codes "/") (after_space r)) (rest_enough (length html) (length after) after le (omega arith))

-- the tag that is printed, by its attributes
pub kept_form : (names : Names) (options : CompileOptions) (called : List ℕ) (html after : List Code) → after ≡ after_all is_tag_name_byte html
    → kept_tag names options called html ≡ tag called (kept options called (map (read_attribute names) (cut (length after) after)))
kept_form names options called html after is =
    let le : length after ≤ length html = omega (arith, ap length is, fewer html) in
    ap (λ x. tag called (kept options called (written names (length html) x))) (sym is)
    ∙ ap (λ ws. tag called (kept options called ws)) (written_cut names (length html) after
    ∙ ap (map (read_attribute names)) (cut_enough (length html) (length after) after le (omega arith)))

open_bytes : (names : Names) (options : CompileOptions) (called : List ℕ) (html : List Code)
    → open_part names options called (code_bytes html) ≡ open_part names options called html
open_bytes names options called html =
    let after = after_all is_tag_name_byte html in
    let bytes = code_bytes after in
    let same : bytes ≡ after_all is_tag_name_byte (code_bytes html) = sym (after_bytes is_tag_name_byte tags_even html) in
    let more = more_bytes after in
    let attributes : map (read_attribute names) (cut (length bytes) bytes) ≡ map (read_attribute names) (cut (length after) after) =
    ap (map (read_attribute names)) (cut_bytes (length bytes) after) ∙ read_same names (cut (length bytes) after)
    ∙ ap (map (read_attribute names)) (cut_enough (length bytes) (length after) after more (omega arith)) in
    let rest : after_space (rest_after (length bytes) bytes) ≡ code_bytes (after_space (rest_after (length after) after)) =
    ap after_space (rest_bytes (length bytes) after ∙ ap code_bytes (rest_enough (length bytes) (length after) after more (omega arith)))
    ∙ space_bytes (rest_after (length after) after) in
    let kept_same : kept_tag names options called (code_bytes html) ≡ kept_tag names options called html =
    kept_form names options called (code_bytes html) bytes same ∙ ap (λ ws. tag called (kept options called ws)) attributes
    ∙ sym (kept_form names options called html after refl) in
    let ends_same : ends_at_once (code_bytes html) ≡ ends_at_once html =
    ends_form (code_bytes html) bytes same ∙ ap (begins_with (codes "/")) rest
    ∙ begins_bytes (codes "/") (after_space (rest_after (length after) after)) refl ∙ sym (ends_form html after refl) in
    ap (λ t. cond (is_in void_names called) (Single t) (cond (ends_at_once (code_bytes html)) (Empty t) (Begin t))) kept_same
    ∙ ap (λ e. cond (is_in void_names called) (Single (kept_tag names options called html))
    (cond e (Empty (kept_tag names options called html)) (Begin (kept_tag names options called html)))) ends_same

slash_bytes : (l : List Code) → without_slash (code_bytes l) ≡ code_bytes (without_slash l)
slash_bytes [] = refl
slash_bytes (c ∷ cs) =
    by_code (λ x. without_slash (code_bytes x) ≡ code_bytes (without_slash x)) c cs refl
    (λ h. ap without_slash (own_bytes c cs h) ∙ by_case (eqb c 47) (sym (own_bytes c cs h)))
  where
    by_case : (t : Bool) → c ∷ code_bytes cs ≡ code_bytes (c ∷ cs) → cond t (code_bytes cs) (c ∷ code_bytes cs) ≡ code_bytes (cond t cs (c ∷ cs))
    by_case true e = refl
    by_case false e = e

-- raw HTML is the same part in codes and in bytes
pub token_bytes : (names : Names) (options : CompileOptions) (html : List Code) → begins_with (codes "<") html ≡ true
    → token_part names options (code_bytes html) ≡ token_part names options html
token_bytes names options html h =
    let inside = drop_bytes 60 html refl h in
    let same_name : name_of (code_bytes html) ≡ name_of html =
    ap lower (ap (λ x. tag_name (without_slash x)) inside ∙ ap tag_name (slash_bytes (drop 1 html))
    ∙ while_same is_tag_name_byte refl refl (without_slash (drop 1 html))) in
    let n = name_of html in
    ap (λ t. cond t (Text []) (cond (is_listed (name_of (code_bytes html)))
    (cond (begins_with (codes "</") (code_bytes html)) (End (name_of (code_bytes html)))
    (open_part names options (name_of (code_bytes html)) (drop 1 (code_bytes html))))
    (Text (encode (code_bytes (code_bytes html)))))) (begins_bytes (codes "<!--") html refl)
    ∙ ap (λ m. cond (begins_with (codes "<!--") html) (Text []) (cond (is_listed m)
    (cond (begins_with (codes "</") (code_bytes html)) (End m) (open_part names options m (drop 1 (code_bytes html))))
    (Text (encode (code_bytes (code_bytes html)))))) same_name
    ∙ ap (λ t. cond (begins_with (codes "<!--") html) (Text []) (cond (is_listed n)
    (cond t (End n) (open_part names options n (drop 1 (code_bytes html)))) (Text (encode (code_bytes (code_bytes html))))))
    (begins_bytes (codes "</") html refl)
    ∙ ap (λ p. cond (begins_with (codes "<!--") html) (Text []) (cond (is_listed n)
    (cond (begins_with (codes "</") html) (End n) p) (Text (encode (code_bytes (code_bytes html))))))
    (ap (open_part names options n) inside ∙ open_bytes names options n (drop 1 html))
    ∙ ap (λ x. cond (begins_with (codes "<!--") html) (Text []) (cond (is_listed n)
    (cond (begins_with (codes "</") html) (End n) (open_part names options n (drop 1 html))) (Text (encode x)))) (bytes_twice html)
