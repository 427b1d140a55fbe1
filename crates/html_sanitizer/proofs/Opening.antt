-- Raw HTML as it is printed, by its first bytes and its name.
use Rattle.std.proofs.Common.{◌≡◌, ℕ, Bool, true, false, cond, List, [], ◌∷◌, ◌++◌, None, Some, codes, length, drop, map, refl, sym, ap, ◌∙◌, append_assoc}
use Rattle.std.proofs.Common.{inl, inr}
use Rattle.std.proofs.lemmas.Bool.{cases_Bool, cond-true, cond-false}
use Rattle.std.proofs.lemmas.Option.{none-some, same_Some}
use Rattle.markdown_compile_options.specs.declared.configuration.CompileOptions.{CompileOptions}
use Rattle.definition_text.specs.Bytes.{begins_with, after_all, without_slash, lower}
use Rattle.definition_text.specs.Encode.{encode}
use Rattle.definition_inline.specs.CharacterReference.{Names}
use Rattle.definition_inline.specs.HtmlTags.{is_tag_name_byte, tag_name}
use Rattle.definition_page.specs.Tags.{Tag, tag, tag_bytes, void_tag}
use Rattle.definition_html.specs.Listing.{is_in, is_listed, void_names}
use Rattle.definition_html.specs.Attributes.{code_bytes, kept}
use Rattle.definition_html.specs.Raw.{Text, Begin, Empty, End, Single, kept_tag, ends_at_once, open_part, name_of, token_part}
use Rattle.definition_html.specs.State.{State, says, with_open, opened, ended, with_room}
use Rattle.definition_html.specs.Listed.{begins, raw_part}
use Rattle.html_sanitizer.specs.Attributes.{after_space, read_attribute, cut, rest_after}
use Rattle.html_sanitizer.specs.Listing.{listed_name}
use Rattle.html_sanitizer.proofs.Ends.{page_in}
use Rattle.html_sanitizer.proofs.Tokens.{kept_form, ends_form}

-- ---- the name

-- a listed name
record IsListedName (written called : List ℕ) : Type 0 where
  name : lower written ≡ called
  listed : is_listed (lower written) ≡ true

name_found : (written called : List ℕ) → Some called ≡ listed_name written → IsListedName written called
name_found written called h = elim (cases_Bool (is_listed (lower written))) [
  | inl t ↦ record {
    name = sym (same_Some called (lower written) (h ∙ cond-true (is_listed (lower written)) (Some (lower written)) None t));
    listed = t;
  }
  | inr t ↦ absurd (none-some called (sym (h ∙ cond-false (is_listed (lower written)) (Some (lower written)) None t)))
]

name_missing : (written : List ℕ) → None ≡ listed_name written → is_listed (lower written) ≡ false
name_missing written h = elim (cases_Bool (is_listed (lower written))) [
  | inl t ↦ absurd (none-some (lower written) (h ∙ cond-true (is_listed (lower written)) (Some (lower written)) None t))
  | inr t ↦ t
]

-- ---- the part

module _ (names : Names) (options : CompileOptions) (html : List ℕ) where
  pub token_comment : begins_with (codes "<!--") html ≡ true → token_part names options html ≡ Text []
  token_comment h = cond-true (begins_with (codes "<!--") html) (Text []) _ h

  pub token_text : begins_with (codes "<!--") html ≡ false → None ≡ listed_name (tag_name (without_slash (drop 1 html)))
      → token_part names options html ≡ Text (encode (code_bytes html))
  token_text h e =
      cond-false (begins_with (codes "<!--") html) (Text []) _ h
      ∙ cond-false (is_listed (name_of html)) _ (Text (encode (code_bytes html))) (name_missing (tag_name (without_slash (drop 1 html))) e)

  pub token_end : (called : List ℕ) → begins_with (codes "<!--") html ≡ false → Some called ≡ listed_name (tag_name (without_slash (drop 1 html)))
      → begins_with (codes "</") html ≡ true → token_part names options html ≡ End called
  token_end called h e t =
      let found = name_found (tag_name (without_slash (drop 1 html))) called e in
      cond-false (begins_with (codes "<!--") html) (Text []) _ h
      ∙ cond-true (is_listed (name_of html)) _ (Text (encode (code_bytes html))) found.listed
      ∙ cond-true (begins_with (codes "</") html) (End (name_of html)) (open_part names options (name_of html) (drop 1 html)) t
      ∙ ap End found.name

  pub token_open : (called : List ℕ) → begins_with (codes "<!--") html ≡ false → Some called ≡ listed_name (tag_name (without_slash (drop 1 html)))
      → begins_with (codes "</") html ≡ false → token_part names options html ≡ open_part names options called (drop 1 html)
  token_open called h e t =
      let found = name_found (tag_name (without_slash (drop 1 html))) called e in
      cond-false (begins_with (codes "<!--") html) (Text []) _ h
      ∙ cond-true (is_listed (name_of html)) _ (Text (encode (code_bytes html))) found.listed
      ∙ cond-false (begins_with (codes "</") html) (End (name_of html)) (open_part names options (name_of html) (drop 1 html)) t
      ∙ ap (λ n. open_part names options n (drop 1 html)) found.name

-- ---- an open tag

-- a tag, part by part
regrouped : (o s t e : List ℕ) → ((o ++ s) ++ t) ++ e ≡ o ++ ((s ++ t) ++ e)
regrouped o s t e = simp append_assoc

module _ (names : Names) (options : CompileOptions) (called html after : List ℕ) (place : after ≡ after_all is_tag_name_byte html) where
  -- the tag that is printed
  abbrev pub tag_of : Tag
  tag_of = tag called (kept options called (map (read_attribute names) (cut (length after) after)))

  -- a void tag
  pub void_printed : (s room : State) (out full : List ℕ) (open_here : List (List ℕ)) → is_in void_names called ≡ true → page_in room out open_here ≡ with_room called s
      → full ≡ ((out ++ codes "<") ++ tag_bytes tag_of) ++ codes " />" → page_in room full open_here ≡ raw_part s (open_part names options called html)
  void_printed s room out full open_here void made printed =
      ap (λ x. page_in room x open_here) (printed ∙ regrouped out (codes "<") (tag_bytes tag_of) (codes " />"))
      ∙ ap (says (void_tag tag_of)) made
      ∙ ap (λ t. raw_part s (Single t)) (sym (kept_form names options called html after place))
      ∙ ap (raw_part s) (sym (cond-true (is_in void_names called) (Single (kept_tag names options called html)) _ void))

  -- a start tag, by whether it ends at once
  start_part : (s : State) → is_in void_names called ≡ false
      → raw_part s (open_part names options called html) ≡ cond (ends_at_once html) (begins (ended 1) tag_of s) (begins (λ x. x) tag_of s)
  start_part s void =
      let t = kept_tag names options called html in
      ap (raw_part s) (cond-false (is_in void_names called) (Single t) (cond (ends_at_once html) (Empty t) (Begin t)) void)
      ∙ by_case (ends_at_once html)
      ∙ ap (λ t. cond (ends_at_once html) (begins (ended 1) t s) (begins (λ x. x) t s)) (kept_form names options called html after place)
    where
      by_case : (e : Bool) → raw_part s (cond e (Empty (kept_tag names options called html)) (Begin (kept_tag names options called html)))
          ≡ cond e (begins (ended 1) (kept_tag names options called html) s) (begins (λ x. x) (kept_tag names options called html) s)
      by_case true = refl
      by_case false = refl

  -- there is no place for it
  pub placeless : (s s1 : State) → is_in void_names called ≡ false
      → ((next : State → State) (t : Tag) → t.name ≡ called → begins next t s ≡ s1) → s1 ≡ raw_part s (open_part names options called html)
  placeless s s1 void none =
      sym (start_part s void ∙ ap (λ x. cond (ends_at_once html) x (begins (λ x. x) tag_of s)) (none (ended 1) tag_of refl)
      ∙ ap (λ x. cond (ends_at_once html) s1 x) (none (λ x. x) tag_of refl) ∙ by_case (ends_at_once html))
    where
      by_case : (e : Bool) → cond e s1 s1 ≡ s1
      by_case true = refl
      by_case false = refl

  -- it begins
  pub placed : (s s1 s2 : State) (out full : List ℕ) (open_here : List (List ℕ)) (ends : Bool) → is_in void_names called ≡ false
      → s1 ≡ page_in s1 out open_here
      → ((next : State → State) (t : Tag) → t.name ≡ called → begins next t s ≡ next (opened t s1))
      → full ≡ ((out ++ codes "<") ++ tag_bytes tag_of) ++ codes ">" → s2 ≡ with_open (called ∷ open_here) (page_in s1 full open_here)
      → ends ≡ begins_with (codes "/") (after_space (rest_after (length after) after))
      → cond ends (ended 1 s2) s2 ≡ raw_part s (open_part names options called html)
  placed s s1 s2 out full open_here ends void is found printed now test =
      let printed_so : s2 ≡ opened tag_of s1 =
      now ∙ ap (λ x. with_open (called ∷ open_here) (page_in s1 x open_here)) (printed ∙ regrouped out (codes "<") (tag_bytes tag_of) (codes ">"))
      ∙ ap (opened tag_of) (sym is) in
      ap (λ t. cond t (ended 1 s2) s2) (test ∙ sym (ends_form html after place))
      ∙ ap (λ x. cond (ends_at_once html) (ended 1 x) x) printed_so
      ∙ sym (start_part s void ∙ ap (λ x. cond (ends_at_once html) x (begins (λ x. x) tag_of s)) (found (ended 1) tag_of refl)
      ∙ ap (λ x. cond (ends_at_once html) (ended 1 (opened tag_of s1)) x) (found (λ x. x) tag_of refl))
