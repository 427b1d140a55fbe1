-- What begins with `<` or `&`.
use Rattle.std.proofs.Common.{◌≡◌, ℕ, List, [], ◌∷◌, ◌++◌, Option, None, Some, codes, length, take, map, refl, sym, ap, ◌∙◌, subst, Bor, ◌-◌, inl, inr, arith}
use Rattle.std.proofs.lemmas.Bool.{cases_Bool, cond-true, cond-false}
use Rattle.std.proofs.lemmas.Option.{none-some, same_Some}
use Rattle.markdown_compile_options.specs.declared.configuration.CompileOptions.{CompileOptions}
use Rattle.markdown_options.specs.declared.configuration.Constructs.{Constructs}
use Rattle.markdown_options.specs.Defaults.{default_constructs}
use Rattle.definition_text.specs.Bytes.{begins_with}
use Rattle.definition_text.specs.Content.{content_codes}
use Rattle.definition_inline.specs.CharacterReference.{Names}
use Rattle.definition_inline.specs.Decoded.{known_at}
use Rattle.definition_inline.specs.HtmlText.{html_text_at, html_leaf, html_end}
use Rattle.definition_inline.specs.Inline as inline
use Rattle.inline_links.specs.Codes.{IsShorterRest}
use Rattle.inline_leaves.specs.Leaves.{found_leaf, parts_of, size_before}
use Rattle.inline_leaves.specs.declared.leaf.Leaf.{Leaf}
use Rattle.inline_leaves.specs.declared.leaf.LeafPart.{LeafPart}
use Rattle.inline_leaves.specs.declared.leaf.LeafPart.TheVariants.{Escape, Character, Number, Code, Math, Unclosed, Autolink, Literal, Html, EscapedBreak}
use Rattle.inline_leaves.specs.declared.leaf.LeafPart.TheVariants.{TrailingBreak, LineEnd, Spaces}
use Rattle.definition_html.specs.Attributes.{tag_bytes}
use Rattle.definition_html.specs.State.{State, says}
use Rattle.html_sanitizer.specs.Sanitized.{page_after, reference_part}
use Rattle.html_sanitizer.proofs.Ends.{page_in}
use Rattle.html_sanitizer.proofs.Tokens.{AreBytes}
use Rattle.html_sanitizer.proofs.Marks.{IsToken, is_token, lone_printed, reference_printed}
use Rattle.html_sanitizer.proofs.Rests.{byte_passed, reference_passed}

-- ---- leaves

escaped : (xs x : List ℕ) → map inline.Escape xs ≡ inline.Html x ∷ [] → ⊥
escaped [] x h = cc
escaped (b ∷ bs) x h = cc

datas : (xs x : List ℕ) → map inline.Data xs ≡ inline.Html x ∷ [] → ⊥
datas [] x h = cc
datas (b ∷ bs) x h = cc

-- a leaf of raw HTML is raw HTML
pub other_part : (p : LeafPart) → ((t : Bor (List ℕ)) → p ≡ Html t → ⊥) → (x : List ℕ) → parts_of p ≡ inline.Html x ∷ [] → ⊥
other_part (Escape text) other x h = escaped text.now x h
other_part (Character text) other x h = cc
other_part (Number radix digits) other x h = cc
other_part (Code text) other x h = cc
other_part (Math text) other x h = cc
other_part (Unclosed text) other x h = datas text.now x h
other_part (Autolink email text) other x h = cc
other_part (Literal kind text) other x h = cc
other_part (Html text) other x h = other text refl
other_part EscapedBreak other x h = cc
other_part TrailingBreak other x h = cc
other_part (LineEnd ending) other x h = cc
other_part Spaces other x h = cc

html_parts : (html : List ℕ) (parts : List inline.InlineLeaf) (size : ℕ) (o : Option (List ℕ)) → Some (inline.leaf parts size) ≡ html_leaf html o
    → (x : List ℕ) × (parts ≡ inline.Html x ∷ [])
html_parts html parts size None h = absurd (none-some _ (sym h))
html_parts html parts size (Some rest) h =
    let n = length html - length rest in
    (take n html, ap (λ (f : inline.Found). f.parts) (same_Some (inline.leaf parts size) (inline.leaf (inline.Html (take n html) ∷ []) n) h))

pub no_other : (on : Constructs) (rest : List ℕ) (found : Leaf) → on ≡ default_constructs → found_leaf rest (Some found) ≡ html_text_at on (content_codes rest)
    → ((t : Bor (List ℕ)) → found.part ≡ Html t → ⊥) → ⊥
no_other on rest found is read other =
    let default_read : Some (inline.leaf (parts_of found.part) (size_before rest found.after.now)) ≡ html_text_at default_constructs (content_codes rest) =
    read ∙ ap (λ o. html_text_at o (content_codes rest)) is in
    let parts = some_parts default_read in
    other_part found.part other parts.0 parts.1
  where
    some_parts : Some (inline.leaf (parts_of found.part) (size_before rest found.after.now)) ≡ html_text_at default_constructs (content_codes rest)
        → (x : List ℕ) × (parts_of found.part ≡ inline.Html x ∷ [])
    some_parts h = elim (cases_Bool (begins_with (codes "<") (content_codes rest))) [
      | inl t ↦ html_parts (content_codes rest) (parts_of found.part) (size_before rest found.after.now) (html_end (tag_bytes (content_codes rest)))
          (h ∙ cond-true (begins_with (codes "<") (content_codes rest)) (html_leaf (content_codes rest) (html_end (tag_bytes (content_codes rest)))) None t)
      | inr t ↦ absurd (none-some _ (sym (h
          ∙ cond-false (begins_with (codes "<") (content_codes rest)) (html_leaf (content_codes rest) (html_end (tag_bytes (content_codes rest)))) None t)))
    ]

pub leaf_token : (on : Constructs) (rest : List ℕ) (found : Leaf) (t : Bor (List ℕ)) → on ≡ default_constructs
    → found_leaf rest (Some found) ≡ html_text_at on (content_codes rest) → found.part ≡ Html t → IsToken rest t.now found.after.now
leaf_token on rest found t is read html =
    is_token rest t.now found.after.now (ap (λ p. Some (inline.leaf (parts_of p) (size_before rest found.after.now))) (sym html)
    ∙ read ∙ ap (λ o. html_text_at o (content_codes rest)) is)

-- ---- what is printed

pub sign_printed : (names : Names) (options : CompileOptions) (on : Constructs) (s : State) (out after rest next : List ℕ) (open_here : List (List ℕ)) → on
    ≡ default_constructs
    → found_leaf rest None ≡ html_text_at on (content_codes rest) → rest ≡ 60 ∷ next → after ≡ out ++ codes "&lt;"
    → page_after names options (page_in s after open_here) next ≡ page_after names options (page_in s out open_here) rest
sign_printed names options on s out after rest next open_here is read first printed =
    let none : None ≡ html_text_at default_constructs (content_codes (60 ∷ next)) =
    read ∙ ap (λ o. html_text_at o (content_codes rest)) is ∙ ap (λ x. html_text_at default_constructs (content_codes x)) first in
    ap (λ o. page_after names options (page_in s o open_here) next) printed
    ∙ lone_printed names options (page_in s out open_here) next none
    ∙ ap (page_after names options (page_in s out open_here)) (sym first)

pub known_printed : (names : Names) (options : CompileOptions) (s : State) (out after rest next follows : List ℕ) (open_here : List (List ℕ)) → AreBytes next
    → rest ≡ 38 ∷ next → after ≡ out ++ (let found = reference_part next (known_at names (38 ∷ next)) in found.text)
    → follows ≡ (let found = reference_part next (known_at names (38 ∷ next)) in found.rest)
    → page_after names options (page_in s after open_here) follows ≡ page_after names options (page_in s out open_here) rest
known_printed names options s out after rest next follows open_here are first printed place =
    let found = reference_part next (known_at names (38 ∷ next)) in
    ap (λ o. page_after names options (page_in s o open_here) follows) printed
    ∙ ap (page_after names options (says found.text (page_in s out open_here))) place
    ∙ reference_printed names options (page_in s out open_here) next found are refl
    ∙ ap (page_after names options (page_in s out open_here)) (sym first)

pub sign_passed : (rest next : List ℕ) → rest ≡ 60 ∷ next → IsShorterRest rest next
sign_passed rest next first = subst (λ x. IsShorterRest x next) (sym first) (byte_passed 60 next)

pub known_passed : (names : Names) (rest next follows : List ℕ) → rest ≡ 38 ∷ next
    → follows ≡ (let found = reference_part next (known_at names (38 ∷ next)) in found.rest) → IsShorterRest rest follows
known_passed names rest next follows first place = subst (λ x. IsShorterRest x follows) (sym first) (reference_passed names next follows (sym place))

-- all is printed
pub nothing_left : (names : Names) (options : CompileOptions) (s : State) (rest : List ℕ) → length rest ≡ 0 → page_after names options s rest ≡ s
nothing_left names options s [] none = refl
nothing_left names options s (b ∷ bs) none = absurd (omega arith)
