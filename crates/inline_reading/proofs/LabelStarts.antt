-- Label starts at the front of a content.
use Rattle.std.proofs.Common.{◌≡◌, ℕ, Bool, true, false, not, ◌&&◌, ◌||◌, eqb, List, [], ◌∷◌, ◌++◌, refl, sym, ap, ◌∙◌, length, drop, arith, inl, inr, subst}
use Rattle.std.specs.Prelude.{codes}
use Rattle.std.proofs.lemmas.Bool.{cases_Bool, and_left, and_parts, eqb-true, eq-eqb, true≢false}
use Rattle.markdown_options.specs.declared.configuration.Constructs.{Constructs}
use Rattle.definition_text.specs.Bytes.{begins_with}
use Rattle.definition_text.specs.Content.{content_codes}
use Rattle.definition_inline.specs.GfmLabelStartFootnote.{starts_call, starts_marked_call}
use Rattle.definition_inline.specs.Scan.{start_bytes, starts_image, starts_link}
use Rattle.inline_leaves.proofs.Codes.{plain_code, at_return, end_after}
use Rattle.inline_leaves.proofs.Fronts.{begun}
use Rattle.inline_reading.specs.LabelStarts.{has_no_return, StartsLabel}
use Rattle.inline_reading.specs.Shows.{start_view}
use Rattle.inline_reading.specs.declared.label.LabelStart.{LabelStart}
use Rattle.inline_reading.specs.declared.label.LabelStart.TheVariants as start

not_true : (a : Bool) → not a ≡ true → a ≡ false
not_true true e = sym e
not_true false e = refl

-- a text without line endings stands at the front of bytes where it does of their codes
pub begins_codes : (ts : List ℕ) → has_no_return ts ≡ true → (xs : List ℕ) → begins_with ts (content_codes xs) ≡ begins_with ts xs
begins_codes [] h xs = refl
begins_codes (t ∷ ts) h [] = refl
begins_codes (t ∷ ts) h (b ∷ bs) =
    let both = and_parts (not (eqb t 13) && not (eqb t 257)) (has_no_return ts) h in
    let ends = and_parts (not (eqb t 13)) (not (eqb t 257)) both.0 in
    let return : eqb t 13 ≡ false = not_true (eqb t 13) ends.0 in
    let two : eqb t 257 ≡ false = not_true (eqb t 257) ends.1 in
    elim (cases_Bool (eqb b 13)) [
      | inl h ↦
          let e = eqb-true b 13 h in
          ap (λ x. begins_with (t ∷ ts) (content_codes (x ∷ bs))) e
          ∙ at_return (begins_with (t ∷ ts)) false bs (λ cs. and_left (eqb t 13) _ return) (λ cs. and_left (eqb t 257) _ two)
          ∙ sym (ap (λ x. begins_with (t ∷ ts) (x ∷ bs)) e ∙ and_left (eqb t 13) _ return)
      | inr h ↦
          ap (begins_with (t ∷ ts)) (plain_code b bs (λ e. true≢false (sym (eq-eqb b 13 e) ∙ h)))
          ∙ ap (λ x. eqb t b && x) (begins_codes ts both.1 bs)
    ]

-- what begins with a label start begins with its bytes
pub label_start : (s : LabelStart) (rest ys : List ℕ) → rest ≡ start_bytes (start_view s) ++ ys → StartsLabel rest s
label_start start.Link rest ys is =
    subst (λ xs. StartsLabel xs start.Link) (sym is) (record {
      end = end_after (91 ∷ ys) 1 (omega arith) (omega arith) (omega arith) (λ e. omega (arith, e));
      first = refl;
    })
label_start start.Image rest ys is =
    subst (λ xs. StartsLabel xs start.Image) (sym is)
    (record { end = end_after (33 ∷ 91 ∷ ys) 2 (omega arith) (omega arith) (omega arith) (λ e. omega (arith, e)); first = refl })

-- a content whose codes begin with this text begins with it
pub begun_codes : (ts : List ℕ) → has_no_return ts ≡ true → (xs : List ℕ) → begins_with ts (content_codes xs) ≡ true → xs ≡ ts ++ drop (length ts) xs
begun_codes ts h xs e = begun ts xs (sym (begins_codes ts h xs) ∙ e)

-- where an image starts, its bytes come first
pub image_starts : (on : Constructs) (rest : List ℕ) → starts_image on (content_codes rest) ≡ true → StartsLabel rest start.Image
image_starts on rest h =
    let both = and_parts (on.label_start_image && begins_with (codes "![") (content_codes rest)) (not (starts_marked_call on (content_codes rest))) h in
    let begins = and_parts on.label_start_image (begins_with (codes "![") (content_codes rest)) both.0 in
    label_start start.Image rest (drop 2 rest) (begun_codes (codes "![") refl rest begins.1)

-- and where a link or a call starts
pub link_starts : (on : Constructs) (rest : List ℕ) → starts_link on (content_codes rest) ≡ true → StartsLabel rest start.Link
link_starts on rest h = elim (cases_Bool (on.label_start_link && begins_with (codes "[") (content_codes rest))) [
  | inl link ↦
      let begins = and_parts on.label_start_link (begins_with (codes "[") (content_codes rest)) link in
      label_start start.Link rest (drop 1 rest) (begun_codes (codes "[") refl rest begins.1)
  | inr none ↦
      let call : starts_call on (content_codes rest) ≡ true = sym (ap (λ b. b || starts_call on (content_codes rest)) none) ∙ h in
      let begins = and_parts on.gfm_label_start_footnote (begins_with (codes "[^") (content_codes rest)) call in
      label_start start.Link rest (94 ∷ drop 2 rest) (begun_codes (codes "[^") refl rest begins.1)
]
