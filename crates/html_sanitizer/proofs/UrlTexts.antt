-- URLs, and texts in which a byte is printed as something else.
use Rattle.std.proofs.Common.{◌≡◌, ℕ, suc, ◌+◌, ◌<◌, Bool, true, false, not, ◌||◌, cond, eqb, List, [], ◌∷◌, ◌++◌, length, take, drop, refl, sym, ap, ◌∙◌}
use Rattle.std.proofs.Common.{arith, inl, inr, append_assoc}
use Rattle.std.specs.List.{filter, position_or_len, before_first, after_first}
use Rattle.std.proofs.lemmas.Bool.{cases_Bool, cond-true, cond-false, eqb-true, or_from}
use Rattle.inline_links.proofs.Runs.{one_more}
use Rattle.definition_text.specs.Encode.{encode, plain_byte, plain}
use Rattle.definition_page.specs.Urls.{percent, sanitize, permits, sanitized_with}
use Rattle.definition_page.specs.InlinePieces.{permitted_url}
use Rattle.definition_html.specs.Attributes.{is_left_out, url_bytes}
use Rattle.html_sanitizer.specs.Urls.{replaced_byte, replaced}

-- a URL where not all are allowed
pub url_with : (all : Bool) (protocols : List (List ℕ)) (url : List ℕ) → all ≡ false → encode (permitted_url all protocols url) ≡ sanitized_with protocols url
url_with all protocols url none = ap (λ t. encode (permitted_url t protocols url)) none ∙ by_case (permits protocols (sanitize url))
  where
    by_case : (t : Bool) → encode (cond t (percent url) []) ≡ cond t (sanitize url) []
    by_case true = refl
    by_case false = refl

-- ---- one byte replaced

-- up to the first one, and after it
pub replaced_first : (c : ℕ) (other : List ℕ) (text : List ℕ) → position_or_len (λ b. eqb b c) text < length text
    → replaced c other text ≡ before_first (λ b. eqb b c) text ++ (other ++ replaced c other (after_first (λ b. eqb b c) text))
replaced_first c other [] h = absurd (omega arith)
replaced_first c other (b ∷ bs) h = elim (cases_Bool (eqb b c)) [
  | inl t ↦
      let place : position_or_len (λ b. eqb b c) (b ∷ bs) ≡ 0 = ap (λ t. cond (not t) (1 + position_or_len (λ b. eqb b c) bs) 0) t in
      ap (λ x. x ++ replaced c other bs) (cond-true (eqb b c) other (b ∷ []) t)
      ∙ ap (λ n. take n (b ∷ bs) ++ (other ++ replaced c other (drop (n + 1) (b ∷ bs)))) (sym place)
  | inr t ↦
      let n = position_or_len (λ b. eqb b c) bs in
      let place : position_or_len (λ b. eqb b c) (b ∷ bs) ≡ suc n = ap (λ t. cond (not t) (1 + n) 0) t ∙ one_more n in
      let next : suc n + 1 ≡ suc (n + 1) = omega arith in
      ap (λ x. x ++ replaced c other bs) (cond-false (eqb b c) other (b ∷ []) t)
      ∙ ap (λ x. b ∷ x) (replaced_first c other bs (omega (arith, place, h)))
      ∙ ap (λ k. b ∷ (take n bs ++ (other ++ replaced c other (drop k (b ∷ bs))))) (sym next)
      ∙ ap (λ k. take k (b ∷ bs) ++ (other ++ replaced c other (drop (k + 1) (b ∷ bs)))) (sym place)
]

-- where there is none
pub replaced_none : (c : ℕ) (other : List ℕ) (text : List ℕ) → position_or_len (λ b. eqb b c) text ≡ length text → replaced c other text ≡ text
replaced_none c other [] h = refl
replaced_none c other (b ∷ bs) h = elim (cases_Bool (eqb b c)) [
  | inl t ↦ absurd (omega (arith, sym (ap (λ t. cond (not t) (1 + position_or_len (λ b. eqb b c) bs) 0) t) ∙ h))
  | inr t ↦
      let more : 1 + position_or_len (λ b. eqb b c) bs ≡ length (b ∷ bs) = sym (ap (λ t. cond (not t) (1 + position_or_len (λ b. eqb b c) bs) 0) t) ∙ h in
      ap (λ x. x ++ replaced c other bs) (cond-false (eqb b c) other (b ∷ []) t) ∙ ap (λ x. b ∷ x) (replaced_none c other bs (omega arith))
]

replaced_append : (c : ℕ) (other a b : List ℕ) → replaced c other (a ++ b) ≡ replaced c other a ++ replaced c other b
replaced_append c other [] b = refl
replaced_append c other (x ∷ xs) b =
    ap (λ y. replaced_byte c other x ++ y) (replaced_append c other xs b)
    ∙ sym (append_assoc (replaced_byte c other x) (replaced c other xs) (replaced c other b))

-- ---- a URL as a browser reads it

abbrev four : List ℕ → List ℕ
four text = replaced 0 (239 ∷ 191 ∷ 189 ∷ []) (replaced 13 [] (replaced 10 [] (replaced 9 [] text)))

four_first : (b : ℕ) (bs : List ℕ) → four (b ∷ bs) ≡ four (b ∷ []) ++ four bs
four_first b bs =
    ap (λ x. replaced 0 (239 ∷ 191 ∷ 189 ∷ []) (replaced 13 [] (replaced 10 [] x))) (replaced_append 9 [] (b ∷ []) bs)
    ∙ ap (λ x. replaced 0 (239 ∷ 191 ∷ 189 ∷ []) (replaced 13 [] x)) (replaced_append 10 [] (replaced 9 [] (b ∷ [])) (replaced 9 [] bs))
    ∙ ap (replaced 0 (239 ∷ 191 ∷ 189 ∷ [])) (replaced_append 13 [] (replaced 10 [] (replaced 9 [] (b ∷ []))) (replaced 10 [] (replaced 9 [] bs)))
    ∙ replaced_append 0 (239 ∷ 191 ∷ 189 ∷ []) (replaced 13 [] (replaced 10 [] (replaced 9 [] (b ∷ [])))) (replaced 13 [] (replaced 10 [] (replaced 9 [] bs)))

-- a byte of it
url_byte : ℕ → List ℕ
url_byte b = cond (not (is_left_out b)) (plain_byte b) []

url_first : (b : ℕ) (bs : List ℕ) → url_bytes (b ∷ bs) ≡ url_byte b ++ url_bytes bs
unfolding url_byte
url_first b bs = by_case (not (is_left_out b))
  where
    by_case : (t : Bool) → plain (cond t (b ∷ filter (λ b. not (is_left_out b)) bs) (filter (λ b. not (is_left_out b)) bs))
        ≡ cond t (plain_byte b) [] ++ plain (filter (λ b. not (is_left_out b)) bs)
    by_case true = refl
    by_case false = refl

-- the bytes of a text by one byte after another
keep : (c b : ℕ) (other : List ℕ) → eqb b c ≡ false → replaced c other (b ∷ []) ≡ b ∷ []
keep c b other h = ap (λ x. x ++ []) (cond-false (eqb b c) other (b ∷ []) h)

four_byte : (b : ℕ) → four (b ∷ []) ≡ url_byte b
unfolding url_byte
four_byte b = elim (cases_Bool (eqb b 9)) [
  | inl h ↦ ap four (ap (λ x. x ∷ []) (eqb-true b 9 h)) ∙ sym (ap (λ x. cond (not (is_left_out x)) (plain_byte x) []) (eqb-true b 9 h))
  | inr tab ↦ elim (cases_Bool (eqb b 10)) [
    | inl h ↦ ap four (ap (λ x. x ∷ []) (eqb-true b 10 h)) ∙ sym (ap (λ x. cond (not (is_left_out x)) (plain_byte x) []) (eqb-true b 10 h))
    | inr feed ↦ elim (cases_Bool (eqb b 13)) [
      | inl h ↦ ap four (ap (λ x. x ∷ []) (eqb-true b 13 h)) ∙ sym (ap (λ x. cond (not (is_left_out x)) (plain_byte x) []) (eqb-true b 13 h))
      | inr return ↦
          ap (λ x. replaced 0 (239 ∷ 191 ∷ 189 ∷ []) (replaced 13 [] (replaced 10 [] x))) (keep 9 b [] tab)
          ∙ ap (λ x. replaced 0 (239 ∷ 191 ∷ 189 ∷ []) (replaced 13 [] x)) (keep 10 b [] feed)
          ∙ ap (replaced 0 (239 ∷ 191 ∷ 189 ∷ [])) (keep 13 b [] return)
          ∙ last (eqb b 0)
          ∙ sym (ap (λ t. cond (not t) (plain_byte b) []) (or_from (eqb b 9) (eqb b 10 || eqb b 13) tab (or_from (eqb b 10) (eqb b 13) feed return)))
    ]
  ]
]
  where
    last : (t : Bool) → cond t (239 ∷ 191 ∷ 189 ∷ []) (b ∷ []) ++ [] ≡ cond t (239 ∷ 191 ∷ 189 ∷ []) (b ∷ [])
    last true = refl
    last false = refl

pub url_replaced : (text : List ℕ) → four text ≡ url_bytes text
url_replaced [] = refl
url_replaced (b ∷ bs) = four_first b bs ∙ ap (λ x. x ++ four bs) (four_byte b) ∙ ap (λ x. url_byte b ++ x) (url_replaced bs) ∙ sym (url_first b bs)
