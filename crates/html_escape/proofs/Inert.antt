-- What the tools print is inert.
use Rattle.std.proofs.Common.{◌≡◌, ℕ, Bool, true, false, not, ◌&&◌, ◌||◌, eqb, cond, List, [], ◌∷◌, codes, refl, ap, ◌∙◌, inl, inr}
use Rattle.std.specs.List.{list_all}
use Rattle.std.proofs.lemmas.Bool.{cases_Bool, cond-true, cond-false}
use Rattle.std.proofs.lemmas.List.Folds.{list_all-append}
use Rattle.definition_text.specs.Encode.{encode, encoded_byte, replacement_character}
use Rattle.definition_page.specs.Urls.{permits, sanitize, sanitized_with}
use Rattle.html_escape.specs.Laws.{is_inert}

abbrev all_inert : List ℕ → Bool
all_inert bytes = list_all is_inert bytes

-- one of two texts that are inert
chosen : (b : Bool) (one other : List ℕ) → all_inert one ≡ true → (b ≡ false → all_inert other ≡ true) → all_inert (cond b one other) ≡ true
chosen true one other h k = h
chosen false one other h k = k refl

-- a byte that is none of the three
plain_inert : (b : ℕ) → eqb b 34 ≡ false → eqb b 60 ≡ false → eqb b 62 ≡ false → all_inert (b ∷ []) ≡ true
plain_inert b quote less greater =
    ap (λ q. not ((q || eqb b 60) || eqb b 62) && true) quote
    ∙ ap (λ l. not ((false || l) || eqb b 62) && true) less
    ∙ ap (λ g. not ((false || false) || g) && true) greater

byte_inert : (b : ℕ) → all_inert (encoded_byte b) ≡ true
byte_inert b =
    chosen (eqb b 0) replacement_character _ refl (λ _.
    chosen (eqb b 34) (codes "&quot;") _ refl (λ quote.
    chosen (eqb b 38) (codes "&amp;") _ refl (λ _.
    chosen (eqb b 60) (codes "&lt;") _ refl (λ less.
    chosen (eqb b 62) (codes "&gt;") (b ∷ []) refl (λ greater. plain_inert b quote less greater)))))

pub encode_law : (text : List ℕ) → list_all is_inert (encode text) ≡ true
encode_law [] = refl
encode_law (b ∷ bs) =
    list_all-append is_inert (encoded_byte b) (encode bs) ∙ ap (λ x. x && all_inert (encode bs)) (byte_inert b) ∙ encode_law bs

pub protocol_law : (protocols : List (List ℕ)) (url : List ℕ) → permits protocols (sanitized_with protocols url) ≡ true
protocol_law protocols url =
    let printed = sanitize url in
    let test = permits protocols printed in
    elim (cases_Bool test) [
      | inl h ↦ ap (permits protocols) (cond-true test printed [] h) ∙ h
      | inr h ↦ ap (permits protocols) (cond-false test printed [] h)
    ]
