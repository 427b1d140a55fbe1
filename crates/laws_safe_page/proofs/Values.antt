-- What is said is a text as a safe page spells it, and so are the values of attributes.
use Rattle.std.proofs.Common.{◌≡◌, ℕ, zero, suc, ◌/◌, ◌%◌, Bool, true, false, eqb, not, ◌||◌, ◌&&◌, List, [], ◌∷◌, ◌++◌, codes, refl, sym, ap, ◌∙◌, subst, inl}
use Rattle.std.proofs.Common.{inr, arith}
use Rattle.std.specs.List.{flat_map, list_all}
use Rattle.std.specs.Fmt.{digit_glyph, digits, digits_onto, decimal}
use Rattle.std.proofs.lemmas.Bool.{cond_both, cond-false, and_parts, and_from, or_cases, eqb-true, not-true, false≢true}
use Rattle.std.proofs.lemmas.Bool.Decides.{nat_tests}
use Rattle.std.proofs.lemmas.List.Folds.{list_all-append}
use Rattle.definition_text.specs.Content.{is_eol}
use Rattle.definition_text.specs.Encode.{replacement_character, encoded_byte, encode, plain}
use Rattle.definition_inline.specs.Strings.{eol_bytes}
use Rattle.definition_page.specs.Tags.{PrintedPart, Words, AsItIs, Marked, EndOfLine, Number, marked, said_bytes}
use Rattle.html_safe_page.specs.SafePage.{And, Quote, Less, Greater, Plain, kind, spell_kind, spell_text}
use Rattle.html_safe_page.proofs.Closing.{texts_append, encode_spelled}
use Rattle.laws_safe_page.proofs.Each.{Each}

-- ---- NUL, which is printed as U+FFFD

abbrev pub has_no_nul : List ℕ → Bool
has_no_nul bytes = list_all (λ b. not (eqb b 0)) bytes

pub no_nul_append : (a b : List ℕ) → has_no_nul a ≡ true → has_no_nul b ≡ true → has_no_nul (a ++ b) ≡ true
no_nul_append a b p q = list_all-append (λ b. not (eqb b 0)) a b ∙ and_from (has_no_nul a) (has_no_nul b) p q

pub no_nul_parts : (a b : List ℕ) → has_no_nul (a ++ b) ≡ true → (has_no_nul a ≡ true) × (has_no_nul b ≡ true)
no_nul_parts a b h = and_parts (has_no_nul a) (has_no_nul b) (sym (list_all-append (λ b. not (eqb b 0)) a b) ∙ h)

-- bytes without NUL are printed as they are
pub as_it_is : (bytes : List ℕ) → has_no_nul bytes ≡ true → plain bytes ≡ bytes
as_it_is [] h = refl
as_it_is (b ∷ bs) h =
    let parts = and_parts (not (eqb b 0)) (has_no_nul bs) h in
    ap (λ x. x ++ plain bs) (cond-false (eqb b 0) replacement_character (b ∷ []) (not-true (eqb b 0) parts.0)) ∙ ap (λ x. b ∷ x) (as_it_is bs parts.1)

-- and so are texts
byte_no_nul : (b : ℕ) → has_no_nul (encoded_byte b) ≡ true
byte_no_nul b =
    let P : List ℕ → Type 0 = λ bytes. has_no_nul bytes ≡ true in
    cond_both (eqb b 0) replacement_character _ P (λ _. refl) (λ e.
    cond_both (eqb b 34) (codes "&quot;") _ P (λ _. refl) (λ _.
    cond_both (eqb b 38) (codes "&amp;") _ P (λ _. refl) (λ _.
    cond_both (eqb b 60) (codes "&lt;") _ P (λ _. refl) (λ _.
    cond_both (eqb b 62) (codes "&gt;") (b ∷ []) P (λ _. refl) (λ _. ap (λ t. not t && true) e)))))

pub encode_no_nul : (text : List ℕ) → has_no_nul (encode text) ≡ true
encode_no_nul [] = refl
encode_no_nul (b ∷ bs) = no_nul_append (encoded_byte b) (encode bs) (byte_no_nul b) (encode_no_nul bs)

-- ---- texts

-- these bytes spell a text without NUL
abbrev pub IsText : List ℕ → Type 0
IsText bytes = (text : List ℕ) × (bytes ≡ spell_text text []) × (has_no_nul bytes ≡ true)

pub no_text : IsText []
no_text = ([], refl, refl)

pub texts_joined : (a b : List ℕ) → IsText a → IsText b → IsText (a ++ b)
texts_joined a b p q =
    (p.0 ++ q.0, ap (λ x. x ++ b) p.1 ∙ ap (λ x. spell_text p.0 [] ++ x) q.1 ∙ sym (texts_append p.0 q.0), no_nul_append a b p.2 q.2)

-- ---- numbers

abbrev pub plain_ahead : (b : ℕ) (bytes : List ℕ) → kind b ≡ Plain → eqb b 0 ≡ false → IsText bytes → IsText (b ∷ bytes)
plain_ahead b bytes k z p =
    (b ∷ p.0, ap (λ x. b ∷ x) p.1 ∙ ap (λ kind. spell_kind kind b ++ spell_text p.0 []) (sym k), ap (λ t. not t && has_no_nul bytes) z ∙ p.2)

other_plain : (b : ℕ) → eqb b 38 ≡ false → eqb b 34 ≡ false → eqb b 60 ≡ false → eqb b 62 ≡ false → kind b ≡ Plain
other_plain b a q l g = cond-false (eqb b 38) And _ a ∙ cond-false (eqb b 34) Quote _ q ∙ cond-false (eqb b 60) Less _ l ∙ cond-false (eqb b 62) Greater Plain g

digit_plain : (d : ℕ) → kind (digit_glyph false d) ≡ Plain
digit_plain d = other_plain (digit_glyph false d) (grind (arith, nat_tests)) (grind (arith, nat_tests)) (grind (arith, nat_tests)) (grind (arith, nat_tests))

digit_no_nul : (d : ℕ) → eqb (digit_glyph false d) 0 ≡ false
digit_no_nul d = grind (arith, nat_tests)

digits_text : (k n : ℕ) (after : List ℕ) → IsText after → IsText (digits_onto k 10 false n after)
digits_text zero n after p = p
digits_text (suc k) n after p =
    let glyph = digit_glyph false (n % 10) in
    let q : IsText (glyph ∷ after) = plain_ahead glyph after (digit_plain (n % 10)) (digit_no_nul (n % 10)) p in
    cond_both (eqb (n / 10) 0) (glyph ∷ after) _ IsText (λ _. q) (λ _. digits_text k (n / 10) (glyph ∷ after) q)

number_text : (n : ℕ) → IsText (decimal n)
unfolding digits
number_text n = digits_text 64 n [] no_text

-- ---- endings of lines

ending_spelled : (code : ℕ) → is_eol code ≡ true → IsText (eol_bytes code)
ending_spelled code h =
    let at = λ (c : ℕ) (e : eqb code c ≡ true) (p : IsText (eol_bytes c)). subst (λ c. IsText (eol_bytes c)) (sym (eqb-true code c e)) p in
    elim (or_cases (eqb code 10 || eqb code 13) (eqb code 257) h) [
      | inl one ↦ elim (or_cases (eqb code 10) (eqb code 13) one) [
        | inl feed ↦ at 10 feed (10 ∷ [], refl, refl)
        | inr return ↦ at 13 return (13 ∷ [], refl, refl)
      ]
      | inr both ↦ at 257 both (13 ∷ 10 ∷ [], refl, refl)
    ]

-- ---- what is said

-- a part that is none of raw HTML, but where marks are allowed raw HTML that is marked
abbrev pub IsSafePart : Bool → PrintedPart → Type 0
IsSafePart marks (Words text) = Unit {0}
IsSafePart marks (AsItIs html) = ⊥
IsSafePart marks (Marked html) = marks ≡ true
IsSafePart marks (EndOfLine code) = is_eol code ≡ true
IsSafePart marks (Number n) = Unit {0}

pub said_spelled : (said : PrintedPart) → IsSafePart false said → IsText (said_bytes said)
said_spelled (Words text) h = (plain text, encode_spelled text, encode_no_nul text)
said_spelled (AsItIs html) h = absurd h
said_spelled (Marked html) h = absurd (false≢true h)
said_spelled (EndOfLine code) h = ending_spelled code h
said_spelled (Number n) h = number_text n

pub marked_no_nul : (html : List ℕ) → has_no_nul (marked html) ≡ true
marked_no_nul [] = refl
marked_no_nul (b ∷ bs) =
    no_nul_append (codes "<>" ++ encode (b ∷ bs)) (codes "</>") (no_nul_append (codes "<>") (encode (b ∷ bs)) refl (encode_no_nul (b ∷ bs))) refl

-- parts that are none of raw HTML
abbrev pub AreTextParts : List PrintedPart → Type 0
AreTextParts parts = Each (IsSafePart false) parts

pub value_spelled : (value : List PrintedPart) → AreTextParts value → IsText (flat_map said_bytes value)
value_spelled [] h = no_text
value_spelled (said ∷ others) h = texts_joined (said_bytes said) (flat_map said_bytes others) (said_spelled said h.0) (value_spelled others h.1)
