-- How references are written (CommonMark 2.5).
use Rattle.std.specs.Prelude.{◌≡◌, ℕ, ◌≤◌, Bool, List, [], ◌∷◌, ◌++◌, Some, length, IsTrue}
use Rattle.std.specs.Char.{is_ascii_digit, is_ascii_hexdigit, is_ascii_alphanumeric}
use Rattle.std.specs.List.{list_all}
use Rattle.definition_text.specs.Ascii.{number_sign, ampersand, semicolon, capital_x, small_x}
use Rattle.definition_inline.specs.CharacterReference.{CharacterName, Named, Numbered, CharacterReference, character_reference, Names, number_of}
use Rattle.definition_inline.specs.CharacterReference.{reference_form, reference_text}
use Rattle.definition_inline.specs.Decoded.{decode}

-- from one to so many bytes, all of a kind
pub record IsValue (test : ℕ → Bool) (most : ℕ) (value : List ℕ) : Type 0 where
  pub nonempty : 1 ≤ length value
  pub bounded : length value ≤ most
  pub bytes : IsTrue (list_all test value)

-- a reference: `&` and a name, `&#` and decimal digits, or `&#x` or `&#X` and hexadecimal digits, and `;`
pub data IsWritten : List ℕ → CharacterName → Type 0 where
  name : (value : List ℕ) → IsValue is_ascii_alphanumeric 31 value → IsWritten (ampersand ∷ value ++ semicolon ∷ []) (Named value)
  digits : (value : List ℕ) → IsValue is_ascii_digit 7 value → IsWritten (ampersand ∷ number_sign ∷ value ++ semicolon ∷ []) (Numbered (number_of 10 value))
  lower_x : (value : List ℕ) → IsValue is_ascii_hexdigit 6 value
      → IsWritten (ampersand ∷ number_sign ∷ small_x ∷ value ++ semicolon ∷ []) (Numbered (number_of 16 value))
  upper_x : (value : List ℕ) → IsValue is_ascii_hexdigit 6 value
      → IsWritten (ampersand ∷ number_sign ∷ capital_x ∷ value ++ semicolon ∷ []) (Numbered (number_of 16 value))

-- what is written is read
abbrev pub WrittenIsRead : Type 0
WrittenIsRead = (front rest : List ℕ) (name : CharacterName) → IsWritten front name → reference_form (front ++ rest) ≡ Some (character_reference name rest)

-- and what is read is written
abbrev pub ReadIsWritten : Type 0
ReadIsWritten =
    (bytes : List ℕ) (r : CharacterReference) → reference_form bytes ≡ Some r → (front : List ℕ) × IsWritten front r.name × (bytes ≡ front ++ r.rest)

-- no reference whose text is known begins here
abbrev pub NoReference : Names → List ℕ → Type 0
NoReference names bytes =
    (front rest text : List ℕ) (name : CharacterName) → IsWritten front name → reference_text names name ≡ Some text → bytes ≡ front ++ rest → ⊥

-- what a text is decoded to: each reference whose text is known becomes that text, and every other byte stays
pub data Decodes (names : Names) : List ℕ → List ℕ → Type 0 where
  nothing : Decodes names [] []
  known : (front rest text out : List ℕ) (name : CharacterName) → IsWritten front name → reference_text names name ≡ Some text
      → Decodes names rest out → Decodes names (front ++ rest) (text ++ out)
  kept : (b : ℕ) (bs out : List ℕ) → NoReference names (b ∷ bs) → Decodes names bs out → Decodes names (b ∷ bs) (b ∷ out)

-- a text is decoded to this one text, and to no other
abbrev pub DecodesDecoded : Type 0
DecodesDecoded = (names : Names) (text : List ℕ) → Decodes names text (decode names text)

abbrev pub DecodesAlone : Type 0
DecodesAlone = (names : Names) (text out : List ℕ) → Decodes names text out → decode names text ≡ out
