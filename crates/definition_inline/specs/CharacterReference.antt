-- Character references (CommonMark 2.5): `&` a name `;`, `&#` 1 to 7 digits `;`, `&#x` or `&#X` 1 to 6 hexadecimal digits `;`.
use Rattle.std.specs.Prelude.{ℕ, ◌+◌, ◌-◌, ◌*◌, ◌%◌, Bool, if◌then◌else◌, ◌==◌, ◌&&◌, ◌||◌, nat_le, List, [], ◌∷◌, Option, None, Some, take, drop, length}
use Rattle.std.specs.Char.{is_ascii_digit, is_ascii_hexdigit, is_ascii_alphanumeric, digit_value, encode_utf8}
use Rattle.std.specs.Int.{is_in_range}
use Rattle.std.specs.List.{prefix_len, fold}
use Rattle.markdown_options.specs.declared.configuration.Constructs.{Constructs}
use Rattle.definition_text.specs.Ascii.{number_sign, ampersand, semicolon, capital_x, small_x}
use Rattle.definition_text.specs.Columns.{Code}
use Rattle.definition_text.specs.Content.{Part, part}
use Rattle.definition_inline.specs.Inline.{Found, leaf, Character}

-- the name or the number of a character (CommonMark 2.5)
pub data CharacterName : Type 0 where
  Named : List ℕ → CharacterName
  Numbered : ℕ → CharacterName

-- a reference: its name or number, and what follows it
pub record CharacterReference : Type 0 where
  pub name : CharacterName
  pub rest : List Code

abbrev pub character_reference : CharacterName → List Code → CharacterReference
character_reference name rest = record { name = name; rest = rest }

-- a text before a `;`
abbrev pub before_semicolon : List Code → List Code → Option Part
before_semicolon text [] = None
before_semicolon text (c ∷ cs) = if c == semicolon then Some (part text cs) else None

-- the codes ahead that pass a test, from 1 to so many of them, before a `;`
abbrev pub part_to_semicolon : (Code → Bool) → ℕ → List Code → Option Part
part_to_semicolon test most content =
    let size = prefix_len test content in
    if nat_le 1 size && nat_le size most then before_semicolon (take size content) (drop size content) else None

-- the number that digits spell in this base
abbrev pub number_of : ℕ → List ℕ → ℕ
number_of base digits = fold (λ n digit. n * base + digit_value digit) 0 digits

-- a reference by number, with the digits of this base
abbrev pub reference_by_number : ℕ → Option Part → Option CharacterReference
reference_by_number base None = None
reference_by_number base (Some digits) = Some (character_reference (Numbered (number_of base digits.text)) digits.rest)

-- a reference by name
abbrev pub reference_by_name : Option Part → Option CharacterReference
reference_by_name None = None
reference_by_name (Some name) = Some (character_reference (Named name.text) name.rest)

-- a reference by number after its `&#` (CommonMark 2.5)
abbrev pub number_reference : List Code → Option CharacterReference
number_reference [] = None
number_reference (c ∷ cs) =
    if (c == small_x) || (c == capital_x) then reference_by_number 16 (part_to_semicolon is_ascii_hexdigit 6 cs)
    else reference_by_number 10 (part_to_semicolon is_ascii_digit 7 (c ∷ cs))

-- a reference after its `&` (CommonMark 2.5)
abbrev pub reference_after : List Code → Option CharacterReference
reference_after [] = None
reference_after (c ∷ cs) =
    if c == number_sign then number_reference cs else reference_by_name (part_to_semicolon is_ascii_alphanumeric 31 (c ∷ cs))

-- a reference by its form alone: names aren't looked up (CommonMark 2.5)
abbrev pub reference_form : List Code → Option CharacterReference
reference_form [] = None
reference_form (c ∷ cs) = if c == ampersand then reference_after cs else None

-- a number that stands for no character of a text: NUL, the control characters but tab, line feed, form feed and return, surrogates, noncharacters, and all
-- above U+10FFFF
abbrev pub is_replaced : ℕ → Bool
is_replaced number =
    nat_le number 8 || (number == 11) || is_in_range 14 31 number || is_in_range 127 159 number
    || is_in_range 0xD800 0xDFFF number || is_in_range 0xFDD0 0xFDEF number || nat_le 0xFFFE (number % 0x1_0000) || nat_le 0x11_0000 number

-- the character that a number stands for: U+FFFD in place of those (CommonMark 2.5)
abbrev pub character_of : ℕ → ℕ
character_of number = if is_replaced number then 0xFFFD else number

-- its bytes
abbrev pub numbered_text : ℕ → List ℕ
numbered_text number = encode_utf8 (character_of number)

-- the names that are known: the text of each, and none for the others
abbrev pub Names : Type 0
Names = List ℕ → Option (List ℕ)

-- the bytes that a name or a number stands for
abbrev pub reference_text : Names → CharacterName → Option (List ℕ)
reference_text names (Named name) = names name
reference_text names (Numbered number) = Some (numbered_text number)

-- a reference to a text that is there
abbrev pub reference_leaf : ℕ → Option (List ℕ) → Option Found
reference_leaf size None = None
reference_leaf size (Some text) = Some (leaf (Character text ∷ []) size)

-- a reference of this form in a content
abbrev pub reference_of : Names → List Code → Option CharacterReference → Option Found
reference_of names content None = None
reference_of names content (Some found) = reference_leaf (length content - length found.rest) (reference_text names found.name)

-- a character reference, whose name the table has (CommonMark 2.5)
abbrev pub reference_at : Constructs → Names → List Code → Option Found
reference_at on names content = if on.character_reference then reference_of names content (reference_form content) else None
