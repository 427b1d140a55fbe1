-- A map from names to their texts.
use Rattle.std.specs.Prelude.{◌≡◌, ℕ, ◌&&◌, nat_lt, bytes_eq, if◌then◌else◌, Bool, true, List, Option, None, Some, length, String, string_bytes}
use Rattle.std.specs.Option.{option_map}
use Rattle.std.specs.BTreeMap.{BTreeMap, get_by_text}
use Rattle.definition_inline.specs.ReferenceRows.{is_name}
use Rattle.definition_inline.specs.CharacterReference.{Names}

-- the text of a name
abbrev pub text_of : {Y : Type 0} → BTreeMap (String Y) (String Y) → Names
text_of texts name = option_map string_bytes (get_by_text texts name)

-- these names, but this one has this text
abbrev pub names_with : List ℕ → List ℕ → Names → Names
names_with name text names other = if bytes_eq name other then Some text else names other

-- 1 to 31 letters and digits have a text, and it isn't empty
abbrev pub is_lawful : List ℕ → Option (List ℕ) → Bool
is_lawful name None = true
is_lawful name (Some text) = is_name name && nat_lt 0 (length text)

abbrev pub AreLawful : {Y : Type 0} → BTreeMap (String Y) (String Y) → Type 0
AreLawful texts = (name : List ℕ) → is_lawful name (text_of texts name) ≡ true
