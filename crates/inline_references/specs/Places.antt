-- What references that were found stand for, and where they stand.
use Rattle.std.specs.Prelude.{◌≡◌, ℕ, ◌+◌, ◌-◌, ◌<◌, ◌≤◌, List, ◌∷◌, ◌++◌, length, take, drop, slice_index, IsTrue}
use Rattle.std.specs.List.{list_all}
use Rattle.definition_text.specs.Ascii.{semicolon}
use Rattle.definition_inline.specs.CharacterReference as definition
use Rattle.definition_inline.specs.CharacterReference.{character_reference}
use Rattle.inline_references.specs.declared.reference.Reference.{Reference}
use Rattle.inline_references.specs.declared.reference.CharacterReference.{CharacterReference}
use Rattle.inline_references.specs.Markers.{is_value_byte, marker_of, marker_size, name_by, value_max}

-- the bytes of the value
abbrev pub value_of : List ℕ → Reference → List ℕ
value_of bytes r = take (r.end - r.start) (drop r.start bytes)

-- the reference at these places in the bytes after its `&`
abbrev pub placed_reference : List ℕ → Reference → definition.CharacterReference
placed_reference bytes r = character_reference (name_by r.marker (value_of bytes r)) (drop (r.end + 1) bytes)

-- its value stands after its marker, and its `;` after the value
pub record IsPlaced (bytes : List ℕ) (r : Reference) : Type 0 where
  pub marker : r.marker ≡ marker_of bytes
  pub start : r.start ≡ marker_size r.marker
  pub nonempty : r.start < r.end
  pub bounded : r.end - r.start ≤ value_max r.marker
  pub value : IsTrue (list_all (is_value_byte r.marker) (value_of bytes r))
  pub within : r.end < length bytes
  pub first : slice_index bytes r.start < 128
  pub semicolon : slice_index bytes r.end ≡ semicolon

-- a reference with its text
abbrev pub text_reference : CharacterReference → definition.CharacterReference
text_reference r = character_reference (name_by r.marker r.value.now) r.rest.now

-- a text after an `&` is its marker, its value, a `;` and its rest
pub record IsCutFrom (text : List ℕ) (r : CharacterReference) : Type 0 where
  pub marker : r.marker ≡ marker_of text
  pub parts : drop (marker_size r.marker) text ≡ r.value.now ++ semicolon ∷ r.rest.now
