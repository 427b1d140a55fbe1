-- Texts in which references are replaced by what they stand for (CommonMark 2.5).
use Rattle.std.specs.Prelude.{ℕ, zero, suc, ◌-◌, List, [], ◌∷◌, ◌++◌, Option, None, Some, length}
use Rattle.std.specs.Option.{option_map, option_and_then}
use Rattle.definition_text.specs.Content.{Part, part}
use Rattle.definition_inline.specs.CharacterReference.{CharacterReference, Names, reference_form, reference_text}

-- the text of a reference, if it is known, and what follows the reference
abbrev pub known_text : Names → CharacterReference → Option Part
known_text names found = option_map (λ text. part text found.rest) (reference_text names found.name)

-- the same of the reference that a text begins with
abbrev pub known_at : Names → List ℕ → Option Part
known_at names text = option_and_then (known_text names) (reference_form text)

-- a byte that begins no known reference stays; the bytes of a known one are left out
abbrev pub replace_reference : ℕ → List ℕ → Option Part → (ℕ → List ℕ) → List ℕ
replace_reference b bs None others = b ∷ others 0
replace_reference b bs (Some known) others = known.text ++ others (length bs - length known.rest)

-- the text after leaving out so many bytes
abbrev pub decoded_after : Names → ℕ → List ℕ → List ℕ
decoded_after names skipped [] = []
decoded_after names (suc skipped) (b ∷ bs) = decoded_after names skipped bs
decoded_after names zero (b ∷ bs) = replace_reference b bs (known_at names (b ∷ bs)) (λ size. decoded_after names size bs)

-- a text with the text of each known reference in place of it
abbrev pub decode : Names → List ℕ → List ℕ
decode names text = decoded_after names 0 text
