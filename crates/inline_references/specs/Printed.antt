-- What is printed of a text with references in it.
use Rattle.std.specs.Prelude.{◌≡◌, ◌++◌, ℕ, List}
use Rattle.definition_inline.specs.CharacterReference.{Names}
use Rattle.definition_inline.specs.Decoded.{decode}

-- after the front of a text is printed, with what its rest stands for it is what it was with what all of the text stands for
abbrev pub IsDecoded : Names → List ℕ → List ℕ → List ℕ → List ℕ → Type 0
IsDecoded names old text new rest = new ++ decode names rest ≡ old ++ decode names text
