-- Laws of decoded texts and of rows of names.
use Rattle.std.specs.Prelude.{◌≡◌, ℕ, not, ◌==◌, List, Some, IsTrue}
use Rattle.std.specs.List.{list_all}
use Rattle.definition_text.specs.Ascii.{ampersand}
use Rattle.definition_inline.specs.CharacterReference.{Names}
use Rattle.definition_inline.specs.Decoded.{decode}
use Rattle.definition_inline.specs.ReferenceRows.{rows, text_in}
use Rattle.definition_inline.specs.BuiltinReferences.{builtin_names}
use Rattle.inline_references.specs.LawfulRows.{IsLawful}

-- a text without `&` stays as it is, whatever names are known
abbrev pub PlainLaw : Type 0
PlainLaw = (names : Names) (text : List ℕ) → IsTrue (list_all (λ b. not (b == ampersand)) text) → decode names text ≡ text

-- a name that the rows of a text have, and its text, are lawful
abbrev pub RowsLaw : Type 0
RowsLaw = (bytes name text : List ℕ) → text_in (rows bytes) name ≡ Some text → IsLawful name text

-- so are the built-in ones
abbrev pub BuiltinLaw : Type 0
BuiltinLaw = (name text : List ℕ) → builtin_names name ≡ Some text → IsLawful name text
