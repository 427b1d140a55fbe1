-- Kinds of characters (CommonMark 2.1 and 6.2).
use Rattle.std.specs.Prelude.{◌≡◌, ℕ, Bool, List, [], ◌++◌, Option, None, Some, MatchOption, encode_utf8}
use Rattle.markdown_options.specs.declared.beside.Kind.{Kind}
use Rattle.markdown_options.specs.declared.beside.Kind.TheVariants.{Whitespace}
use Rattle.definition_text.specs.InlineCode.{character_kind}

-- the last character of a text, if there is one
abbrev pub IsLast : List ℕ → Option ℕ → Type 0
IsLast text last = MatchOption last (text ≡ []) (λ c. (front : List ℕ) × (text ≡ front ++ encode_utf8 c))

-- the kind of a character, if there is one; none counts as white space
abbrev pub kind_of_any : (ℕ → Bool) → Option ℕ → Kind
kind_of_any is_punctuation None = Whitespace
kind_of_any is_punctuation (Some c) = character_kind is_punctuation c
