-- Backslash escapes (CommonMark 2.4): a backslash before ASCII punctuation.
use Rattle.std.specs.Prelude.{if◌then◌else◌, ◌==◌, ◌&&◌, List, [], ◌∷◌, Option, None, Some}
use Rattle.std.specs.Char.{is_ascii_punctuation}
use Rattle.markdown_options.specs.declared.configuration.Constructs.{Constructs}
use Rattle.definition_text.specs.Ascii.{backslash}
use Rattle.definition_text.specs.Columns.{Code}
use Rattle.definition_inline.specs.Inline.{Found, leaf, Escape}

-- a backslash and the ASCII punctuation after it (CommonMark 2.4)
abbrev pub escape_at : Constructs → List Code → Option Found
escape_at on [] = None
escape_at on (c ∷ []) = None
escape_at on (c ∷ next ∷ cs) =
    if on.character_escape && ((c == backslash) && is_ascii_punctuation next) then Some (leaf (Escape next ∷ []) 2) else None
