-- Line endings in a text, and hard line breaks before them (CommonMark 6.7 and 6.8).
use Rattle.std.specs.Prelude.{◌+◌, Bool, true, false, if◌then◌else◌, ◌==◌, ◌&&◌, nat_le, List, [], ◌∷◌, Option, None, Some}
use Rattle.std.specs.List.{list_all, take_while}
use Rattle.markdown_options.specs.declared.configuration.Constructs.{Constructs}
use Rattle.definition_text.specs.Ascii.{space, backslash}
use Rattle.definition_text.specs.Columns.{Code, is_white, indent, bare}
use Rattle.definition_text.specs.Content.{is_eol}
use Rattle.definition_inline.specs.Inline.{Found, leaf, EscapedBreak, TrailingBreak, LineEnd}

-- a line ending that isn't the last code comes first (CommonMark 6.7)
abbrev pub ends_inner_line : List Code → Bool
ends_inner_line [] = false
ends_inner_line (c ∷ []) = false
ends_inner_line (c ∷ next ∷ cs) = is_eol c

-- nothing is left of the line, nor of the content
abbrev pub ends_here : List Code → Bool
ends_here [] = true
ends_here (c ∷ cs) = is_eol c

-- a line ending, with the spaces and tabs at the start of the next line, which aren't printed (CommonMark 6.8)
abbrev pub line_end_at : List Code → Option Found
line_end_at [] = None
line_end_at (c ∷ cs) = if is_eol c then Some (leaf (LineEnd c ∷ []) (1 + indent cs)) else None

-- a backslash before a line ending that isn't the last code (CommonMark 6.7)
abbrev pub escaped_break_at : Constructs → List Code → Option Found
escaped_break_at on [] = None
escaped_break_at on (c ∷ cs) =
    if on.hard_break_escape && ((c == backslash) && ends_inner_line cs) then Some (leaf (EscapedBreak ∷ []) 1) else None

-- two spaces or more and no tab, before a line ending that isn't the last code (CommonMark 6.7)
abbrev pub is_trailing_break : List Code → Bool
is_trailing_break content =
    nat_le 2 (indent content) && (list_all (λ c. c == space) (take_while is_white content) && ends_inner_line (bare content))

-- spaces and tabs at the end of a line or of the content aren't printed, but they may be a hard line break (CommonMark 6.7 and 6.8)
abbrev pub line_spaces_at : Constructs → List Code → Option Found
line_spaces_at on content =
    if nat_le 1 (indent content) && ends_here (bare content)
    then Some (leaf (if on.hard_break_trailing && is_trailing_break content then TrailingBreak ∷ [] else []) (indent content))
    else None
