-- Link titles (CommonMark 6.3).
use Rattle.std.specs.Prelude.{Bool, false, if◌then◌else◌, not, ◌==◌, ◌&&◌, ◌||◌, List, [], ◌∷◌, Option, None, Some}
use Rattle.definition_text.specs.Ascii.{double_quote, single_quote, left_parenthesis, right_parenthesis}
use Rattle.definition_text.specs.Columns.{Code}
use Rattle.definition_text.specs.Content.{Part, is_eol, at_line_start, may_escape, closed_by}

-- what closes a title, or a `(` between parentheses, where no backslash escapes it (CommonMark 6.3)
abbrev pub ends_title : Code → Bool → Code → Bool
ends_title close escaped code = ((code == close) || ((close == right_parenthesis) && (code == left_parenthesis))) && not escaped

-- a line ending that ends a blank line (CommonMark 4.9)
abbrev pub ends_blank_line : Bool → Code → Bool
ends_blank_line start code = start && is_eol code

-- the rest from the code on that closes a title, after its text without a blank line; whether only spaces and tabs stand since the last line ending is given
-- (CommonMark 6.3)
abbrev pub title_end : Code → Bool → Bool → List Code → Option (List Code)
title_end close escaped start [] = None
title_end close escaped start (c ∷ cs) =
    if ends_title close escaped c then (if c == close then Some (c ∷ cs) else None)
    else (if ends_blank_line start c then None
    else title_end close (may_escape escaped c) (at_line_start start c) cs)

-- what closes a title that this code opens: `"`, `'` or `)` (CommonMark 6.3)
abbrev pub title_close : Code → Option Code
title_close code =
    if (code == double_quote) || (code == single_quote) then Some code
    else (if code == left_parenthesis then Some right_parenthesis else None)

-- a title up to the code that closes it, if it is opened
abbrev pub title_until : Option Code → List Code → Option Part
title_until None content = None
title_until (Some close) content = closed_by content (title_end close false false content)

-- a title, with its text (CommonMark 6.3)
abbrev pub title_at : List Code → Option Part
title_at [] = None
title_at (c ∷ cs) = title_until (title_close c) cs
