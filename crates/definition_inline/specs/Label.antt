-- Link labels (CommonMark 6.3).
use Rattle.std.specs.Prelude.{ℕ, ◌+◌, Bool, false, if◌then◌else◌, not, ◌==◌, ◌&&◌, ◌||◌, nat_le, List, [], ◌∷◌, Option, None, Some}
use Rattle.std.specs.List.{list_any}
use Rattle.definition_text.specs.Ascii.{left_bracket, right_bracket}
use Rattle.definition_text.specs.Columns.{Code}
use Rattle.definition_text.specs.Content.{Part, is_space, at_line_start, may_escape, closed_by}

-- a bracket that no backslash escapes (CommonMark 6.3)
abbrev pub ends_label : Bool → Code → Bool
ends_label escaped code = ((code == left_bracket) || (code == right_bracket)) && not escaped

-- the rest from the bracket on that closes a label, after its text, in which a backslash escapes a bracket or a backslash (CommonMark 6.3)
abbrev pub label_end : Bool → List Code → Option (List Code)
label_end escaped [] = None
label_end escaped (c ∷ cs) =
    if ends_label escaped c then (if c == right_bracket then Some (c ∷ cs) else None)
    else label_end (may_escape escaped c) cs

-- something other than spaces, tabs and line endings (CommonMark 6.3)
abbrev pub has_text : List Code → Bool
has_text text = list_any (λ c. not (is_space c)) text

-- how many bytes a label's text has, but for line endings and the spaces and tabs directly after one; whether such a space or tab may come first is given
abbrev pub label_size : Bool → List Code → ℕ
label_size start [] = 0
label_size start (c ∷ cs) = (if at_line_start start c then 0 else 1) + label_size (at_line_start start c) cs

-- the text of a label: not only white space, and at most 999 bytes (CommonMark 6.3)
abbrev pub is_label : List Code → Bool
is_label text = has_text text && nat_le (label_size false text) 999

-- a text between brackets that may be a label's
abbrev pub if_label : Option Part → Option Part
if_label None = None
if_label (Some label) = if is_label label.text then Some label else None

-- a label, with its text between the brackets (CommonMark 6.3)
abbrev pub label_at : List Code → Option Part
label_at [] = None
label_at (c ∷ cs) = if c == left_bracket then if_label (closed_by cs (label_end false cs)) else None
