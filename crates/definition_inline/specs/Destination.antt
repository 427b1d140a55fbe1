-- Link destinations (CommonMark 6.3).
use Rattle.std.specs.Prelude.{ℕ, ◌+◌, ◌-◌, Bool, false, if◌then◌else◌, not, ◌==◌, ◌&&◌, ◌||◌, nat_le, nat_lt, List, [], ◌∷◌, Option, None, Some}
use Rattle.definition_text.specs.Ascii.{left_parenthesis, right_parenthesis, less_than, greater_than, delete}
use Rattle.definition_text.specs.Columns.{Code}
use Rattle.definition_text.specs.Content.{Part, is_eol, is_space, may_escape, closed_by, up_to}

-- a line ending, or a `<` or `>` that no backslash escapes (CommonMark 6.3)
abbrev pub ends_angle : Bool → Code → Bool
ends_angle escaped code = is_eol code || (((code == less_than) || (code == greater_than)) && not escaped)

-- the rest from the `>` on that closes a destination, after its text without line endings and unescaped `<` (CommonMark 6.3)
abbrev pub angle_end : Bool → List Code → Option (List Code)
angle_end escaped [] = None
angle_end escaped (c ∷ cs) =
    if ends_angle escaped c then (if c == greater_than then Some (c ∷ cs) else None)
    else angle_end (may_escape escaped c) cs

-- an ASCII control character other than NUL, which stands for U+FFFD (CommonMark 2.1 and 2.3)
abbrev pub is_control : Code → Bool
is_control code = (nat_le 1 code && nat_le code 31) || (code == delete)

-- how many parentheses are open after this code (CommonMark 6.3)
abbrev pub open_after : Bool → ℕ → Code → ℕ
open_after escaped opened code =
    if escaped then opened
    else (if code == left_parenthesis then opened + 1
    else (if code == right_parenthesis then opened - 1
    else opened))

-- more parentheses are open than may be, where there is a limit (CommonMark 6.3)
abbrev pub is_too_deep : Option ℕ → ℕ → Bool
is_too_deep None opened = false
is_too_deep (Some depth) opened = nat_lt depth opened

-- a destination without `<` ends before a space, a control character or a `)` that closes nothing (CommonMark 6.3)
abbrev pub ends_bare : Bool → ℕ → Code → Bool
ends_bare escaped opened code = is_space code || is_control code || ((code == right_parenthesis) && (opened == 0) && not escaped)

-- the rest after a destination without `<`, in which every open parenthesis is closed (CommonMark 6.3)
abbrev pub bare_end : Option ℕ → Bool → ℕ → List Code → Option (List Code)
bare_end depth escaped opened [] = if opened == 0 then Some [] else None
bare_end depth escaped opened (c ∷ cs) =
    if ends_bare escaped opened c then (if opened == 0 then Some (c ∷ cs) else None)
    else (if is_too_deep depth (open_after escaped opened c) then None
    else bare_end depth (may_escape escaped c) (open_after escaped opened c) cs)

-- what was read, unless this text of it is empty
abbrev pub unless_empty : List Code → Part → Option Part
unless_empty [] read = None
unless_empty (c ∷ cs) read = Some read

-- what was read, unless its text is empty (CommonMark 6.3)
abbrev pub if_any : Option Part → Option Part
if_any None = None
if_any (Some read) = unless_empty read.text read

-- a destination, with its text; the greatest depth of its parentheses is given, if there is one (CommonMark 6.3)
abbrev pub destination_at : Option ℕ → List Code → Option Part
destination_at depth [] = None
destination_at depth (c ∷ cs) =
    if c == less_than then closed_by cs (angle_end false cs)
    else if_any (up_to (c ∷ cs) (bare_end depth false 0 (c ∷ cs)))
