-- How the built-in rows are kept: in groups by the first letter of the name, a name, `=`, its text, and a space between rows.
use Rattle.std.specs.Prelude.{ℕ, ◌+◌, ◌-◌, Bool, if◌then◌else◌, ◌==◌, ◌&&◌, nat_lt, List, [], ◌∷◌, Option, None, Some, length, is_some}
use Rattle.std.specs.Char.{is_ascii_uppercase, is_ascii_lowercase}
use Rattle.std.specs.List.{find, slice_split, position_or_len, before_first, after_first}
use Rattle.std.specs.Option.{option_and_then}
use Rattle.std.specs.Str.{bytes_eq}
use Rattle.definition_text.specs.Ascii.{space, equals}

-- the place of a letter: `A` to `Z`, then `a` to `z`
abbrev pub letter_place : ℕ → Option ℕ
letter_place letter =
    if is_ascii_uppercase letter then Some (letter - 65)
    else (if is_ascii_lowercase letter then Some (letter - 97 + 26) else None)

-- the place of the group that a name is in
abbrev pub group_of : List ℕ → Option ℕ
group_of [] = None
group_of (b ∷ bs) = letter_place b

abbrev pub is_equals : ℕ → Bool
is_equals b = b == equals

-- the text of a row, if it is this name's
abbrev pub text_in_row : List ℕ → List ℕ → Option (List ℕ)
text_in_row row name =
    if nat_lt (position_or_len is_equals row) (length row) && bytes_eq (before_first is_equals row) name
    then Some (after_first is_equals row) else None

abbrev pub rows_in_group : List ℕ → List (List ℕ)
rows_in_group rows = slice_split (λ b. b == space) rows

-- the text of a name in a group
abbrev pub text_in_group : List ℕ → List ℕ → Option (List ℕ)
text_in_group rows name =
    option_and_then (λ row. text_in_row row name) (find (λ row. is_some (text_in_row row name)) (rows_in_group rows))
