-- The bytes of a destination without `<` that are passed together.
use Rattle.std.specs.Prelude.{ℕ, Bool, not, ◌==◌, ◌||◌}
use Rattle.definition_text.specs.Ascii.{left_parenthesis, right_parenthesis, backslash}
use Rattle.definition_text.specs.Content.{is_space}
use Rattle.definition_inline.specs.Destination.{is_control}

-- a byte that neither ends such a destination, nor opens or closes parentheses, nor escapes what comes next
abbrev pub is_plain : ℕ → Bool
is_plain b = not (is_space b || is_control b || (b == left_parenthesis) || (b == right_parenthesis) || (b == backslash))
