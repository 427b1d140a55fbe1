-- The bytes of a label's text that are passed together.
use Rattle.std.specs.Prelude.{ℕ, Bool, not, ◌==◌, ◌||◌}
use Rattle.definition_text.specs.Ascii.{carriage_return, left_bracket, backslash, right_bracket}

-- a byte that is no bracket, no backslash and no CR
abbrev pub is_unmarked : ℕ → Bool
is_unmarked b = not ((b == left_bracket) || (b == backslash) || (b == right_bracket) || (b == carriage_return))
