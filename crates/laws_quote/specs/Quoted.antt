-- A text with two bytes before every line, as `> `.
use Rattle.std.specs.Prelude.{ℕ, Bool, false, not, if◌then◌else◌, ◌==◌, ◌&&◌, ◌||◌, List, [], ◌∷◌}
use Rattle.definition_text.specs.Ascii.{line_feed, carriage_return, space, greater_than}

-- whether an LF comes next
abbrev pub begins_with_feed : List ℕ → Bool
begins_with_feed [] = false
begins_with_feed (b ∷ bs) = b == line_feed

-- whether a byte before these is the last of an ending: an LF, or a CR without LF after it
abbrev pub is_last_of_ending : ℕ → List ℕ → Bool
is_last_of_ending b bs = (b == line_feed) || ((b == carriage_return) && not (begins_with_feed bs))

-- two bytes before these, if there are any
abbrev pub pair_before : ℕ → ℕ → List ℕ → List ℕ
pair_before x y [] = []
pair_before x y (b ∷ bs) = x ∷ y ∷ b ∷ bs

-- two bytes after each ending that more bytes follow
abbrev pub pair_after_endings : ℕ → ℕ → List ℕ → List ℕ
pair_after_endings x y [] = []
pair_after_endings x y (b ∷ bs) =
    b ∷ (if is_last_of_ending b bs then pair_before x y (pair_after_endings x y bs) else pair_after_endings x y bs)

-- `> ` before these bytes, if there are any
abbrev pub with_mark : List ℕ → List ℕ
with_mark bs = pair_before greater_than space bs

-- `> ` after each ending that more bytes follow
abbrev pub marked_after_endings : List ℕ → List ℕ
marked_after_endings bs = pair_after_endings greater_than space bs

-- `> ` before every line
abbrev pub quote_lines : List ℕ → List ℕ
quote_lines text = with_mark (marked_after_endings text)
