-- The bytes of a container's marker, and those that it may begin with.
use Rattle.std.specs.Prelude.{◌≡◌, ℕ, Bool, false, ◌==◌, ◌||◌, ◌&&◌, List, [], ◌∷◌, drop}
use Rattle.definition_text.specs.Ascii.{right_parenthesis, asterisk, plus, hyphen, dot, colon, greater_than, left_bracket, caret}
use Rattle.definition_block.specs.ListItem.{is_digit}
use Rattle.markdown_options.specs.declared.configuration.Constructs.{Constructs}
use Rattle.definition_text.specs.Columns.{Rest, bare}

-- a byte of a container's marker, and no digit: `>`, `-`, `+`, `*`, `.`, `)`, `[`, `^` or `:`
abbrev pub is_mark : ℕ → Bool
is_mark code = (code == greater_than) || (code == hyphen) || (code == plus) || (code == asterisk) || (code == dot) || (code == right_parenthesis)
    || (code == left_bracket) || (code == caret) || (code == colon)

-- a rest doesn't begin with such a byte
abbrev pub NoMark : Rest → Type 0
NoMark rest = (code : ℕ) (codes : List ℕ) → rest ≡ code ∷ codes → is_mark code ≡ false

-- a byte that the marker of a quote or an item may begin with: `>`, `-`, `+`, `*` or a digit
abbrev pub begins_container : ℕ → Bool
begins_container c = (c == greater_than) || (c == hyphen) || (c == plus) || (c == asterisk) || is_digit c

-- a rest that begins with one of them
abbrev pub may_start : Rest → Bool
may_start [] = false
may_start (c ∷ cs) = begins_container c

-- a rest that begins with `[`
abbrev pub begins_with_bracket : Rest → Bool
begins_with_bracket [] = false
begins_with_bracket (c ∷ cs) = c == left_bracket

-- with `^`
abbrev pub begins_with_caret : Rest → Bool
begins_with_caret [] = false
begins_with_caret (c ∷ cs) = c == caret

-- with `[^`
abbrev pub begins_with_marker : Rest → Bool
begins_with_marker rest = begins_with_bracket rest && begins_with_caret (drop 1 rest)

-- a rest with which a footnote definition may start
abbrev pub footnote_may_start : Constructs → Rest → Bool
footnote_may_start on rest = on.gfm_footnote_definition && begins_with_marker (bare rest)

-- or any container
abbrev pub container_may_start : Constructs → Rest → Bool
container_may_start on rest = may_start (bare rest) || footnote_may_start on rest
