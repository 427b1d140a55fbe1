-- Optional white space between the parts of a link or a link reference definition (CommonMark 4.7 and 6.3).
use Rattle.std.specs.Prelude.{Bool, false, if◌then◌else◌, List, [], ◌∷◌, drop}
use Rattle.std.specs.List.{prefix_len}
use Rattle.definition_text.specs.Columns.{Code, is_white}
use Rattle.definition_text.specs.Content.{is_eol, is_space}

-- the rest after spaces and tabs (CommonMark 4.7)
abbrev pub after_spaces : List Code → List Code
after_spaces content = drop (prefix_len is_white content) content

-- the rest after a line ending, if there is one, and the spaces and tabs after it
abbrev pub after_ending : List Code → List Code
after_ending [] = []
after_ending (c ∷ cs) = if is_eol c then after_spaces cs else c ∷ cs

-- the rest after spaces and tabs with at most one line ending (CommonMark 4.7 and 6.3)
abbrev pub after_white : List Code → List Code
after_white content = after_ending (after_spaces content)

-- whether a space, a tab or a line ending comes first
abbrev pub begins_with_space : List Code → Bool
begins_with_space [] = false
begins_with_space (c ∷ cs) = is_space c
