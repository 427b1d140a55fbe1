-- Indents (CommonMark 2.2 and 4.4).
use Rattle.std.specs.Prelude.{ℕ, Bool, not, ◌||◌, leb, min, drop}
use Rattle.markdown_options.specs.declared.configuration.Constructs.{Constructs}
use Rattle.definition_text.specs.Columns.{Rest, indent}

-- a small indent: at most 3 columns, or any number where no code is read by its indent (CommonMark 4.4)
abbrev pub small_indent : Constructs → Rest → Bool
small_indent on rest = leb (indent rest) 3 || not on.code_indented

-- the rest without at most this many columns of spaces and tabs at the front (CommonMark 2.2)
abbrev pub outdent : ℕ → Rest → Rest
outdent most rest = drop (min most (indent rest)) rest
