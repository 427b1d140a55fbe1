-- The columns of a line, and what its rest begins with (CommonMark 2.2).
use Rattle.std.specs.Prelude.{ℕ, ◌+◌, ◌-◌, ◌%◌, Bool, not, if◌then◌else◌, ◌==◌, ◌||◌, List, [], ◌∷◌, ◌++◌, drop, take, length, replicate}
use Rattle.std.specs.List.{prefix_len, suffix_len, list_all, filter}
use Rattle.definition_text.specs.Ascii.{tab, space}

-- A code is a number. It means a byte, a column of a tab after its first (256), or in a content a line ending (10, 13, and 257 for CR LF).
-- Codes.antt has the three as a type. A byte is its own code, so each test of codes is a test of bytes, too.
abbrev pub Code : Type 0
Code = ℕ

-- A rest of a line is a list of codes, one for each column: its bytes, and 256 for each column of a tab after its first. Where a prefix ends inside a tab, the
-- rest begins with the columns that are left of it.
abbrev pub Rest : Type 0
Rest = List Code

-- the code of a column of a tab after its first
abbrev pub tab_column : Code
tab_column = 256

-- how many columns a tab at this column has after its first, where tab stops are 4 columns apart and the first column is 0
abbrev pub columns_after_tab : ℕ → ℕ
columns_after_tab column = 3 - column % 4

-- the codes of bytes from a column on
abbrev pub codes_from : ℕ → List ℕ → Rest
codes_from column [] = []
codes_from column (b ∷ bs) =
    if b == tab then tab ∷ (replicate (columns_after_tab column) tab_column ++ codes_from (column + 1 + columns_after_tab column) bs)
    else b ∷ codes_from (column + 1) bs

-- a line before anything of it is read
abbrev pub whole : List ℕ → Rest
whole content = codes_from 0 content

-- a space, a tab, or a column of a tab
abbrev pub is_white : Code → Bool
is_white code = (code == space) || (code == tab) || (code == tab_column)

-- only spaces and tabs
abbrev pub is_blank : Rest → Bool
is_blank rest = list_all is_white rest

-- the columns of spaces and tabs at the front
abbrev pub indent : Rest → ℕ
indent rest = prefix_len is_white rest

-- the rest after its spaces and tabs
abbrev pub bare : Rest → Rest
bare rest = drop (indent rest) rest

abbrev pub is_tab_column : Code → Bool
is_tab_column code = code == tab_column

-- a code that is a byte; no code of a rest is a line ending
abbrev pub is_byte : Code → Bool
is_byte code = not (is_tab_column code)

-- the bytes of a rest
abbrev pub bytes_of : Rest → List ℕ
bytes_of rest = filter is_byte rest

-- a remaining column of a tab as a byte: a space
abbrev pub code_byte : Code → ℕ
code_byte code = if is_tab_column code then space else code

-- a rest as it is in a block: the remaining columns of a tab in which a prefix ended, and the bytes
abbrev pub block_codes : Rest → List Code
block_codes rest = take (prefix_len is_tab_column rest) rest ++ bytes_of rest

-- bytes or codes without the spaces and tabs at both ends
abbrev pub trim : List ℕ → List ℕ
trim text =
    let rest = drop (prefix_len is_white text) text in
    take (length rest - suffix_len is_white rest) rest
