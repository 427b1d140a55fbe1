-- Where pieces begin and end in a text, by the codes that they take (CommonMark 2.2).
use Rattle.std.specs.Prelude.{ℕ, ◌+◌, ◌-◌, if◌then◌else◌, ◌==◌, List, [], ◌∷◌}
use Rattle.definition_text.specs.Columns.{Code, is_tab_column}
use Rattle.definition_text.specs.Content.{return_and_feed}
use Rattle.event_definition.specs.Pieces.{Piece, Token, Around, Pieces, Nil, Cons}
use Rattle.parse_output.specs.declared.end.End.{End}
use Rattle.parse_output.specs.Ends.{end_at}

-- ---- codes

-- how many bytes a code takes: a column of a tab after its first takes none, CR LF takes two
abbrev pub code_size : Code → ℕ
code_size c = if is_tab_column c then 0 else (if c == return_and_feed then 2 else 1)

abbrev pub codes_size : List Code → ℕ
codes_size [] = 0
codes_size (c ∷ cs) = code_size c + codes_size cs

-- how many columns of a tab come first, where so many follow the codes
abbrev pub columns_of : List Code → ℕ → ℕ
columns_of [] after = after
columns_of (c ∷ cs) after = if is_tab_column c then 1 + columns_of cs after else 0

-- ---- pieces

abbrev mutual
  pub piece_columns : Piece → ℕ → ℕ
  piece_columns (Token name cs) after = columns_of cs after
  piece_columns (Around name kids) after = columns kids after

  -- how many columns of a tab the pieces begin with, where so many follow them
  pub columns : Pieces → ℕ → ℕ
  columns Nil after = after
  columns (Cons p ps) after = piece_columns p (columns ps after)

abbrev mutual
  pub piece_size : Piece → ℕ
  piece_size (Token name cs) = codes_size cs
  piece_size (Around name kids) = pieces_size kids

  -- how many bytes pieces take
  pub pieces_size : Pieces → ℕ
  pieces_size Nil = 0
  pieces_size (Cons p ps) = piece_size p + pieces_size ps

-- ---- ends

-- The end after so many bytes, where so many columns of a tab come next: that tab is begun, so its byte is among them.
abbrev pub end_of : ℕ → ℕ → End
end_of begun owed = if owed == 0 then end_at begun 0 else end_at (begun - 1) owed
