-- What is wrong with a text of rows.
use Rattle.std.specs.Prelude.{ℕ, ◌+◌, Bool, if◌then◌else◌, List, [], ◌∷◌, ◌++◌, Option, None, Some, option_to_list, is_some}
use Rattle.std.specs.Option.{option_or}
use Rattle.definition_text.specs.Columns.{is_blank, whole}
use Rattle.definition_text.specs.Lines.{TextLine, lines}
use Rattle.definition_inline.specs.ReferenceRows.{Row, row_of, text_in}
use Rattle.markdown_tables.specs.declared.rows_error.RowsError.{RowsError}
use Rattle.markdown_tables.specs.declared.rows_error.RowsError.TheVariants.{Syntax, Repeated}

-- what is no row must be blank, and no name stands in an earlier row
abbrev pub row_fault : ℕ → List Row → Bool → Option Row → Option RowsError
row_fault number earlier blank None = if blank then None else Some (Syntax number)
row_fault number earlier blank (Some row) = if is_some (text_in earlier row.name) then Some (Repeated number) else None

-- what is wrong with the line with this number, after the rows before it
abbrev pub line_fault : ℕ → List Row → List ℕ → Option RowsError
line_fault number earlier line = row_fault number earlier (is_blank (whole line)) (row_of line)

-- the first fault of lines from this number on
abbrev pub first_fault : ℕ → List Row → List TextLine → Option RowsError
first_fault number earlier [] = None
first_fault number earlier (line ∷ others) =
    option_or (line_fault number earlier line.content)
    (first_fault (number + 1) (earlier ++ option_to_list (row_of line.content)) others)

-- the first fault of a text, whose lines are counted from 1
abbrev pub text_fault : List ℕ → Option RowsError
text_fault text = first_fault 1 [] (lines text)
