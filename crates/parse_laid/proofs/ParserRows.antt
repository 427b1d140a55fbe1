-- The rows of the block parser are laid in the lines of the text.
use Rattle.std.proofs.Common.{◌≡◌, List, [], ◌∷◌, ◌++◌, drop, sym, ap, ◌∙◌, subst, append_assoc}
use Rattle.parse_laid.proofs.Prelude.{append-nil, AreLaid, Between, BlockLine, BlockRow, blocks, Constructs, Container, fold, Place, rows_of}
use Rattle.block_rows.specs.declared.row.Row.{Row}
use Rattle.block_rows.specs.Rows.{RowsValue, row_size, row_value, value_with, show_row}
use Rattle.parse_laid.specs.Laid.{unread_lines}
use Rattle.parse_laid.specs.ParserRows.{AreRowsLaid, ParserRowsAreLaid}
use Rattle.parse_laid.proofs.Laid.{rows_are_laid}

-- what rows stand for
abbrev row_values : List Row → List BlockLine → List BlockRow
row_values [] ls = []
row_values (row ∷ rows) ls = row_value row ls ∷ row_values rows (drop (row_size row) ls)

shown : (rows : List Row) (before : List BlockRow) (ls : List BlockLine) → (fold show_row (value_with before ls) rows).rows ≡ before ++ row_values rows ls
shown [] before ls = sym (append-nil before)
shown (row ∷ rows) before ls =
    shown rows (before ++ row_value row ls ∷ []) (drop (row_size row) ls)
    ∙ append_assoc before (row_value row ls ∷ []) (row_values rows (drop (row_size row) ls))

values_laid : (on : Constructs) (rows : List Row) (around : List Container) (from : Place) (ls : List BlockLine)
    → AreLaid on around from (row_values rows ls) → AreRowsLaid on around from rows ls
values_laid on [] around from ls p = p
values_laid on (row ∷ rows) around from ls p = (p.0, p.1, p.2, values_laid on rows p.0 p.1 (drop (row_size row) ls) p.3)

pub parser_rows_are_laid : ParserRowsAreLaid
parser_rows_are_laid = record {
  laid = λ on before text rows ls left bytes same.
      let from = Between (unread_lines on before text) in
      let those : rows_of (blocks on before text) ≡ row_values rows ls = sym (ap (λ (v : RowsValue). v.rows) same) ∙ shown rows [] ls in
      values_laid on rows [] from ls (subst (AreLaid on [] from) those (rows_are_laid on before text bytes));
}
