-- What is known of a row, and what is laid out of it, where its variant is known.
use Rattle.std.proofs.Common.{◌≡◌, ◌≤◌, ◌∙◌, List, ap, length, subst, sym}
use Rattle.std.specs.Result.{OnOk}
use Rattle.std.specs.declared.result.Result.{Result}
use Rattle.html_rows.proofs.Prelude.{Document, IsPrintableRow, Level, Piece, piece_lines, Row, row_size, row_value}
use Rattle.html_bytes.specs.Pieces as laid
use Rattle.html_looseness.specs.Levels.{row_pieces}
use Rattle.html_leaves.specs.Prints.{LaysOut}
use Rattle.html_leaves.specs.declared.page.Page.{Page}

module _ (lines : List Piece) {row one : Row} (is : row ≡ one) where
  pub row_enough : row_size row ≤ length lines → row_size one ≤ length lines
  row_enough enough = subst (λ (row : Row). row_size row ≤ length lines) is enough

  pub row_printable : IsPrintableRow (row_value row (piece_lines lines)) → IsPrintableRow (row_value one (piece_lines lines))
  row_printable printable = subst (λ (row : Row). IsPrintableRow (row_value row (piece_lines lines))) is printable

  -- its pieces are laid out, if those of the variant are
  pub row_laid : {A B C : Type 0} (r : Result B C) (d : Document) (old new : Page A) (level : Level) {pieces : List laid.Piece}
      → pieces ≡ row_pieces d level (row_value one (piece_lines lines)) → OnOk r (LaysOut d.options.compile old new pieces)
      → OnOk r (LaysOut d.options.compile old new (row_pieces d level (row_value row (piece_lines lines))))
  row_laid r d old new level same h =
      subst (λ (pieces : List laid.Piece). OnOk r (LaysOut d.options.compile old new pieces))
      (same ∙ ap (λ (row : Row). row_pieces d level (row_value row (piece_lines lines))) (sym is)) h
