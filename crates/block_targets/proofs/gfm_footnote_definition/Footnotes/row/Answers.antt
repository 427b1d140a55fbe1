use Rattle.std.proofs.Common.{◌≡◌, ◌≤◌, List, [], ◌∷◌, Some, true, sym, ap, ◌∙◌, subst, length, arith}
use Rattle.std.specs.Prelude.{slice_index_or}
use Rattle.block_targets.proofs.Prelude.{content_codes, HasLabelsSoFar, is_bare_row, labels_so_far, note_row, on_ok_weaker, piece_lines, Row, row_size}
use Rattle.block_targets.proofs.Prelude.{row_value}
use Rattle.text_pieces.specs.declared.piece.Piece.{Piece}
use Rattle.block_rows.specs.declared.row.Row.TheVariants as row
use Rattle.block_rows.specs.Rows.{EnterFootnote, first_codes}
use Rattle.block_targets.proofs.Notes.{bare_codes}
use Rattle.block_targets.proofs.gfm_footnote_definition.Footnotes.row.Goals as goal

-- the label on the first of these lines
label_read : (lines : List Piece) (other : Piece) → row_size row.EnterFootnote ≤ length lines
    → is_bare_row (EnterFootnote (first_codes (piece_lines lines))) ≡ true
    → content_codes (slice_index_or lines 0 other).text.now ≡ first_codes (piece_lines lines)
label_read [] other enough bare = absurd (omega (arith, enough))
label_read (piece ∷ others) other enough bare = bare_codes piece.owed piece.text.now bare

pub returns-in-EnterFootnote : goal.returns-in-EnterFootnote
returns-in-EnterFootnote g c = record {
  read = λ n h bare.
      let lines = c.args.lines.now in
      let is : row_value c.args.row (piece_lines lines) ≡ EnterFootnote (first_codes (piece_lines lines)) =
      ap (λ (r : Row). row_value r (piece_lines lines)) c.in-EnterFootnote.is in
      let same = label_read lines _ (subst (λ (r : Row). row_size r ≤ length lines) c.in-EnterFootnote.is c.requires.enough) (ap is_bare_row (sym is) ∙ bare) in
      on_ok_weaker c.enter-in-EnterFootnote.result
      (subst (HasLabelsSoFar c.enter-in-EnterFootnote.new.self)
      (ap (λ label. labels_so_far n.ended (Some label ∷ n.containers)) same ∙ ap (note_row n) (sym is)))
      (c.enter-in-EnterFootnote.ensures.read n h);
}
