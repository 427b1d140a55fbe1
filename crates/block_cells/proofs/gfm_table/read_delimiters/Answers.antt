use Rattle.std.proofs.Common.{◌≡◌, ◌++◌, [], None, sym, ap, ◌∙◌}
use Rattle.block_cells.proofs.Prelude.{alignments_of, cell_view, cells, cells_left, column_delimiter, cond-false, delimiters, is_bar_or_colon, list_any}
use Rattle.block_cells.proofs.Prelude.{option_map, piece_line, unwrap_or}
use Rattle.markdown_options.specs.declared.beside.Kind.TheVariants.{Whitespace}
use Rattle.block_cells.proofs.Columns.{trimmed_columns}
use Rattle.block_cells.proofs.Delimiters.{one_more, no_more, no_row}
use Rattle.block_cells.proofs.Starts.{no_delimiters}
use Rattle.block_cells.proofs.gfm_table.read_delimiters.Goals as goal
use Rattle.block_cells.proofs.gfm_table.read_delimiters.Goals.{then-not-may_be_delimiters-via-then-not-may_be_delimiters}
use Rattle.block_cells.proofs.gfm_table.read_delimiters.Goals.{then-not-may_be_delimiters-via-else-not-may_be_delimiters+then-not-has_bar_or_colon}

pub returns-then-not-may_be_delimiters : goal.returns-then-not-may_be_delimiters
returns-then-not-may_be_delimiters g c =
    let line = (piece_line c.args.line).codes in
    let none : delimiters line ≡ None =
    elim c.then-not-may_be_delimiters.branch [
      | then-not-may_be_delimiters-via-then-not-may_be_delimiters w ↦ no_delimiters line (sym c.may_be_delimiters.ensures ∙ w.if-not-may_be_delimiters.true)
      | then-not-may_be_delimiters-via-else-not-may_be_delimiters+then-not-has_bar_or_colon w ↦
          cond-false (list_any is_bar_or_colon line) _ _ (sym w.has_bar_or_colon.ensures ∙ w.if-not-has_bar_or_colon.true)
    ] in
    c.clear.ensures.items ∙ sym (ap (λ d. unwrap_or d []) none)

pub loop-cell-preserved : goal.loop-cell-preserved
loop-cell-preserved g c =
    let all = alignments_of (cells Whitespace (piece_line c.args.line).codes) in
    let found = c.in-Some.cell in
    let same = trimmed_columns found.line.owed found.line.text.now in
    one_more all c.loop-cell.aligns.items (cell_view found) (cells_left c.loop-cell.cells)
    (cells_left c.next.new.self) c.in-Some-delimiter.align c.loop-cell.invariant
    c.in-Some.ensures.steps (ap column_delimiter same ∙ sym (ap column_delimiter c.trim.ensures) ∙ sym c.delimiter.ensures ∙ c.in-Some-delimiter.is)
    ∙ ap (λ items. option_map (λ more. items ++ more) (alignments_of (cells_left c.next.new.self))) (sym c.in_ok-push-in-Some-delimiter.ensures.items)

pub returns-in-None : goal.returns-in-None
returns-in-None g c =
    let line = (piece_line c.args.line).codes in
    let found = c.in-Some.cell in
    let same = trimmed_columns found.line.owed found.line.text.now in
    c.clear-in-None.ensures.items
    ∙ sym (no_row line (no_more (alignments_of (cells Whitespace line)) c.loop-cell.aligns.items (cell_view found) (cells_left c.loop-cell.cells)
    (cells_left c.next.new.self) c.loop-cell.invariant
    c.in-Some.ensures.steps (ap column_delimiter same ∙ sym (ap column_delimiter c.trim.ensures) ∙ sym c.delimiter.ensures ∙ c.in-None.is)))
