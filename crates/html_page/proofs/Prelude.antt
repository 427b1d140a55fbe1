-- What several proofs of this crate import of other crates and of its own specs.
pub use Rattle.std.proofs.lemmas.List.{nil_from_length, take_at, take_rest}
pub use Rattle.std.specs.List.{fold}
pub use Rattle.std.specs.Result.{IfOk}
pub use Rattle.block_rows.specs.Rows.{row_size, row_value, rows_size, rows_value}
pub use Rattle.block_rows.specs.declared.row.Row.{Row}
pub use Rattle.definition_inline.specs.Targets.{Targets}
pub use Rattle.definition_text.specs.BlockLines.{BlockLine}
pub use Rattle.html_bytes.specs.Html.{last_piece}
pub use Rattle.html_bytes.specs.Layout.{lay, LayoutState, with_footnotes}
pub use Rattle.html_contents.specs.Texts.{document_by, KnowsTargets}
pub use Rattle.html_leaves.specs.Prints.{page_view}
pub use Rattle.html_looseness.specs.Printable.{ArePrintable}
pub use Rattle.html_rows.specs.Printing.{print_all, print_row, PrinterView}
pub use Rattle.markdown_options.specs.LineEndings.{ending_bytes}
pub use Rattle.markdown_options.specs.declared.line_ending.LineEnding.{LineEnding}
pub use Rattle.text_pieces.specs.Pieces.{piece_line, piece_lines}
pub use Rattle.html_page.specs.PrinterView.{printer_view}
