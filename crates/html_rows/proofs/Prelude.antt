-- What several proofs of this crate import of other crates and of its own specs.
pub use Rattle.std.proofs.lemmas.List.{append-nil}
pub use Rattle.std.proofs.lemmas.List.Elements.{All-head}
pub use Rattle.std.proofs.lemmas.List.Sums.{fold-append, fold_push}
pub use Rattle.std.specs.List.{All, fold, list_all, prefix_len}
pub use Rattle.std.specs.Option.{IfSome}
pub use Rattle.std.specs.Prelude.{if◌then◌else◌}
pub use Rattle.block_rows.specs.Rows.{block_rows, BlockRow, Exit, first_codes, row_size, row_value, rows_of, rows_value, RowsValue, Single, spaced_leaf}
pub use Rattle.block_rows.specs.Rows.{value_with}
pub use Rattle.block_rows.specs.declared.row.Row.{Row}
pub use Rattle.definition_block.specs.Container.{Container, Footnote, Quote}
pub use Rattle.definition_block.specs.ContainerLine.{ContainerLine}
pub use Rattle.definition_block.specs.ContainerStart.{ContainerStart}
pub use Rattle.definition_block.specs.Containers.{starts}
pub use Rattle.definition_block.specs.Lists.{group_items}
pub use Rattle.definition_block.specs.Tree.{Blank, Block, Blocks, Cons, Definition, Ending, Heading, Holds, Items, Leaf, LeafBlock, Nil}
pub use Rattle.definition_page.specs.InlinePieces.{element, inline_pieces}
pub use Rattle.definition_page.specs.Read.{on_page}
pub use Rattle.definition_page.specs.Tags.{bare_tag, tag}
pub use Rattle.definition_text.specs.BlockLines.{BlockLine, own_lines}
pub use Rattle.definition_text.specs.Columns.{bare, bytes_of, indent, is_blank, is_byte, Rest}
pub use Rattle.definition_text.specs.Content.{is_eol}
pub use Rattle.definition_text.specs.Indents.{small_indent}
pub use Rattle.html_bytes.proofs.SameText.{laid_both}
pub use Rattle.html_bytes.specs.Document.{Document, document_meaning, reading_of}
pub use Rattle.html_bytes.specs.Html.{children_bytes, leaf_bytes}
pub use Rattle.html_bytes.specs.Layout.{lay, LayoutState, with_text}
pub use Rattle.html_bytes.specs.Pieces.{in_bytes}
pub use Rattle.html_leaves.specs.Prints.{layout_after, with_bytes, with_fresh, with_tag}
pub use Rattle.html_looseness.specs.Levels.{new_level}
pub use Rattle.html_looseness.specs.Printable.{AreClear, AreHeadingLines, ArePrintable, CanBePrinted, IsPrintable, IsPrintableContainer, IsPrintableRow}
pub use Rattle.html_looseness.specs.declared.level.Level.{Level}
pub use Rattle.html_looseness.specs.declared.loose.Place.{Place}
pub use Rattle.markdown_options.specs.LineEndings.{ending_bytes}
pub use Rattle.markdown_options.specs.declared.align_kind.AlignKind.{AlignKind}
pub use Rattle.markdown_options.specs.declared.beside.Kind.{Kind}
pub use Rattle.markdown_options.specs.declared.configuration.Constructs.{Constructs}
pub use Rattle.markdown_options.specs.declared.line_ending.LineEnding.{LineEnding}
pub use Rattle.text_pieces.specs.ParagraphLines.{AreLines, HaveNoEnding}
pub use Rattle.text_pieces.specs.Pieces.{piece_line, piece_lines}
pub use Rattle.text_pieces.specs.declared.piece.Piece.{Piece}
pub use Rattle.html_rows.specs.Printing.{ends_blank_rows, is_blank_row, print_all, print_row, printer_at, PrinterView}
