-- What several proofs of this crate import of other crates and of its own specs.
pub use Rattle.std.specs.Prelude.{codes}
pub use Rattle.std.specs.Result.{OnOk}
pub use Rattle.block_cells.specs.GfmTable.{cell_view, cells_left}
pub use Rattle.definition_block.specs.GfmTable.{line_cells}
pub use Rattle.definition_block.specs.Tree.{Paragraph}
pub use Rattle.definition_inline.specs.Targets.{Targets}
pub use Rattle.definition_text.specs.BlockLines.{BlockLine, last_ending, own_lines}
pub use Rattle.definition_text.specs.Lines.{ending_text}
pub use Rattle.html_bytes.specs.Document.{text_of}
pub use Rattle.html_bytes.specs.Html.{leaf_bytes}
pub use Rattle.html_contents.specs.Texts.{document_by, KnowsTargets}
pub use Rattle.html_footnotes.specs.Output.{output_view}
pub use Rattle.html_leaves.specs.GfmTable.{cell_name}
pub use Rattle.html_leaves.specs.Prints.{layout_after, page_view, with_bytes, with_tag}
pub use Rattle.html_looseness.specs.Levels.{standing_first}
pub use Rattle.html_looseness.specs.Printable.{AreClear}
pub use Rattle.html_rows.proofs.CodeFencedLemmas.{closed_laid}
pub use Rattle.html_rows.proofs.ParagraphLaid.{heading_laid, loose_laid}
pub use Rattle.html_rows.specs.GfmTable.{cells_bytes, CellsAreClear, counts_bytes, next_cell_bytes, row_bytes, rows_bytes}
pub use Rattle.markdown_options.specs.LineEndings.{ending_bytes}
pub use Rattle.markdown_options.specs.declared.align_kind.AlignKind.{AlignKind}
pub use Rattle.markdown_options.specs.declared.line_ending.LineEnding.{LineEnding}
pub use Rattle.text_pieces.proofs.Pieces.{no_piece}
pub use Rattle.text_pieces.specs.Pieces.{piece_line, piece_lines, whole_lines}
