-- What several proofs of this crate import of other crates and of its own specs.
pub use Rattle.std.proofs.lemmas.Bool.{or_parts, true≢false}
pub use Rattle.std.proofs.lemmas.List.{append-nil, take_all, take_rest}
pub use Rattle.std.proofs.lemmas.List.Concat.{flat_map-append}
pub use Rattle.std.proofs.lemmas.List.Sums.{fold-append}
pub use Rattle.std.proofs.lemmas.Result.{on_ok_weaker}
pub use Rattle.std.specs.List.{flat_map, fold, list_any}
pub use Rattle.std.specs.Prelude.{map}
pub use Rattle.block_rows.proofs.RowSteps.{left_more, shown_more, taken_more}
pub use Rattle.block_rows.specs.Rows.{BlockRow, row_definitions, row_size, row_value, rows_of, rows_size, rows_value, RowsValue, show_row, value_with}
pub use Rattle.block_rows.specs.declared.row.Row.{Row}
pub use Rattle.definition_block.specs.Blocks.{Blocks}
pub use Rattle.definition_block.specs.Definitions.{footnotes}
pub use Rattle.definition_inline.specs.Definition.{Definition, definition_at}
pub use Rattle.definition_text.specs.BlockLines.{BlockLine}
pub use Rattle.definition_text.specs.Content.{content_codes}
pub use Rattle.text_pieces.specs.Pieces.{piece_line, piece_lines}
pub use Rattle.block_targets.specs.GfmFootnoteDefinition.{are_bare_rows, HasLabelsSoFar, is_bare_row, labels_so_far, LabelsSoFar, note_exit, note_row}
pub use Rattle.block_targets.specs.GfmFootnoteDefinition.{note_rows, nothing_noted}
pub use Rattle.block_targets.specs.Read.{alone, HasContents, HasDefinitions, read_on}
