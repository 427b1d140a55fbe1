-- What several proofs of this crate import of other crates and of its own specs.
pub use Rattle.std.proofs.lemmas.Bool.{cases_Bool, cond-false, cond-true, eqb-true, or_parts}
pub use Rattle.std.proofs.lemmas.List.{drop_all, drop_more}
pub use Rattle.std.specs.List.{list_any, prefix_len, suffix_len}
pub use Rattle.std.specs.Option.{option_map}
pub use Rattle.std.specs.Prelude.{replicate, unwrap_or}
pub use Rattle.std.specs.Str.{IsCharBoundary, IsUtf8}
pub use Rattle.definition_block.specs.GfmTable.{alignments_of, and_alignment, Cell, cell, cells, column_delimiter, delimiters, in_first_cell, is_bar}
pub use Rattle.definition_block.specs.GfmTable.{is_bar_or_colon, parts, some_alignments, without_blank_last}
pub use Rattle.definition_text.specs.Columns.{is_blank, is_white, trim}
pub use Rattle.definition_text.specs.Content.{may_escape}
pub use Rattle.markdown_options.specs.declared.beside.Kind.{Kind}
pub use Rattle.text_pieces.specs.Pieces.{piece_line}
pub use Rattle.block_cells.specs.GfmTable.{bar_at, begins_delimiters, begins_row, cell_view, cells_left, parts_if}
