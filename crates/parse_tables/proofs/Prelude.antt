-- What several proofs of this crate import of other crates and of its own specs.
pub use Rattle.std.proofs.lemmas.Bool.{and_parts, cases_Bool, cond-false, cond-true, cond_both, eqb-true, ne_eqb, or_from, or_parts, true≢false}
pub use Rattle.std.proofs.lemmas.List.{append-nil, drop-drop, get_or-drop, length-replicate, map-append, take-append-drop}
pub use Rattle.std.proofs.lemmas.List.Elements.{filter-append}
pub use Rattle.std.proofs.lemmas.List.Sums.{prefix_len-le-length}
pub use Rattle.std.proofs.lemmas.Result.{on_ok_weaker}
pub use Rattle.std.specs.List.{AllZip, list_all, list_any, prefix_len, suffix_len}
pub use Rattle.std.specs.Prelude.{Err, if◌then◌else◌, Ok, OnOk, Result, slice_index}
pub use Rattle.block_cells.specs.GfmTable.{cell_view, cells_left}
pub use Rattle.definition_block.specs.Container.{Container}
pub use Rattle.definition_block.specs.GfmTable.{alignment, alignments_of, and_alignment, cell, Cell, cells, column_delimiter, delimiters, in_first_cell}
pub use Rattle.definition_block.specs.GfmTable.{is_bar, is_bar_or_colon, line_cells, parts, some_alignments, without_blank_first, without_blank_last}
pub use Rattle.definition_block.specs.Tree.{Table}
pub use Rattle.definition_inline.specs.Targets.{Targets}
pub use Rattle.definition_page.specs.InlinePieces.{Meaning}
pub use Rattle.definition_page.specs.Read.{context_of, read_cell, read_table, Reading}
pub use Rattle.definition_text.specs.BlockLines.{block_line, BlockLine, last_ending_or, own_lines}
pub use Rattle.definition_text.specs.Columns.{bare, block_codes, bytes_of, code_byte, is_blank, is_byte, is_tab_column, is_white, Rest, tab_column, trim}
pub use Rattle.definition_text.specs.Content.{content_text, may_escape}
pub use Rattle.definition_text.specs.InlineCode.{inline_content, with_kinds}
pub use Rattle.definition_text.specs.Lines.{ends_line}
pub use Rattle.definition_text.specs.Runs.{run}
pub use Rattle.engine_events.specs.Names.{same_name}
pub use Rattle.engine_events.specs.declared.event.Name.{Name}
pub use Rattle.event_check.specs.Align.{value_align}
pub use Rattle.event_grammar.specs.InGrammar.{kids_of, node_name}
pub use Rattle.event_grammar.specs.References.{named}
pub use Rattle.event_grammar.specs.Trees.{Around, Cons, Nil, Node, Nodes}
pub use Rattle.event_meaning.specs.Children.{children}
pub use Rattle.event_meaning.specs.GfmTable.{cell_of, table_of}
pub use Rattle.inline_content.specs.Lines.{AreContentLines}
pub use Rattle.markdown_options.specs.declared.align_kind.AlignKind.{AlignKind}
pub use Rattle.markdown_options.specs.declared.beside.Kind.{Kind}
pub use Rattle.markdown_options.specs.declared.configuration.Constructs.{Constructs}
pub use Rattle.markdown_options.specs.declared.line_ending.LineEnding.{LineEnding}
pub use Rattle.parse_alike.specs.GfmTable.{AreTablesAlike}
pub use Rattle.parse_alike.specs.Inline.{ArePartsAlike}
pub use Rattle.parse_alike.specs.Meanings.{AreMeanings}
pub use Rattle.parse_laid.specs.Leaves.{AreTaken, IsRowLine}
pub use Rattle.parse_laid.specs.Places.{AtEnding, Between, InAll, InSome, IsOn, line_left, LineRest, Place, prefixed, Prefixed, Within}
pub use Rattle.parse_leaves.proofs.RowLeaves.{piece_bytes}
pub use Rattle.parse_leaves.specs.Texts.{KnowsTargets, read_content, reading_by, WritesContent}
pub use Rattle.parse_lines.proofs.Ahead.{after_bytes, follows_after, next_after}
pub use Rattle.parse_lines.proofs.White.{all_filter, all_prefix}
pub use Rattle.parse_lines.specs.Content.{AreNext, BeginsLineAfter, end_after, EntersInLine, ExitsInLine, StandsInLine}
pub use Rattle.parse_lines.specs.Ends.{IsWrittenToRest, rest_start, WritesNextLine, WritesUpTo, written_to}
pub use Rattle.parse_lines.specs.InContent.{StandsInContent, WritesInContent}
pub use Rattle.parse_lines.specs.Open.{still_open}
pub use Rattle.parse_lines.specs.Quiet.{AreQuiet}
pub use Rattle.parse_lines.specs.Standing.{around, standing, Standing, StandsAt}
pub use Rattle.parse_lines.specs.Steps.{HasSameOpen, PassesLine}
pub use Rattle.parse_lines.specs.declared.walk.Walk.{Walk}
pub use Rattle.parse_output.proofs.Written.{writes_around, writes_both}
pub use Rattle.parse_output.specs.Ends.{end_at, enter_at, exit_at, Follows, same_end}
pub use Rattle.parse_output.specs.Forest.{append, cut, one, void_nodes}
pub use Rattle.parse_output.specs.Written.{end_in, Enters, Exits, IsInOrder, Writes}
pub use Rattle.parse_output.specs.declared.end.End.{End}
pub use Rattle.parse_raw.proofs.Nodes.{void_cases}
pub use Rattle.parse_raw.specs.Laid.{AreEnding}
pub use Rattle.parse_raw.specs.Reads.{WritesReadLeaf}
pub use Rattle.parse_strings.proofs.PlainNodes.{named_both}
pub use Rattle.text_pieces.specs.Pieces.{piece_line, piece_lines}
pub use Rattle.text_pieces.specs.declared.piece.Piece.{Piece}
pub use Rattle.parse_tables.specs.Before.{IsBefore, WritesTo}
pub use Rattle.parse_tables.specs.Cells.{SpellCells, WritesFirstBar, WritesFirstCellsHere, WritesInCell, WritesInCellHere}
pub use Rattle.parse_tables.specs.Columns.{WritesColumnHere, WritesDelimiterRow}
pub use Rattle.parse_tables.specs.Delimiters.{AreDelimiters, bar, begins_other, colon_if, column, none, white}
pub use Rattle.parse_tables.specs.LineCells.{after_first_bar, AreCellsOf}
pub use Rattle.parse_tables.specs.Rows.{AreOnNextLine, AreRowNodes, HoldSame, HoldsSame, IsRowNode, WritesFirstRows, WritesFirstRowsHere, WritesRowHere}
pub use Rattle.parse_tables.specs.Tables.{AreBody, IsHeadNode, WritesBodyHere, WritesHeadHere}
