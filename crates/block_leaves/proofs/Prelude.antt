-- What several proofs of this crate import of other crates and of its own specs.
pub use Rattle.std.proofs.lemmas.Bool.{cond-false, cond-true}
pub use Rattle.std.proofs.lemmas.List.{append-nil, drop-drop, drop_all, length-append, length-drop, length-map, length-take, take-map, take_all}
pub use Rattle.std.proofs.lemmas.Option.{get_or_from_slice_get, slice_get_within}
pub use Rattle.std.proofs.lemmas.Result.{on_ok_weaker}
pub use Rattle.std.specs.List.{slice_get}
pub use Rattle.std.specs.Prelude.{IfSome, map}
pub use Rattle.block_rows.specs.Rows.{block_rows, row_size, row_value, rows_size, Single}
pub use Rattle.block_starts.specs.CodeFenced.{fence_view}
pub use Rattle.block_starts.specs.HtmlFlow.{number_of}
pub use Rattle.block_starts.specs.View.{container_view, rest_of}
pub use Rattle.block_state.proofs.Trees.{join-assoc, join-nil}
pub use Rattle.block_state.specs.Leaves.{leaf_state}
pub use Rattle.block_state.specs.Shows.{InFenced, InHtml, InIndented, InTable, InText, leaf_lines, Shows, state_of}
pub use Rattle.block_state.specs.Spine.{Level, spine, spine_after}
pub use Rattle.definition_block.specs.CodeFenced.{Fence, fence_line}
pub use Rattle.definition_block.specs.Container.{Container, Footnote}
pub use Rattle.definition_block.specs.Definitions.{cut_into, cut_most, definition_cut, DefinitionCut}
pub use Rattle.definition_block.specs.GfmTable.{is_head, line_cells}
pub use Rattle.definition_block.specs.Tree.{At, block_and_ending, Blocks, close_leaf, Definition, Fenced, FencedCode, Heading, Html, Indented, is_nothing}
pub use Rattle.definition_block.specs.Tree.{is_some_line, join, Leaf, leaf_text, Nil, OpenHtml, OpenLeaf, OpenTable, Paragraph, paragraph_of, rest_line, Text}
pub use Rattle.definition_block.specs.Tree.{Tree, with_paragraph}
pub use Rattle.definition_inline.specs.Definition.{definition_at}
pub use Rattle.definition_text.specs.BlockLines.{BlockLine, last_ending, own_lines, spaced_line}
pub use Rattle.definition_text.specs.Columns.{Rest}
pub use Rattle.definition_text.specs.Content.{content_of, content_text}
pub use Rattle.definition_text.specs.Indents.{outdent}
pub use Rattle.markdown_options.specs.declared.configuration.Constructs.{Constructs}
pub use Rattle.markdown_options.specs.declared.line_ending.LineEnding.{LineEnding}
pub use Rattle.text_pieces.proofs.OwnLines.{last_ending_or-more}
pub use Rattle.text_pieces.proofs.Pieces.{lines_from}
pub use Rattle.text_pieces.specs.ParagraphLines.{AreLines}
pub use Rattle.text_pieces.specs.Pieces.{piece_line, piece_lines, whole_lines}
pub use Rattle.text_pieces.specs.declared.piece.Piece.{Piece}
pub use Rattle.block_leaves.specs.View.{AreRead}
pub use Rattle.block_leaves.specs.declared.leaves.Leaves.{Leaves}
