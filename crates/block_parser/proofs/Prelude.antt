-- What several proofs of this crate import of other crates and of its own specs.
pub use Rattle.std.proofs.lemmas.Bool.{and_parts, cond-true, eq-eqb, eqb-false, eqb-true, ne_eqb}
pub use Rattle.std.proofs.lemmas.List.{append-nil, get_or-map, length-append, length-map, map-append, nil_from_length}
pub use Rattle.std.proofs.lemmas.Result.{IfOk-weaker, on_ok_weaker}
pub use Rattle.std.specs.List.{flat_map, list_any}
pub use Rattle.std.specs.Option.{option_or}
pub use Rattle.std.specs.Prelude.{map, unwrap_or}
pub use Rattle.std.specs.Str.{IsUtf8}
pub use Rattle.block_leaves.proofs.Going.{closed_nothing, no_text}
pub use Rattle.block_leaves.specs.GfmTable.{fits, table_from_cut, table_if, table_tree}
pub use Rattle.block_leaves.specs.HeadingSetext.{heading_blocks, heading_tree, IsText}
pub use Rattle.block_leaves.specs.View.{AreFenced, AreRead}
pub use Rattle.block_rows.proofs.OpenLines.{open_lines}
pub use Rattle.block_rows.proofs.TextLines.{front_bytes, later_bytes, text_back, text_of}
pub use Rattle.block_rows.specs.Rows.{rows_of}
pub use Rattle.block_rows.specs.declared.row.Row.{Row}
pub use Rattle.block_starts.specs.CodeFenced.{fence_view}
pub use Rattle.block_starts.specs.HtmlFlow.{number_of}
pub use Rattle.block_starts.specs.Plain.{is_plain}
pub use Rattle.block_starts.specs.View.{container_view, container_views, rest_of, started_if}
pub use Rattle.block_state.proofs.Trees.{choose_if, join-nil}
pub use Rattle.block_state.specs.Leaves.{leaf_state}
pub use Rattle.block_state.specs.Shows.{InFenced, InText, leaf_lines, state_of}
pub use Rattle.block_state.specs.Spine.{containers_of, level, Level, spine, Spine, spine_after, spine_at, spine_of, without_innermost_at}
pub use Rattle.block_state.specs.Waits.{is_one_blank_row}
pub use Rattle.definition_block.specs.CodeFenced.{Fence}
pub use Rattle.definition_block.specs.CodeIndented.{starts_code_indented}
pub use Rattle.definition_block.specs.Container.{Container, Quote}
pub use Rattle.definition_block.specs.ContainerLine.{container_line, ContainerLine}
pub use Rattle.definition_block.specs.ContainerStart.{container_start}
pub use Rattle.definition_block.specs.Containers.{continues, starts}
pub use Rattle.definition_block.specs.Definitions.{definition_cut}
pub use Rattle.definition_block.specs.GfmTable.{delimiter_row}
pub use Rattle.definition_block.specs.HtmlFlow.{html_start}
pub use Rattle.definition_block.specs.MathFlow.{math_start}
pub use Rattle.definition_block.specs.ThematicBreak.{is_break}
pub use Rattle.definition_block.specs.Tree.{after, At, began_blank, beside_in, beside_line, Blank, block_and_ending, Blocks, Break, close, close_leaf}
pub use Rattle.definition_block.specs.Tree.{empty_tree, Fenced, grow, has_text, Heading, html_with, Indented, Inside, is_nothing, is_one_blank, is_some_line}
pub use Rattle.definition_block.specs.Tree.{join, Leaf, leaf_line, leaf_text, new, Nil, nothing, one, open_text, OpenHtml, Opening, OpenLeaf, OpenTable}
pub use Rattle.definition_block.specs.Tree.{rest_line, step, steps, Text, text_here, text_line_of, Tree, tree, turns}
pub use Rattle.definition_text.specs.BlockLines.{block_line, BlockLine, last_ending_or, own_lines, spaced_line}
pub use Rattle.definition_text.specs.Columns.{bare, bytes_of, indent, is_blank, Rest, whole}
pub use Rattle.definition_text.specs.Content.{line_text}
pub use Rattle.definition_text.specs.Indents.{outdent, small_indent}
pub use Rattle.definition_text.specs.Lines.{ending_text, lines, text_line, TextLine}
pub use Rattle.markdown_options.specs.declared.beside.Beside.{Beside}
pub use Rattle.markdown_options.specs.declared.beside.Kind.{Kind}
pub use Rattle.markdown_options.specs.declared.configuration.Constructs.{Constructs}
pub use Rattle.markdown_options.specs.declared.container.Container.{Container as CodeContainer}
pub use Rattle.markdown_options.specs.declared.line_ending.LineEnding.{LineEnding}
pub use Rattle.text_lines.proofs.Codes.{block_codes_whole}
pub use Rattle.text_pieces.specs.ParagraphLines.{AreLines}
pub use Rattle.text_pieces.specs.Pieces.{piece_lines, whole_line, whole_lines}
pub use Rattle.block_parser.specs.Fences.{code_line, IsWholeCode}
pub use Rattle.block_parser.specs.Quotes.{is_quote, NoQuoteFrom}
pub use Rattle.block_parser.specs.View.{Descent, HasRead, KeepsLines, new_inside, ReadsSome}
pub use Rattle.block_parser.specs.declared.parser.Parser.{Parser}
