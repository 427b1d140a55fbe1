-- What several proofs of this crate import of other crates and of its own specs.
pub use Rattle.std.proofs.lemmas.Bool.{and_parts, cases_Bool, cond_both, false≢true, true≢false}
pub use Rattle.std.proofs.lemmas.List.{append-nil}
pub use Rattle.std.proofs.lemmas.Option.{none-some}
pub use Rattle.std.specs.List.{fold}
pub use Rattle.block_rows.specs.Rows.{BlockRow, EnterFootnote, EnterItem, EnterQuote, Exit, rows_of, Single, start_row}
pub use Rattle.definition_block.specs.CodeFenced.{Fence, fence_start}
pub use Rattle.definition_block.specs.CodeIndented.{starts_code_indented}
pub use Rattle.definition_block.specs.Container.{Container, Footnote, Item, Quote}
pub use Rattle.definition_block.specs.ContainerLine.{ContainerLine}
pub use Rattle.definition_block.specs.Containers.{continues}
pub use Rattle.definition_block.specs.Definitions.{cut_into, cut_most, definition_cut, DefinitionCut}
pub use Rattle.definition_block.specs.GfmTable.{is_head}
pub use Rattle.definition_block.specs.HeadingAtx.{Atx, heading_atx}
pub use Rattle.definition_block.specs.HtmlFlow.{html_start}
pub use Rattle.definition_block.specs.ListItem.{is_inside}
pub use Rattle.definition_block.specs.MathFlow.{math_start}
pub use Rattle.definition_block.specs.ThematicBreak.{is_break}
pub use Rattle.definition_block.specs.Tree.{after, At, atx_tree, beside_in, beside_line, Blank, Block, block_and_ending, blocks, Blocks, Break, break_tree}
pub use Rattle.definition_block.specs.Tree.{close, Cons, Definition, Ending, fence_tree, Fenced, FencedCode, has_text, Heading, Holds, Html, html_tree}
pub use Rattle.definition_block.specs.Tree.{Indented, indented_tree, IndentedCode, Inside, is_ending, is_some_line, Items, join, Leaf, leaf_line, LeafBlock}
pub use Rattle.definition_block.specs.Tree.{makes_table, Nil, nothing, one, open_text, OpenHtml, Opening, OpenLeaf, OpenTable, Paragraph, paragraph_of}
pub use Rattle.definition_block.specs.Tree.{rest_line, step, Table, takes, Text, text_line_of, tree, Tree as BlockTree, turns}
pub use Rattle.definition_text.proofs.Each.{WhereSome}
pub use Rattle.definition_text.specs.BlockLines.{BlockLine, last_ending, last_ending_or, own_lines, spaced_line}
pub use Rattle.definition_text.specs.Columns.{indent, is_blank, Rest, whole}
pub use Rattle.definition_text.specs.Indents.{outdent}
pub use Rattle.definition_text.specs.Lines.{lines, TextLine}
pub use Rattle.markdown_options.specs.declared.beside.Beside.{Beside}
pub use Rattle.markdown_options.specs.declared.beside.Kind.{Kind}
pub use Rattle.markdown_options.specs.declared.configuration.Constructs.{Constructs}
pub use Rattle.markdown_options.specs.declared.line_ending.LineEnding.{LineEnding}
pub use Rattle.text_pieces.specs.ParagraphLines.{AreLines}
pub use Rattle.parse_laid.specs.Begun.{begun, ends_line}
pub use Rattle.parse_laid.specs.Laid.{AreLaid, Enters, IsRowLaid, IsWrittenLaid}
pub use Rattle.parse_laid.specs.Leaves.{AreCode, AreFenced, AreHtml, AreTable, AreTaken, AreText, BeginsNoLeaf, FollowsText, IsCodeLine, IsFenceLine}
pub use Rattle.parse_laid.specs.Leaves.{IsHtmlLine, IsLeafLaid, IsRowLine, IsTextLine}
pub use Rattle.parse_laid.specs.Places.{AtEnding, Between, going_on, InAll, InSome, into, IsInAll, IsOn, line_left, line_rest, LineRest, Place, prefixed}
pub use Rattle.parse_laid.specs.Places.{Prefixed, Starts, Stops, unread, Within}
