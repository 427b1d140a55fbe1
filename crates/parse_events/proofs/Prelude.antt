-- What several proofs of this crate import of other crates and of its own specs.
pub use Rattle.std.proofs.lemmas.Bool.{and_parts, cases_Bool, cond-false, cond-true, eqb-true, true≢false}
pub use Rattle.std.proofs.lemmas.List.{append-nil, length-map, length-reverse, map-append}
pub use Rattle.std.proofs.lemmas.List.Concat.{flat_map-append}
pub use Rattle.std.proofs.lemmas.List.Elements.{All-head, All-tail}
pub use Rattle.std.proofs.lemmas.Result.{IfOk-weaker, on_ok_weaker}
pub use Rattle.std.specs.List.{fold, list_any}
pub use Rattle.std.specs.Prelude.{Err, if◌then◌else◌, Ok, OnOk, Result}
pub use Rattle.block_rows.proofs.RowSteps.{taken_more}
pub use Rattle.block_rows.specs.Rows.{BlockRow, definition_on, definition_value, EnterFootnote, EnterItem, EnterQuote, Exit, first_codes, row_definitions}
pub use Rattle.block_rows.specs.Rows.{row_size, row_value, rows_of, rows_size, rows_value, RowsValue, Single, start_row, value_with}
pub use Rattle.block_rows.specs.declared.row.Row.{Row}
pub use Rattle.block_starts.specs.View.{container_view}
pub use Rattle.definition_block.specs.Container.{Container, Footnote, Item, Quote}
pub use Rattle.definition_block.specs.Definitions.{document_definitions, document_targets, leaf_definitions}
pub use Rattle.definition_block.specs.Frontmatter.{after_frontmatter}
pub use Rattle.definition_block.specs.Lists.{group_items}
pub use Rattle.definition_block.specs.Tree.{beside_in, Blank, Block, blocks, Blocks, Break, Cons as ConsBlock, Definition, Ending, FencedCode, Heading, Holds}
pub use Rattle.definition_block.specs.Tree.{Html, IndentedCode, is_ending, Items, join, Leaf, LeafBlock, Nil as NoBlock, one as one_block, Paragraph, Table}
pub use Rattle.definition_inline.specs.LabelMatch.{normal_label}
pub use Rattle.definition_page.specs.Read.{read_leaf, Reading}
pub use Rattle.definition_text.specs.BlockLines.{BlockLine, own_lines}
pub use Rattle.definition_text.specs.Columns.{bytes_of, Code, whole}
pub use Rattle.definition_text.specs.Content.{is_space}
pub use Rattle.definition_text.specs.Lines.{after_return, ending_text, in_first_line, kind_before_text, lines, text_line, TextLine, without_mark}
pub use Rattle.engine_events.specs.Names.{is_listed, same_name}
pub use Rattle.engine_events.specs.declared.event.Event.{Event}
pub use Rattle.engine_events.specs.declared.event.Name.{Name}
pub use Rattle.event_grammar.specs.Grammar.{block_names}
pub use Rattle.event_grammar.specs.InGrammar.{kids_of, node_name}
pub use Rattle.event_grammar.specs.References.{named}
pub use Rattle.event_grammar.specs.Trees.{Around, Cons, Growth, growth, Nil, Node, Nodes, Part}
pub use Rattle.html_looseness.specs.Loose.{places_of}
pub use Rattle.html_looseness.specs.Printable.{ArePrintable, IsPrintableRow}
pub use Rattle.html_looseness.specs.declared.loose.Place.{Place as ItemPlace}
pub use Rattle.html_rows.proofs.Printable.{blocks_printable}
pub use Rattle.html_rows.proofs.RowsOf.{printable_rows_of}
pub use Rattle.markdown_options.specs.declared.beside.Kind.{Kind}
pub use Rattle.markdown_options.specs.declared.configuration.Constructs.{Constructs}
pub use Rattle.markdown_options.specs.declared.container.Item.{Item as ItemParts}
pub use Rattle.markdown_options.specs.declared.line_ending.LineEnding.{LineEnding}
pub use Rattle.parse_alike.specs.Composed.{ends_unclosed, is_unclosed, standing_after}
pub use Rattle.parse_laid.proofs.Begun.{lines_may_be_begun}
pub use Rattle.parse_laid.specs.Begun.{begun, ends_line, is_in_line}
pub use Rattle.parse_laid.specs.Laid.{IsRowLaid, IsWrittenLaid, unread_lines}
pub use Rattle.parse_laid.specs.ParserRows.{AreRowsLaid}
pub use Rattle.parse_laid.specs.Places.{AtEnding, Between, line_rest, LineRest, Place, Starts, unread, Within}
pub use Rattle.parse_leaves.specs.Rows.{AreLinesOf, WritesRow}
pub use Rattle.parse_leaves.specs.Texts.{reading_by}
pub use Rattle.parse_lines.proofs.Lines.{joined, lines_joined}
pub use Rattle.parse_lines.specs.Ends.{bare_end, EndsInLine, IsWrittenToRest, line_after, rest_start, WritesEnding, WritesLine, WritesStart, WritesStartOf}
pub use Rattle.parse_lines.specs.Ends.{WritesUpTo, written_to}
pub use Rattle.parse_lines.specs.Kinds.{is_item as is_item_kind}
pub use Rattle.parse_lines.specs.Open.{still_open}
pub use Rattle.parse_lines.specs.Prefixes.{IsPrefixOf}
pub use Rattle.parse_lines.specs.Quiet.{AreQuiet}
pub use Rattle.parse_lines.specs.Standing.{around, IsInLine, standing, Standing, StandsAt, TEXT_MAX}
pub use Rattle.parse_lines.specs.Steps.{EndsLine, HasSameOpen, IsBegun as IsLineBegun, StartsOf}
pub use Rattle.parse_lines.specs.declared.walk.Walk.{Walk}
pub use Rattle.parse_open.proofs.Ends.{blank_one}
pub use Rattle.parse_open.proofs.LineCounts.{lines_are_counted}
pub use Rattle.parse_open.proofs.Steps.{always_go_on}
pub use Rattle.parse_open.specs.Fronts.{ends_in_blank, IsFront}
pub use Rattle.parse_open.specs.Levels.{AreMute, AreOpen, HasStart, holder_standing, innermost, is_item, IsNamed, IsOfList, list_name, Spells, standing_at}
pub use Rattle.parse_open.specs.Lines.{line_at}
pub use Rattle.parse_open.specs.Open.{after_row, bare_blocks, bare_container, Holder, InContainer, InList, is_in_list, Level, level, Opened, opened, within}
pub use Rattle.parse_open.specs.Steps.{IsBegun, IsStartName, LevelsGoOn, next_stands}
pub use Rattle.parse_output.proofs.Forests.{append-assoc}
pub use Rattle.parse_output.specs.Ends.{end_at, enter_at, Follows}
pub use Rattle.parse_output.specs.Forest.{append, entered, one, void_nodes, with_nodes}
pub use Rattle.parse_output.specs.Open.{closed, Entered, Mark, unmatched}
pub use Rattle.parse_output.specs.Written.{end_in, Enters, Exits, forest_in, IsInOrder}
pub use Rattle.parse_output.specs.declared.end.End.{End}
pub use Rattle.parse_output.specs.declared.output.Output.{Output}
pub use Rattle.parse_raw.specs.Laid.{AreEnding, WritesToEnd}
pub use Rattle.parse_raw.specs.Written.{node_end, node_start, WritesLeaf}
pub use Rattle.text_pieces.specs.Pieces.{piece_line, piece_lines}
pub use Rattle.text_pieces.specs.declared.piece.Piece.{Piece}
pub use Rattle.parse_events.specs.Closing.{Keeps, more_if, OpensIf}
pub use Rattle.parse_events.specs.Document.{AreAhead, IsAmongRows, IsNew, StandsBefore}
pub use Rattle.parse_events.specs.Labels.{defined_in, HasLabels, normal_labels, own_label}
pub use Rattle.parse_events.specs.LastBlank.{AreEndsAlike}
pub use Rattle.parse_events.specs.Opened.{close_all, ends_in_list, is_last_list, is_list, opened_name}
pub use Rattle.parse_events.specs.Parsing.{GoesOn, GoesOnInLine, IsNext, IsParsing, KnowsItems, KnowsLists, StandsInEnd, which_are_lists, which_go_on}
pub use Rattle.parse_events.specs.Stands.{containers, holder_containers, IsAfterOther, IsListed, IsPastCode, Stands}
pub use Rattle.parse_events.specs.declared.opened.Opened.{Opened as Held}
pub use Rattle.parse_events.specs.declared.parser.Parser.{Parser}
