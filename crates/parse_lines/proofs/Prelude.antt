-- What several proofs of this crate import of other crates and of its own specs.
pub use Rattle.std.proofs.Math.Bool.{or-true}
pub use Rattle.std.proofs.Math.Seq.{drop-append_seam, drop-nil, take-append_seam}
pub use Rattle.std.proofs.lemmas.Bool.{and_parts, cases_Bool, cases_lt, cond-false, cond-true, eqb-true, or_parts, true≢false}
pub use Rattle.std.proofs.lemmas.Bool.Decides.{nat_tests}
pub use Rattle.std.proofs.lemmas.List.{append-nil as append-nil-list, drop-drop, drop_all, length-drop, length-map, map-append, take-append-drop}
pub use Rattle.std.proofs.lemmas.List.Folds.{list_any-append}
pub use Rattle.std.proofs.lemmas.List.Sums.{fold-append}
pub use Rattle.std.proofs.lemmas.Result.{on_ok_weaker}
pub use Rattle.std.specs.List.{filter, fold, list_all, list_any, prefix_len}
pub use Rattle.std.specs.Prelude.{if◌then◌else◌, map, Option, replicate, reverse, ◌==◌}
pub use Rattle.block_starts.specs.View.{container_view, container_views, rest_of, started_if}
pub use Rattle.block_starts.specs.Widths.{width}
pub use Rattle.definition_block.specs.BlockQuote.{after_byte, quote_prefix}
pub use Rattle.definition_block.specs.Container.{Container, Footnote, Item, Quote}
pub use Rattle.definition_block.specs.ContainerLine.{container_line, ContainerLine}
pub use Rattle.definition_block.specs.ContainerStart.{container_start, ContainerStart}
pub use Rattle.definition_block.specs.Containers.{continues, footnote_or, quote_or, starts}
pub use Rattle.definition_block.specs.GfmFootnoteDefinition.{after_bracket, after_open, footnote_mark, footnote_of, footnote_start, is_footnote_label}
pub use Rattle.definition_block.specs.GfmFootnoteDefinition.{label_before, with_colon}
pub use Rattle.definition_block.specs.ListItem.{after_number, bullet, gap, is_digit, is_item, item, item_after, item_start, Marker, marker, marker_of}
pub use Rattle.definition_block.specs.ListItem.{number_of, ordered_marker}
pub use Rattle.definition_block.specs.ThematicBreak.{is_break}
pub use Rattle.definition_block.specs.Tree.{beside_in, beside_line}
pub use Rattle.definition_inline.specs.Label.{ends_label, label_end}
pub use Rattle.definition_text.specs.Ascii.{asterisk, caret, colon, dot, hyphen, left_bracket, plus, right_bracket, right_parenthesis, space}
pub use Rattle.definition_text.specs.BlockLines.{BlockLine}
pub use Rattle.definition_text.specs.Columns.{bare, block_codes, bytes_of, code_byte, codes_from, columns_after_tab, indent, is_blank, is_byte, is_tab_column}
pub use Rattle.definition_text.specs.Columns.{is_white, Rest, tab_column, whole}
pub use Rattle.definition_text.specs.Content.{closed_by, content_codes, is_eol, is_space, may_escape, Part}
pub use Rattle.definition_text.specs.Indents.{small_indent}
pub use Rattle.definition_text.specs.Lines.{ending_text, ends_line, lines, text_line, TextLine}
pub use Rattle.engine_events.specs.Columns.{between, column_after, column_past, mark_size, tab_size}
pub use Rattle.engine_events.specs.Names.{same_name}
pub use Rattle.engine_events.specs.declared.event.Name.{Name}
pub use Rattle.event_grammar.specs.InGrammar.{node_name}
pub use Rattle.event_grammar.specs.Points.{edge, spot}
pub use Rattle.event_grammar.specs.References.{named, named_in}
pub use Rattle.event_grammar.specs.Trees.{Around, Cons, Nil, Node, Nodes}
pub use Rattle.markdown_options.specs.LineEndings.{ending_bytes}
pub use Rattle.markdown_options.specs.declared.beside.Kind.{Kind}
pub use Rattle.markdown_options.specs.declared.configuration.Constructs.{Constructs}
pub use Rattle.markdown_options.specs.declared.container.Container.{Container as CodeContainer}
pub use Rattle.markdown_options.specs.declared.container.Item.{Item as ItemParts}
pub use Rattle.markdown_options.specs.declared.line_ending.LineEnding.{LineEnding}
pub use Rattle.parse_laid.specs.EmptyRests.{is_quote}
pub use Rattle.parse_laid.specs.Leaves.{AreTaken}
pub use Rattle.parse_laid.specs.Places.{AtEnding, Between, going_on, InAll, InSome, into, line_left, line_rest, LineRest, Place, prefixed, Prefixed, unread}
pub use Rattle.parse_laid.specs.Places.{Within}
pub use Rattle.parse_output.proofs.Ends.{spot_index}
pub use Rattle.parse_output.proofs.Between.{between_both}
pub use Rattle.parse_output.proofs.Joined.{flat_around, flat_both, flat_void, joined_both, joined_cut, joined_onward, none_between}
pub use Rattle.parse_output.proofs.Joined.{writes_joined}
pub use Rattle.parse_output.proofs.Written.{writes_around, writes_both, writes_none}
pub use Rattle.parse_output.specs.Ends.{end_at, end_columns, enter_at, exit_at, Follows, index_spot, IsInTab, OwesIn, same_end}
pub use Rattle.parse_output.specs.Forest.{append, byte_nodes, cut, data_nodes, one, void_nodes}
pub use Rattle.parse_output.specs.Joined.{AreJoined, end_edge, flat_text, text_between}
pub use Rattle.std.proofs.lemmas.List.Folds.{list_all-append}
pub use Rattle.parse_output.specs.Voids.{IsToken}
pub use Rattle.event_tokens.specs.Tokens.{is_token}
pub use Rattle.parse_lines.specs.Content.{HasBytes}
pub use Rattle.parse_output.specs.Written.{end_in, Enters, Exits, IsInOrder, Writes}
pub use Rattle.parse_output.specs.declared.end.End.{End}
pub use Rattle.parse_output.specs.declared.output.Output.{Output}
pub use Rattle.parse_output.specs.declared.spot.Spot.{Spot}
pub use Rattle.text_lines.proofs.Codes.{bytes_of_codes, no_bytes, no_columns}
pub use Rattle.parse_lines.specs.Content.{AreNext, content_end_in, end_after, EntersInLine, ExitsInLine, StandsInLine, WritesInLine}
pub use Rattle.parse_lines.specs.Ends.{line_after, rest_start, WritesQuiet, written_to}
pub use Rattle.parse_lines.specs.InContent.{content_from, ends_at_start, IsApart, IsRestLine, IsSameText, StandsInContent, Stop}
pub use Rattle.parse_lines.specs.Quiet.{IsQuotePrefix}
pub use Rattle.parse_lines.specs.Standing.{AreQuotesWithin, around, IsBetween, IsInLine, IsLineOf, standing, Standing, StandsAt, TEXT_MAX}
pub use Rattle.parse_lines.specs.Steps.{BeginsLine, EndsLine, HasSameOpen, StartsOf, with_container, with_rest}
pub use Rattle.parse_lines.specs.declared.walk.Walk.{Walk}
