-- What several proofs of this crate import of other crates and of its own specs.
pub use Rattle.std.proofs.lemmas.Bool.{cases_Bool, cond-false, cond-true, eqb-true, ne_eqb, or_parts, true≢false}
pub use Rattle.std.proofs.lemmas.List.{append-nil, append_assoc, drop-drop, length-drop, length-map, length-take-le, take-append-drop}
pub use Rattle.std.proofs.lemmas.List.Concat.{flat_map-cons}
pub use Rattle.std.proofs.lemmas.Option.{none-some}
pub use Rattle.std.proofs.lemmas.Result.{on_ok_weaker}
pub use Rattle.std.specs.List.{flat_map, list_any, prefix_len}
pub use Rattle.std.specs.Prelude.{◌==◌}
pub use Rattle.block_rows.specs.Rows.{definition_on, definition_value, Single}
pub use Rattle.block_starts.specs.View.{rest_of}
pub use Rattle.definition_block.specs.Container.{Container}
pub use Rattle.definition_block.specs.HeadingAtx.{Atx, heading_atx}
pub use Rattle.definition_block.specs.Tree.{Heading, Paragraph, rest_line}
pub use Rattle.definition_inline.specs.CharacterReference.{Names}
pub use Rattle.definition_inline.specs.GfmTaskListItem.{check_of}
pub use Rattle.definition_inline.specs.Inline.{Inlines, Nil as NoInlines}
pub use Rattle.definition_inline.specs.Scan.{inlines_from}
pub use Rattle.definition_page.specs.InlinePieces.{Meaning}
pub use Rattle.definition_page.specs.Read.{context_of, read_text, Reading}
pub use Rattle.definition_text.specs.Ascii.{number_sign}
pub use Rattle.definition_text.specs.BlockLines.{block_line, BlockLine, last_ending, own_lines, spaced_line}
pub use Rattle.definition_text.specs.Columns.{bare, block_codes, bytes_of, code_byte, indent, is_blank, is_tab_column, is_white, Rest, tab_column}
pub use Rattle.definition_text.specs.Content.{after_return_code, content_codes, content_of, content_text, is_eol, line_text}
pub use Rattle.definition_text.specs.Indents.{small_indent}
pub use Rattle.definition_text.specs.InlineCode.{codes_of, inline_content}
pub use Rattle.definition_text.specs.Lines.{ending_text, ends_line, lines}
pub use Rattle.definition_text.specs.Runs.{run}
pub use Rattle.engine_events.specs.Names.{same_name}
pub use Rattle.engine_events.specs.declared.event.Name.{Name}
pub use Rattle.event_grammar.specs.InGrammar.{node_name}
pub use Rattle.event_grammar.specs.References.{named}
pub use Rattle.event_grammar.specs.Trees.{Around, Cons, Nil, Node, Nodes}
pub use Rattle.event_meaning.specs.Children.{kids_in, text_in}
pub use Rattle.event_meaning.specs.Spelled.{definition_of}
pub use Rattle.event_meaning.specs.Texts.{append as append_inlines, inlines_of, text_within}
pub use Rattle.inline_content.proofs.Lined.{content_lines_apart}
pub use Rattle.inline_content.proofs.Utf8Bytes.{utf8_bytes}
pub use Rattle.inline_content.proofs.Views.{codes_of_view}
pub use Rattle.inline_content.specs.Lines.{AreContentLines}
pub use Rattle.inline_content.specs.View.{content_view, view_at}
pub use Rattle.inline_content.specs.declared.content.Content.{Content}
pub use Rattle.inline_leaves.specs.GfmTaskListItem.{IsAfterCheck}
pub use Rattle.inline_links.proofs.Texts.{AreBytes}
pub use Rattle.markdown_options.specs.declared.beside.Kind.{Kind}
pub use Rattle.markdown_options.specs.declared.configuration.Constructs.{Constructs}
pub use Rattle.markdown_options.specs.declared.line_ending.LineEnding.{LineEnding}
pub use Rattle.parse_alike.specs.Inline.{ArePartsAlike}
pub use Rattle.parse_alike.specs.Targets.{AreDefinitionsAlike}
pub use Rattle.parse_inline.specs.Texts.{AreMeanings, StandsInText, WritesText}
pub use Rattle.parse_laid.specs.Leaves.{AreTaken, IsLeafLaid, IsTextLine}
pub use Rattle.parse_laid.specs.Places.{AtEnding, Between, line_left, LineRest, Place, prefixed, Prefixed, Within}
pub use Rattle.parse_lines.proofs.ContentLines.{content_done}
pub use Rattle.parse_lines.proofs.InContent.{line_enters, line_in_content}
pub use Rattle.parse_lines.proofs.NextLine.{code_bytes}
pub use Rattle.parse_lines.proofs.Steps.{both_ok}
pub use Rattle.parse_lines.specs.Content.{AreNext, end_after, EntersInLine, StandsInLine, WritesInLine}
pub use Rattle.parse_lines.specs.Ends.{bare_end, IsWrittenToRest, written_to}
pub use Rattle.parse_lines.specs.InContent.{BeginsContent, content_from, IsRestLine, IsWhole, StandsInContent, Stop}
pub use Rattle.parse_lines.specs.Quiet.{AreQuiet, IsQuiet}
pub use Rattle.parse_lines.specs.Standing.{around, standing, Standing, StandsAt}
pub use Rattle.parse_lines.specs.Steps.{HasSameOpen}
pub use Rattle.parse_lines.specs.declared.walk.Walk.{Walk}
pub use Rattle.parse_output.proofs.Written.{writes_around, writes_both}
pub use Rattle.parse_output.specs.Ends.{end_at, enter_at, exit_at, Follows}
pub use Rattle.parse_output.specs.Forest.{append, one, void_nodes}
pub use Rattle.parse_output.specs.Written.{end_in, Exits, IsInOrder, Writes}
pub use Rattle.parse_output.specs.declared.end.End.{End}
pub use Rattle.parse_raw.proofs.LeafNodes.{cut_one}
pub use Rattle.parse_raw.proofs.OnLine.{all_on, around_on, entered_on, next_parts, on_end, on_line_both, some_on, white_ahead}
pub use Rattle.parse_raw.specs.Before.{IsOnLine, tokens, WritesOnLine}
pub use Rattle.parse_raw.specs.Calls.{EnterCall, ExitCall, ToCall, TokenCall}
pub use Rattle.parse_raw.specs.Reads.{WritesReadLeaf}
pub use Rattle.parse_raw.specs.Written.{SpellsLeaf, WritesLeaf}
pub use Rattle.parse_strings.proofs.PlainNodes.{named_both}
pub use Rattle.parse_strings.proofs.Spelled.{token_text, whole_end}
pub use Rattle.parse_strings.specs.Plain.{ArePlain}
pub use Rattle.text_pieces.specs.ParagraphLines.{AreLines, HaveNoEnding}
pub use Rattle.text_pieces.specs.Pieces.{piece_line, piece_lines, whole_lines}
pub use Rattle.text_pieces.specs.declared.piece.Piece.{Piece}
pub use Rattle.parse_leaves.specs.Atx.{WritesClosing, WritesHeadingText}
pub use Rattle.parse_leaves.specs.Entered.{EntersAt, EntersText, text_stop, WritesContentIn, WritesUnderline}
pub use Rattle.parse_leaves.specs.Rows.{WritesRow}
pub use Rattle.parse_leaves.specs.Texts.{read_content, reading_by, without_white, WritesContent, WritesWhite}
