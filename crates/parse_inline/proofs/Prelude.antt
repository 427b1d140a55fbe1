-- What several proofs of this crate import of other crates and of its own specs.
pub use Rattle.std.proofs.Math.Seq.{drop-append_seam, take-append_seam}
pub use Rattle.std.proofs.lemmas.Bool.{and_parts, cases_Bool, cases_lt, cond-false, cond-true, cond_both, eqb-true, or_from, or_parts, true≢false}
pub use Rattle.std.proofs.lemmas.Bool.Decides.{nat_tests}
pub use Rattle.std.proofs.lemmas.List.{append-nil, length-append, length-drop, length-replicate, length-take-le, map-append, take-append-drop}
pub use Rattle.std.proofs.lemmas.List.Folds.{list_any-append}
pub use Rattle.std.proofs.lemmas.List.Sums.{prefix_len-le-length}
pub use Rattle.std.proofs.lemmas.Result.{on_ok_weaker}
pub use Rattle.std.specs.List.{fold, list_any, position_or_len}
pub use Rattle.std.specs.Option.{option_or}
pub use Rattle.std.specs.Prelude.{codes, if◌then◌else◌, slice_index, unwrap_or, ◌==◌, ◌||◌}
pub use Rattle.std.specs.Str.{IsCharBoundary, IsUtf8}
pub use Rattle.definition_inline.specs.CharacterReference.{Names}
pub use Rattle.definition_inline.specs.CodeText.{code_space, run_of, without_padding}
pub use Rattle.definition_inline.specs.Inline.{Data, Escape, Html, Image, InlineLeaf, Inlines, Leaf, LineEnd, Link, LinkedKind, Reference, Resource, Target}
pub use Rattle.definition_inline.specs.Resource.{resource_at}
pub use Rattle.definition_inline.specs.Scan.{InlineContext, inlines_from}
pub use Rattle.definition_inline.specs.Strings.{begins_with_eol}
pub use Rattle.definition_page.specs.InlinePieces.{Meaning}
pub use Rattle.definition_text.proofs.ContentBytes.{IsInLine}
pub use Rattle.definition_text.proofs.Each.{Each}
pub use Rattle.definition_text.specs.Columns.{bare, Code, indent, is_white}
pub use Rattle.definition_text.specs.Content.{after_return_code, content_codes, is_eol, line_ending_code, text_before}
pub use Rattle.definition_text.specs.InlineCode.{codes_of, InlineCode}
pub use Rattle.definition_text.specs.Lines.{ends_line}
pub use Rattle.definition_text.specs.Runs.{run}
pub use Rattle.engine_events.specs.Columns.{between}
pub use Rattle.engine_events.specs.Names.{is_listed, same_name}
pub use Rattle.engine_events.specs.contracts.event.Name.{the_type}
pub use Rattle.engine_events.specs.declared.event.Name.{Name}
pub use Rattle.event_grammar.specs.InGrammar.{kids_of, node_name}
pub use Rattle.event_grammar.specs.Points.{column_at}
pub use Rattle.event_grammar.specs.References.{label_text, named, named_in, own, own_in}
pub use Rattle.event_grammar.specs.Trees.{Around, Cons, Nil, Node, Nodes}
pub use Rattle.event_grammar.specs.declared.spans.SpanNames.{SpanNames}
pub use Rattle.event_meaning.specs.Children.{spaced_text_of, text_of}
pub use Rattle.event_meaning.specs.Strings.{string_of}
pub use Rattle.event_meaning.specs.Texts.{code_of, code_part, code_parts, html_part, html_parts, inlines_of, leaves, part, target_of, text_names, text_part}
pub use Rattle.event_meaning.specs.Texts.{text_within}
pub use Rattle.inline_content.proofs.Utf8Bytes.{utf8_bytes}
pub use Rattle.inline_leaves.specs.Leaves.{ReadsEnding}
pub use Rattle.inline_leaves.specs.declared.leaf.LeafPart.{LeafPart}
pub use Rattle.inline_leaves.specs.declared.line_ending.Ending.{Ending}
pub use Rattle.inline_links.proofs.Texts.{AreBytes}
pub use Rattle.inline_rows.specs.View.{spelled_view}
pub use Rattle.inline_rows.specs.declared.row.InlineRow.{InlineRow}
pub use Rattle.inline_rows.specs.declared.row.SpelledLeaf.{SpelledLeaf}
pub use Rattle.inline_runs.specs.View.{span_view}
pub use Rattle.inline_runs.specs.declared.pair.Span.{Span}
pub use Rattle.markdown_options.specs.Defaults.{default_constructs}
pub use Rattle.markdown_options.specs.LineEndings.{ending_bytes}
pub use Rattle.markdown_options.specs.declared.configuration.Constructs.{Constructs}
pub use Rattle.markdown_options.specs.declared.line_ending.LineEnding.{LineEnding}
pub use Rattle.parse_alike.proofs.LabelMatch.{same_words_are_alike}
pub use Rattle.parse_alike.specs.HtmlText.{html_leaves}
pub use Rattle.parse_alike.specs.Inline.{ArePartsAlike}
pub use Rattle.parse_alike.specs.LabelMatch.{HaveSameWords}
pub use Rattle.parse_alike.specs.Strings.{HaveTextsOfBytes}
pub use Rattle.parse_lines.proofs.Ahead.{after_bytes, after_tab}
pub use Rattle.parse_lines.proofs.InContent.{contents_around, contents_both, contents_none, line_enters, line_exits, line_in_content}
pub use Rattle.parse_lines.proofs.Steps.{both_ok}
pub use Rattle.parse_lines.specs.Content.{AreNext, end_after, EntersInLine, ExitsInLine, StandsInLine, WritesInLine}
pub use Rattle.parse_lines.specs.InContent.{EntersInContent, ExitsInContent, IsApart, IsWhole, StandsInContent, Stop, WritesEndingIn, WritesInContent}
pub use Rattle.parse_lines.specs.Open.{still_open}
pub use Rattle.parse_lines.specs.Quiet.{AreQuiet}
pub use Rattle.parse_lines.specs.Standing.{standing}
pub use Rattle.parse_lines.specs.declared.walk.Walk.{Walk}
pub use Rattle.parse_links.specs.Tails.{SpellsResource}
pub use Rattle.parse_output.specs.Ends.{end_at, enter_at, exit_at, index_spot, same_end}
pub use Rattle.parse_output.specs.Forest.{append, cut, data_nodes, one, void_nodes}
pub use Rattle.parse_output.specs.Open.{Entered, Mark}
pub use Rattle.parse_output.specs.Written.{end_in}
pub use Rattle.parse_output.specs.declared.end.End.{End}
pub use Rattle.parse_written.proofs.Bytes.{inline_bytes_law}
pub use Rattle.parse_written.proofs.Raw.{raw_bytes_law}
pub use Rattle.parse_written.specs.Bytes.{AreBytesAt}
pub use Rattle.parse_written.specs.Marks.{sequence_size}
pub use Rattle.parse_written.specs.Parts.{escaped}
pub use Rattle.parse_written.specs.Rows.{IsData, IsFirstLaid, IsPartLaid}
pub use Rattle.parse_strings.proofs.Codes.{codes_split, line_bytes, no_ends}
pub use Rattle.parse_strings.proofs.Parts.{owed_indent}
pub use Rattle.parse_strings.proofs.PlainNodes.{plain_both, plain_none, plain_one, plain_quiet, plain_void, sought_names}
pub use Rattle.parse_strings.proofs.Spelled.{still_whole, token_text, void_one, whole_end}
pub use Rattle.parse_strings.proofs.Texts.{bytes_drop, ending_step, same_codes}
pub use Rattle.parse_strings.specs.Plain.{ArePlain}
pub use Rattle.parse_strings.specs.References.{token}
pub use Rattle.parse_written.specs.Laid.{AreLaid, Holds, IsLeafLaid, Step, steps_of}
pub use Rattle.parse_written.specs.Written.{AreCodes, call_codes, EndNoLine, EndsLinked}
pub use Rattle.parse_inline.specs.Holes.{AreLinkable, filled, in_link}
pub use Rattle.parse_inline.specs.Leaves.{Anywhere, in_angles, line_end, WritesFront, WritesLeaves, WritesPart, WritesSpelled}
pub use Rattle.parse_inline.specs.Leaving.{AreHeld, leave_all, leave_open, open_around, sequence_name, span_name, text_name}
pub use Rattle.parse_inline.specs.Lines.{AreCutBetween, AreNamed, BeginsDark, IsChunk, IsCodeChunk, line_names, WritesLine, WritesLines, WritesLinesTo}
pub use Rattle.parse_inline.specs.Rows.{AreWritten, EndsLabel, EntersLabel, EntersSpan, Frame, held_levels, held_of, hole_of, InLinked, InSpan, is_link}
pub use Rattle.parse_inline.specs.Rows.{IsInRows, IsReadBy, laid_levels, LeavesLinked, LeavesSpan, level, Level, linked_name, links, mark_name, Outside}
pub use Rattle.parse_inline.specs.Rows.{PassesRow, Setting, SpellsTarget, void_next, WritesCall, WritesParts}
pub use Rattle.parse_inline.specs.Texts.{AreMeanings, StandsInText, WritesText}
pub use Rattle.parse_inline.specs.declared.opened.Open.{Open}
