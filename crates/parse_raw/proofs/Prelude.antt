-- What several proofs of this crate import of other crates and of its own specs.
pub use Rattle.std.proofs.lemmas.Bool.{and_parts, cases_Bool, cond-false, cond-true, eqb-true, false≢true, ne_eqb, or_parts}
pub use Rattle.std.proofs.lemmas.Bool.Decides.{nat_tests}
pub use Rattle.std.proofs.lemmas.List.{append-nil, drop-drop, length-take-le, take-append-drop}
pub use Rattle.std.proofs.lemmas.List.Sums.{prefix_len-le-length, prefix_len_passes}
pub use Rattle.std.proofs.lemmas.Result.{on_ok_weaker}
pub use Rattle.std.specs.List.{list_all, list_any, position_or_len, prefix_len}
pub use Rattle.std.specs.Prelude.{min, replicate, ◌==◌}
pub use Rattle.std.specs.Str.{IsCharBoundary, IsUtf8}
pub use Rattle.block_starts.specs.View.{rest_of}
pub use Rattle.definition_block.specs.CodeFenced.{Fence, fence_start, first_word}
pub use Rattle.definition_block.specs.Container.{Container}
pub use Rattle.definition_block.specs.MathFlow.{math_info, math_start}
pub use Rattle.definition_block.specs.Tree.{beside_line, FencedCode, rest_line}
pub use Rattle.definition_inline.specs.CharacterReference.{Names}
pub use Rattle.definition_inline.specs.Strings.{string_text}
pub use Rattle.definition_page.specs.InlinePieces.{Meaning}
pub use Rattle.definition_page.specs.Read.{info_text, read_leaf, Reading}
pub use Rattle.definition_text.specs.Ascii.{space}
pub use Rattle.definition_text.specs.BlockLines.{BlockLine, last_ending, last_ending_or, own_lines}
pub use Rattle.definition_text.specs.Columns.{bare, block_codes, bytes_of, Code, code_byte, indent, is_byte, is_tab_column, is_white, Rest, tab_column, trim}
pub use Rattle.definition_text.specs.Columns.{whole}
pub use Rattle.definition_text.specs.Content.{is_space}
pub use Rattle.definition_text.specs.Indents.{outdent}
pub use Rattle.definition_text.specs.Lines.{ending_text, ends_line, lines, TextLine}
pub use Rattle.definition_text.specs.Runs.{after_run, run}
pub use Rattle.engine_events.specs.Columns.{between}
pub use Rattle.engine_events.specs.Names.{is_listed, same_name}
pub use Rattle.engine_events.specs.declared.event.Name.{Name}
pub use Rattle.event_grammar.specs.Grammar.{block_names}
pub use Rattle.event_grammar.specs.InGrammar.{kids_of, node_name}
pub use Rattle.event_grammar.specs.References.{named}
pub use Rattle.event_grammar.specs.Trees.{Around, Cons, Nil, Node, Nodes}
pub use Rattle.event_tokens.specs.Tokens.{is_token}
pub use Rattle.event_meaning.specs.Blocks.{blocks_of, info_of, one as one_block}
pub use Rattle.event_meaning.specs.Children.{after_child, before_child, child, ends_in, inside_of, kids_in, spaced_text_of, text_of}
pub use Rattle.event_meaning.specs.Raw.{Chunk, End as EndPart, fenced_lines, raw_lines, raw_part, raw_parts, RawPart}
pub use Rattle.markdown_options.specs.declared.configuration.Constructs.{Constructs}
pub use Rattle.markdown_options.specs.declared.line_ending.LineEnding.{LineEnding}
pub use Rattle.parse_alike.proofs.Raw.{raw_lines_are_alike}
pub use Rattle.parse_alike.specs.BlockLines.{AreHtmlLinesAlike}
pub use Rattle.parse_alike.specs.Page.{AreBlocksAlike, AreLeavesAlike}
pub use Rattle.parse_alike.specs.Raw.{AreFencedAlike, chunk, code_parts, end_part, has_codes, is_there}
pub use Rattle.parse_laid.specs.Leaves.{AreTaken, EndsAt, IsFenceLine, IsLeafLaid}
pub use Rattle.parse_laid.specs.Places.{AtEnding, Between, InAll, InSome, line_left, line_rest, LineRest, Place, prefixed, Prefixed, unread, Within}
pub use Rattle.parse_lines.proofs.Ahead.{after_bytes, next_after}
pub use Rattle.parse_lines.proofs.Columns.{codes_first}
pub use Rattle.parse_lines.proofs.Ends.{end_to_next, left_within, line_follows, rest_to_end, start_whole}
pub use Rattle.parse_lines.proofs.Next.{left_bytes, left_next}
pub use Rattle.parse_lines.proofs.Quiet.{no_void}
pub use Rattle.parse_lines.proofs.Spots.{bytes_after}
pub use Rattle.parse_lines.proofs.Steps.{at_ending}
pub use Rattle.parse_lines.proofs.Suffixes.{IsAfterWhite}
pub use Rattle.parse_lines.proofs.White.{all_filter, all_prefix}
pub use Rattle.parse_lines.proofs.Written.{space_written}
pub use Rattle.parse_lines.specs.Content.{AreNext, end_after}
pub use Rattle.parse_lines.specs.Ends.{IsWrittenToRest, line_after, rest_start, WritesEnding, WritesNextLine, WritesQuiet, WritesUpTo, written_to}
pub use Rattle.parse_lines.specs.Open.{still_open}
pub use Rattle.parse_lines.specs.Standing.{around, IsInLine, IsLineOf, standing, Standing, StandsAt}
pub use Rattle.parse_lines.specs.Steps.{EndsLine, HasSameOpen, PassesLine}
pub use Rattle.parse_lines.specs.declared.walk.Walk.{Walk}
pub use Rattle.parse_output.proofs.Written.{writes_around, writes_both, writes_none}
pub use Rattle.parse_output.specs.Ends.{end_at, enter_at, exit_at, Follows, same_end}
pub use Rattle.parse_output.specs.Forest.{append, cut, is_nil, one, void_nodes}
pub use Rattle.parse_output.specs.Joined.{text_between}
pub use Rattle.parse_output.specs.Voids.{IsToken}
pub use Rattle.parse_output.specs.Written.{end_in, Enters, Exits, IsInOrder, Writes}
pub use Rattle.parse_output.specs.declared.end.End.{End}
pub use Rattle.parse_strings.proofs.Spelled.{whole_end}
pub use Rattle.parse_raw.specs.Bytes.{AreClosing, fence_marks}
pub use Rattle.parse_raw.specs.Before.{tokens, WritesFirst}
pub use Rattle.parse_raw.specs.FenceParts.{AreNames, block_info, chunk_name, fence_name, info_by, info_in, IsBefore, IsPartOf, LeadsTo, WritesOpened}
pub use Rattle.parse_raw.specs.FenceParts.{WritesOpening, WritesPart}
pub use Rattle.parse_raw.specs.Laid.{AreEnding}
pub use Rattle.parse_raw.specs.RawLines.{AreRaw, chunk_parts, html_chunk, IsChunkName, IsCutLine, IsRawName, parts_after, WritesCut, WritesCutLines}
pub use Rattle.parse_raw.specs.RawLines.{WritesLines}
pub use Rattle.parse_raw.specs.Tokens.{AreLeft, LeadsOn}
pub use Rattle.parse_raw.specs.Written.{WritesLeaf}
pub use Rattle.parse_raw.specs.declared.fence_names.FenceNames.{FenceNames}
