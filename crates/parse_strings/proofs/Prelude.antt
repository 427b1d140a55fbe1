-- What several proofs of this crate import of other crates and of its own specs.
pub use Rattle.std.proofs.lemmas.Bool.{and_parts, cases_Bool, cond-false, cond-true, cond_both, eqb-false, eqb-true, ne_eqb, or_from, or_parts, true≢false}
pub use Rattle.std.proofs.lemmas.List.{append-nil, drop_at}
pub use Rattle.std.proofs.lemmas.List.Concat.{flat_map-append}
pub use Rattle.std.proofs.lemmas.List.Folds.{list_any-append}
pub use Rattle.std.proofs.lemmas.List.Sums.{prefix_len-le-length}
pub use Rattle.std.proofs.lemmas.Result.{IfOk-weaker}
pub use Rattle.std.specs.Char.{is_ascii_punctuation}
pub use Rattle.std.specs.List.{flat_map, list_any, prefix_len}
pub use Rattle.std.specs.Prelude.{if◌then◌else◌, ◌&&◌}
pub use Rattle.std.specs.Str.{IsCharBoundary, IsUtf8}
pub use Rattle.definition_inline.specs.CharacterEscape.{escape_at}
pub use Rattle.definition_inline.specs.CharacterReference.{CharacterName, CharacterReference, Names, reference_at, reference_form, reference_leaf}
pub use Rattle.definition_inline.specs.CharacterReference.{reference_of, reference_text}
pub use Rattle.definition_inline.specs.HardBreak.{line_end_at}
pub use Rattle.definition_inline.specs.Inline.{Escape, Found, leaf, LineEnd, or_else}
pub use Rattle.definition_inline.specs.Strings.{begins_with_eol, eol_bytes, spaces_at, string_bytes, string_leaf_at, string_parts}
pub use Rattle.definition_text.specs.Columns.{bare, indent, is_white}
pub use Rattle.definition_text.specs.Content.{content_codes, is_eol, is_space}
pub use Rattle.definition_text.specs.Lines.{ends_line}
pub use Rattle.engine_events.specs.Names.{is_listed, same_name}
pub use Rattle.engine_events.specs.declared.event.Name.{Name}
pub use Rattle.event_grammar.specs.InGrammar.{kids_of, node_name}
pub use Rattle.event_grammar.specs.Trees.{Around, Cons, Nil, Node, Nodes}
pub use Rattle.event_meaning.specs.Children.{text_of}
pub use Rattle.event_meaning.specs.Strings.{string_of, string_part}
pub use Rattle.inline_leaves.proofs.Codes.{at_return, plain_code}
pub use Rattle.inline_leaves.specs.Leaves.{parts_of}
pub use Rattle.inline_links.proofs.Texts.{AreBytes}
pub use Rattle.markdown_options.specs.LineEndings.{ending_bytes}
pub use Rattle.markdown_options.specs.declared.configuration.Constructs.{Constructs}
pub use Rattle.markdown_options.specs.declared.line_ending.LineEnding.{LineEnding}
pub use Rattle.parse_lines.proofs.Ahead.{after_bytes}
pub use Rattle.parse_lines.proofs.InContent.{line_in_content}
pub use Rattle.parse_lines.proofs.InLine.{lines_around, lines_both}
pub use Rattle.parse_lines.proofs.Steps.{both_ok}
pub use Rattle.parse_lines.specs.Content.{AreNext, end_after, EntersInLine, ExitsInLine, StandsInLine, WritesInLine}
pub use Rattle.parse_lines.specs.InContent.{IsWhole, StandsInContent, Stop}
pub use Rattle.parse_lines.specs.Quiet.{AreQuiet}
pub use Rattle.parse_lines.specs.declared.walk.Walk.{Walk}
pub use Rattle.parse_output.specs.Ends.{end_at, enter_at, exit_at, same_end}
pub use Rattle.parse_output.specs.Forest.{append, byte_nodes, cut, data_nodes, one, void_nodes}
pub use Rattle.parse_output.specs.Written.{end_in}
pub use Rattle.parse_output.specs.declared.end.End.{End}
pub use Rattle.parse_strings.specs.Plain.{ArePlain}
pub use Rattle.parse_strings.specs.References.{AreMarks, is_x, mark_nodes, marked_text, token, WritesMarks}
pub use Rattle.parse_strings.specs.Strings.{AreCutApart, bytes_text, is_ink, WritesNode, WritesStringFront, WritesStringPart}
