-- What several proofs of this crate import of other crates and of its own specs.
pub use Rattle.std.proofs.lemmas.Bool.{and_parts, cases_Bool, cond-false, cond-true, eqb-false, eqb-true, false_from_ne_true, lt-ltb, ltb-true, or_from}
pub use Rattle.std.proofs.lemmas.Bool.{or_left, or_parts, true≢false}
pub use Rattle.std.proofs.lemmas.List.{append-nil, drop_at, get_or_at, take-append-drop, take_at}
pub use Rattle.std.proofs.lemmas.Option.{none-some}
pub use Rattle.std.proofs.lemmas.Str.{IsCharBoundary-before_ascii}
pub use Rattle.std.specs.List.{list_all, list_any}
pub use Rattle.std.specs.Option.{option_or}
pub use Rattle.std.specs.Str.{IsCharBoundary, IsUtf8}
pub use Rattle.definition_inline.specs.CharacterReference.{Names}
pub use Rattle.definition_inline.specs.Definition.{next_line}
pub use Rattle.definition_inline.specs.Destination.{destination_at}
pub use Rattle.definition_inline.specs.Label.{label_at}
pub use Rattle.definition_inline.specs.LabelMatch.{words}
pub use Rattle.definition_inline.specs.Parts.{after_part}
pub use Rattle.definition_inline.specs.Resource.{resource_inside}
pub use Rattle.definition_inline.specs.Space.{after_ending, after_spaces, after_white, begins_with_space}
pub use Rattle.definition_inline.specs.Strings.{begins_with_eol, string_text}
pub use Rattle.definition_inline.specs.Title.{title_at}
pub use Rattle.definition_text.specs.Columns.{bare, Code, indent, is_white}
pub use Rattle.definition_text.specs.Content.{content_codes, is_eol, is_space, Part}
pub use Rattle.definition_text.specs.Lines.{ends_line}
pub use Rattle.engine_events.specs.Names.{is_listed, same_name}
pub use Rattle.engine_events.specs.declared.event.Name.{Name}
pub use Rattle.event_grammar.specs.InGrammar.{kids_of, node_name}
pub use Rattle.event_grammar.specs.References.{named, own}
pub use Rattle.event_grammar.specs.Trees.{Around, Cons, Nil, Node, Nodes}
pub use Rattle.event_meaning.specs.Children.{child, inside_of, kids_in}
pub use Rattle.event_meaning.specs.Strings.{string_of}
pub use Rattle.inline_leaves.proofs.Codes.{boundary_after_byte, plain_code}
pub use Rattle.inline_leaves.specs.Leaves.{ReadsEnding}
pub use Rattle.inline_links.proofs.Splits.{begins_ascii, from_some, label_whole}
pub use Rattle.inline_links.proofs.Texts.{AreBytes}
pub use Rattle.inline_links.specs.View.{part_of, resource_of}
pub use Rattle.markdown_options.specs.LineEndings.{ending_bytes}
pub use Rattle.markdown_options.specs.declared.configuration.Constructs.{Constructs}
pub use Rattle.parse_alike.specs.Strings.{IsOfBytes}
pub use Rattle.parse_lines.proofs.InContent.{contents_both, contents_none, line_enters, line_exits}
pub use Rattle.parse_lines.proofs.Steps.{both_ok}
pub use Rattle.parse_lines.specs.Content.{end_after, StandsInLine, WritesInLine}
pub use Rattle.parse_lines.specs.InContent.{EntersInContent, ExitsInContent, IsWhole, StandsInContent, Stop, WritesInContent}
pub use Rattle.parse_lines.specs.Quiet.{IsVoidOf}
pub use Rattle.parse_lines.specs.Standing.{standing}
pub use Rattle.parse_lines.specs.declared.walk.Walk.{Walk}
pub use Rattle.parse_output.proofs.Marks.{same_self}
pub use Rattle.parse_output.specs.Ends.{enter_at, exit_at}
pub use Rattle.parse_output.specs.Forest.{append, one, void_nodes}
pub use Rattle.parse_output.specs.Written.{end_in}
pub use Rattle.parse_output.specs.declared.end.End.{End}
pub use Rattle.parse_strings.proofs.Codes.{codes_split, line_bytes}
pub use Rattle.parse_strings.proofs.OfBytes.{string_of_bytes}
pub use Rattle.parse_strings.proofs.PlainNodes.{named_both, own_both, plain_both}
pub use Rattle.parse_strings.proofs.Texts.{bytes_after, bytes_drop, cut_last, same_codes}
pub use Rattle.parse_strings.specs.Plain.{ArePlain, tail_names}
pub use Rattle.parse_strings.specs.Strings.{AreCutApart, bytes_text}
pub use Rattle.parse_links.specs.Definition.{EndsWithTitle, IsTarget, SpellsEnd, SpellsPlace, WritesParts}
pub use Rattle.parse_links.specs.Destination.{IsInner, IsPlace, WritesDestination}
pub use Rattle.parse_links.specs.Quoted.{Holds, IsMark, IsQuoted, IsRaw, IsStringNode, some_nodes, WritesHeld, WritesQuoted, WritesRaw}
pub use Rattle.parse_links.specs.Tails.{after_reference, HasCodes, is_collapsed, SpellsTarget, SpellsTitle, title_string, WritesTail}
pub use Rattle.parse_links.specs.White.{is_ascii_byte, white_names, WritesWhite}
pub use Rattle.parse_links.specs.declared.names.Names.{Names as PlaceNames}
