-- What several proofs of this crate import of other crates and of its own specs.
pub use Rattle.std.proofs.Math.ListN.{get_or-map}
pub use Rattle.std.proofs.lemmas.Bool.{and_from, and_left, and_parts, and_right, both_ways, cases_Bool, cond-false, cond-true, cond_both, eq-eqb, eqb-true}
pub use Rattle.std.proofs.lemmas.Bool.{false_from_ne_true, lt-ltb, ne_eqb, not-true, not_from_false, or_cases, or_from, or_left, or_parts, or_right}
pub use Rattle.std.proofs.lemmas.Bool.{true≢false}
pub use Rattle.std.proofs.lemmas.Grind.{flat_map-append}
pub use Rattle.std.proofs.lemmas.List.{drop-map, length-map, map-append, reverse-append, take-map}
pub use Rattle.std.proofs.lemmas.List.Elements.{All-tail}
pub use Rattle.std.proofs.lemmas.List.Sums.{fold-append}
pub use Rattle.std.specs.Char.{is_ascii_punctuation, to_ascii_lowercase}
pub use Rattle.std.specs.List.{All, filter, fold, list_all, prefix_len}
pub use Rattle.std.specs.Option.{option_map}
pub use Rattle.std.specs.Prelude.{codes, IfSome, is_some, nat_le, nat_lt, replicate, reverse, slice_index_or, unwrap_or, ◌≢◌}
pub use Rattle.std.specs.Str.{bytes_eq}
pub use Rattle.definition_block.proofs.BlockReads.{AtxGood, BlockGood, blocks_good, BlocksGood, LeafBlockGood, Property, Reads, TextLineGood}
pub use Rattle.definition_block.specs.CodeFenced.{Fence, fence_start}
pub use Rattle.definition_block.specs.Container.{Container, Footnote, Item, Quote}
pub use Rattle.definition_block.specs.ContainerLine.{ContainerLine}
pub use Rattle.definition_block.specs.ContainerStart.{ContainerStart}
pub use Rattle.definition_block.specs.Containers.{continues, starts}
pub use Rattle.definition_block.specs.Definitions.{block_definitions, block_footnotes, definition_cut, DefinitionCut, definitions, document_definitions}
pub use Rattle.definition_block.specs.Definitions.{footnotes, leaf_definitions, with_spaces}
pub use Rattle.definition_block.specs.GfmTable.{Cell, cells, in_first_cell, is_bar, is_head, line_cells, parts, without_blank_first, without_blank_last}
pub use Rattle.definition_block.specs.HeadingAtx.{atx, Atx, atx_of, begins_apart, ends_apart, heading_atx, without_closing, without_run}
pub use Rattle.definition_block.specs.HeadingSetext.{underline}
pub use Rattle.definition_block.specs.Lists.{group_items}
pub use Rattle.definition_block.specs.MathFlow.{math_start}
pub use Rattle.definition_block.specs.ThematicBreak.{is_break}
pub use Rattle.definition_block.specs.Tree.{At, Blank, Block, block_and_ending, blocks, Blocks, close, Ending, Fenced, FencedCode, grow, Holds, Indented}
pub use Rattle.definition_block.specs.Tree.{Inside, is_ending, Items, join, LeafBlock, one, OpenHtml, Opening, OpenLeaf, OpenTable, paragraph_of, rest_line}
pub use Rattle.definition_block.specs.Tree.{Text, Tree, tree}
pub use Rattle.definition_inline.proofs.PartSteps.{definition_before, or_definition_without_title, resource_with_destination, resource_with_title, with_colon}
pub use Rattle.definition_inline.proofs.PartSteps.{with_destination, with_label, with_title}
pub use Rattle.definition_inline.specs.Attention.{is_marker, is_other, Run, run_at, run_between, run_size}
pub use Rattle.definition_inline.specs.Autolink.{after_uri, autolink_after, autolink_at, begins_with_scheme, closed_autolink, domain_end, email_end}
pub use Rattle.definition_inline.specs.Autolink.{is_domain_byte, is_email_byte, is_scheme_byte, is_uri_byte, uri_end}
pub use Rattle.definition_inline.specs.CharacterEscape.{escape_at}
pub use Rattle.definition_inline.specs.CharacterReference.{reference_after, reference_at, reference_form, reference_of}
pub use Rattle.definition_inline.specs.CodeText.{code_space, code_text_at, raw_at, raw_leaf, raw_part, run_of}
pub use Rattle.definition_inline.specs.Definition.{Definition, Definition as LinkDefinition, definition_at, definition_with_title, next_line}
pub use Rattle.definition_inline.specs.Destination.{angle_end, bare_end, destination_at, ends_angle, ends_bare, if_any, is_too_deep, open_after, unless_empty}
pub use Rattle.definition_inline.specs.GfmAutolinkLiteral.{begins_caselessly, begins_name, cut_more, domain, ends_literal, follows_label, has_low_line}
pub use Rattle.definition_inline.specs.GfmAutolinkLiteral.{is_among, is_control_or_ending, is_cut, linked_literals, literal_after, literal_at, literal_name}
pub use Rattle.definition_inline.specs.GfmAutolinkLiteral.{literal_run, literal_start, literal_start_at, LiteralStart, may_precede_protocol, may_precede_www}
pub use Rattle.definition_inline.specs.GfmAutolinkLiteral.{named_literal, or_start, protocol_start, without_tail, www_start}
pub use Rattle.definition_inline.specs.GfmLabelStartFootnote.{call_or_link, called_label}
pub use Rattle.definition_inline.specs.GfmTaskListItem.{check_at}
pub use Rattle.definition_inline.specs.HardBreak.{escaped_break_at, is_trailing_break, line_end_at, line_spaces_at}
pub use Rattle.definition_inline.specs.HtmlText.{html_byte, html_end, html_leaf, html_text_at}
pub use Rattle.definition_inline.specs.Inline.{Autolink, Call, Character, Code, Cons, Data, Escape, Found, Html, Image, Inline, InlineLeaf, Inlines, leaf}
pub use Rattle.definition_inline.specs.Inline.{Leaf, LineEnd, Link, link_texts, Linked, LinkTexts, Literal, Math, Nil, or_else, Protocol, Reference, Resource}
pub use Rattle.definition_inline.specs.Inline.{Span, Target, TaskCheck, TrailingBreak, Www}
pub use Rattle.definition_inline.specs.Label.{ends_label, if_label, is_label, label_at, label_end}
pub use Rattle.definition_inline.specs.LabelEnd.{by_label, by_resource, by_text, Calls, label_end_at, Leads, link_or_image, LinkOrCall, LinkTail}
pub use Rattle.definition_inline.specs.LabelMatch.{first_match, normal_label, place_of}
pub use Rattle.definition_inline.specs.MathText.{math_text_at, may_open_math}
pub use Rattle.definition_inline.specs.Resource.{LinkResource, opens_title, resource_at, resource_end, resource_inside}
pub use Rattle.definition_inline.specs.Scan.{and_then, formed_at, ImageStart, InlineContext, inlines, inlines_from, LabelStart, leaf_at, leaf_here, leaf_step}
pub use Rattle.definition_inline.specs.Scan.{LinkStart, Next, Reading, reading, scan, step, Step, text, whole_text, without_indent}
pub use Rattle.definition_inline.specs.Space.{after_ending, after_spaces, after_white, begins_with_space}
pub use Rattle.definition_inline.specs.Spans.{Delimiters, Token, with_spans}
pub use Rattle.definition_inline.specs.Strings.{string_text}
pub use Rattle.definition_inline.specs.Title.{ends_blank_line, title_at, title_close, title_end, title_until}
pub use Rattle.definition_page.proofs.PlainLayout.{ArePlain}
pub use Rattle.definition_page.specs.BlockPieces.{children_pieces, fresh_unless}
pub use Rattle.definition_page.specs.GfmFootnoteDefinition.{ended_size, section_pieces}
pub use Rattle.definition_page.specs.GfmLabelStartFootnote.{call_id, footnote_id, leads_to_id}
pub use Rattle.definition_page.specs.OptionTexts.{text_or}
pub use Rattle.definition_page.specs.GfmTable.{delimiter_line, head_line, in_cell, Table, TableRow}
pub use Rattle.definition_page.specs.GfmTagfilter.{filter_if}
pub use Rattle.definition_page.specs.InlinePieces.{element, inline_counts, inline_pieces, link_url, Meaning, raw_html}
pub use Rattle.definition_page.specs.Layout.{called_footnotes, first_calls, layout, named_calls, NamedCall, times, with_calls}
pub use Rattle.definition_page.specs.Pieces.{Close, Eol, Fresh, is_fresh, Open, Piece, print, Says, Void}
pub use Rattle.definition_page.specs.Read.{ending_list, ends_blank, read_blocks}
pub use Rattle.definition_page.specs.Tags.{AsItIs, Attribute, attribute, attribute_bytes, bare_tag, EndOfLine, Number, PrintedPart, said_bytes, tag, Words}
pub use Rattle.definition_page.specs.Urls.{href_protocols, percent}
pub use Rattle.definition_text.specs.BlockLines.{BlockLine, own_lines}
pub use Rattle.definition_text.specs.Bytes.{after_all, begins_with}
pub use Rattle.definition_text.specs.Columns.{bare, block_codes, bytes_of, code_byte, codes_from, columns_after_tab, indent, is_blank, is_byte, is_tab_column}
pub use Rattle.definition_text.specs.Columns.{is_white, Rest, tab_column, trim, whole}
pub use Rattle.definition_text.specs.Content.{at_line_start, closed_by, content_of, ending_code, is_eol, is_space, line_codes, line_ending_code, may_escape}
pub use Rattle.definition_text.specs.Content.{Part, part, text_before, up_to}
pub use Rattle.definition_text.specs.Encode.{encode, plain}
pub use Rattle.definition_text.specs.Indents.{outdent, small_indent}
pub use Rattle.definition_text.specs.InlineCode.{codes_of, InlineCode, is_continuation, with_kinds}
pub use Rattle.definition_text.specs.Lines.{after_return, ends_line, first_of, has_mark, in_first_line, kind_before_text, lines, text_line, TextLine}
pub use Rattle.definition_text.specs.Lines.{without_mark}
pub use Rattle.definition_text.specs.Runs.{after_run, run}
pub use Rattle.markdown_options.specs.LineEndings.{ending_bytes}
pub use Rattle.markdown_options.specs.declared.align_kind.AlignKind.{AlignKind}
pub use Rattle.markdown_options.specs.declared.beside.Beside.{Beside}
pub use Rattle.markdown_options.specs.declared.beside.Kind.{Kind}
pub use Rattle.markdown_compile_options.specs.declared.configuration.CompileOptions.{CompileOptions}
pub use Rattle.markdown_options.specs.declared.configuration.Constructs.{Constructs}
pub use Rattle.markdown_options.specs.declared.configuration.ParseOptions.{ParseOptions}
pub use Rattle.markdown_options.specs.declared.line_ending.LineEnding.{LineEnding}
pub use Rattle.laws_endings.specs.Endings.{block_with, blocks_with, byte_with, code_with, codes_with, definition_with, ending_with, if_ending_with}
pub use Rattle.laws_endings.specs.Endings.{leaf_block_with, line_with, lines_with, text_line_with, with_ending}
pub use Rattle.laws_endings.specs.Inlines.{content_with, inline_code_with, inline_with, inlines_with, leaf_with, target_with}
pub use Rattle.laws_endings.specs.Kinds.{AreAlike, counts_after, goes_on, IsAlike, may_mark}
pub use Rattle.laws_endings.specs.PageLaws.{HasNoFeed, HaveNoFeeds}
