-- What several proofs of this crate import of other crates and of its own specs.
pub use Rattle.std.proofs.lemmas.Bool.{and_cases, and_parts, cases_Bool, cases_lt, cond-false, cond-true, eqb-false, eqb-true, leb-false, ne_eqb, not-false}
pub use Rattle.std.proofs.lemmas.Bool.{not-true, or_cases, or_from, true≢false}
pub use Rattle.std.proofs.lemmas.List.{append-nil, length-drop, take_all, take_more}
pub use Rattle.std.proofs.lemmas.List.Concat.{flat_map-append}
pub use Rattle.std.proofs.lemmas.List.Sums.{fold-append, prefix_len-le-length, prefix_len_stops}
pub use Rattle.std.proofs.lemmas.Result.{on_ok_weaker}
pub use Rattle.std.proofs.lemmas.Str.{IsCharBoundary-before_ascii, IsCharBoundary-end}
pub use Rattle.std.specs.List.{flat_map, fold, prefix_len}
pub use Rattle.std.specs.Prelude.{map, OnOk, reverse}
pub use Rattle.std.specs.Str.{IsCharBoundary}
pub use Rattle.definition_inline.specs.Inline.{Call, Cons, Data, Escape, Inline, InlineLeaf, Inlines, Leaf, Linked, LinkTexts, Nil, Span, Target}
pub use Rattle.definition_inline.specs.LabelMatch.{first_match, normal_label, place_of}
pub use Rattle.definition_inline.specs.Strings.{begins_with_eol, string_bytes}
pub use Rattle.definition_inline.specs.Targets.{leads_to}
pub use Rattle.definition_page.specs.GfmTable.{cell_code, in_cell, part_in_cell}
pub use Rattle.definition_page.specs.GfmTaskListItem.{checkable_attributes, done_attributes}
pub use Rattle.definition_page.specs.InlinePieces.{call_at, count_at, html_lines, html_says, HtmlLine, image_tag, inline_counts, link_tag, Meaning}
pub use Rattle.definition_page.specs.InlinePieces.{part_counts}
pub use Rattle.definition_page.specs.Pieces.{Piece}
pub use Rattle.definition_page.specs.Tags.{attribute_bytes, end_tag, PrintedPart, said_bytes, start_tag, void_tag}
pub use Rattle.definition_text.specs.Columns.{bare, indent, is_white}
pub use Rattle.definition_text.specs.Content.{content_codes, is_eol, line_ending_code}
pub use Rattle.definition_text.specs.Encode.{encode, encoded_byte}
pub use Rattle.html_bytes.proofs.SameText.{laid_both}
pub use Rattle.html_bytes.specs.InlineHtml.{leaf_description, leaf_html, say_bytes}
pub use Rattle.html_bytes.specs.Layout.{lay, LayoutState, with_text}
pub use Rattle.html_bytes.specs.Pieces.{CallOf, CountOf, in_bytes}
pub use Rattle.html_bytes.specs.RawHtml.{raw_bytes}
pub use Rattle.html_footnotes.specs.Output.{output_view}
pub use Rattle.html_heading_text.specs.CodeBytes.{is_in_line}
pub use Rattle.html_heading_text.specs.Forms.{form_bytes}
pub use Rattle.inline_labels.specs.Table.{HasLabels}
pub use Rattle.inline_leaves.proofs.Codes.{at_return, plain_code}
pub use Rattle.inline_leaves.specs.Leaves.{parts_of}
pub use Rattle.inline_rows.specs.InlineRows.{EnterLinked, EnterSpan, inline_rows, Leave, Part, part_rows}
pub use Rattle.inline_rows.specs.View.{data_rows, line_leaf, lines_rows, row_view, rows_view, spelled_view, target_texts}
pub use Rattle.inline_rows.specs.declared.row.InlineRow.{InlineRow}
pub use Rattle.markdown_compile_options.specs.declared.configuration.CompileOptions.{CompileOptions}
pub use Rattle.markdown_options.specs.declared.line_ending.LineEnding.{LineEnding}
pub use Rattle.html_inline.specs.Counts.{rows_counts}
pub use Rattle.html_inline.specs.GfmTable.{bar_escape_at, leaf_in, parts_in_cell, row_printed_in}
pub use Rattle.html_inline.specs.HtmlBytes.{ends, first_bytes, later_bytes, PrintsEnding}
pub use Rattle.html_inline.specs.Kept.{is_ink, kept_size, text_of}
pub use Rattle.html_inline.specs.Opens.{opened_view, place_target, printed_of}
pub use Rattle.html_inline.specs.Printed.{call_row, enter, image_end, image_start, is_described, laid_out, leaves_bytes, new_part, OpenElement, printed_at}
pub use Rattle.html_inline.specs.Printed.{PrintState, with_more, with_row}
pub use Rattle.html_inline.specs.Prints.{meaning_by}
pub use Rattle.html_inline.specs.declared.stack.OpenPart.{OpenPart}
