-- What several proofs of this crate import of other crates and of its own specs.
pub use Rattle.std.proofs.lemmas.Bool.{and_parts, both_ways, cases_Bool, cond-false, cond-true, cond_both, eqb-true, ltb-true, ne_eqb, not-true, or_from}
pub use Rattle.std.proofs.lemmas.Bool.{or_parts}
pub use Rattle.std.proofs.lemmas.List.{append-nil, map-append}
pub use Rattle.std.proofs.lemmas.List.Concat.{flat_map-append}
pub use Rattle.std.specs.Char.{is_ascii_punctuation}
pub use Rattle.std.specs.List.{flat_map, fold, list_all, prefix_len, suffix_len}
pub use Rattle.std.specs.Option.{option_and_then}
pub use Rattle.std.specs.Prelude.{codes, nat_le, nat_lt, ◌==◌}
pub use Rattle.definition_block.specs.Frontmatter.{after_frontmatter}
pub use Rattle.definition_block.specs.ListItem.{after_number, is_digit}
pub use Rattle.definition_block.specs.Tree.{At, beside_line, Blank, block_and_ending, blocks, blocks_at_end, children_after, close_leaf, empty_tree, grow}
pub use Rattle.definition_block.specs.Tree.{join, Leaf, leaf_line, new, Nil, nothing, one, Opening, Paragraph, rest_line, step, Text, text_line_of, Tree, tree}
pub use Rattle.definition_inline.specs.CharacterEscape.{escape_at}
pub use Rattle.definition_inline.specs.CharacterReference.{reference_at}
pub use Rattle.definition_inline.specs.GfmAutolinkLiteral.{parts_before}
pub use Rattle.definition_inline.specs.HardBreak.{ends_here, line_end_at, line_spaces_at}
pub use Rattle.definition_inline.specs.Inline.{Cons, Data, Escape, Found, InlineLeaf, Inlines, leaf, LineEnd, or_else}
pub use Rattle.definition_inline.specs.Scan.{InlineContext, inlines, leaf_at, leaf_here, Next, read_tokens, Reading, reading, scan, text, whole_text}
pub use Rattle.definition_inline.specs.Spans.{Item, Token, with_spans}
pub use Rattle.definition_page.specs.InlinePieces.{inline_pieces, Meaning}
pub use Rattle.definition_page.specs.Read.{on_page}
pub use Rattle.definition_page.specs.TextTables.{TextTables}
pub use Rattle.definition_text.specs.BlockLines.{block_line, BlockLine}
pub use Rattle.definition_text.specs.Bytes.{begins_with}
pub use Rattle.definition_text.specs.Columns.{bare, block_codes, bytes_of, codes_from, indent, is_blank, is_byte, is_tab_column, is_white, Rest, trim}
pub use Rattle.definition_text.specs.Content.{is_eol}
pub use Rattle.definition_text.specs.Encode.{encode, encoded_byte}
pub use Rattle.definition_text.specs.InlineCode.{codes_of, inline_content, InlineCode}
pub use Rattle.definition_text.specs.Lines.{ending_text, ends_line, has_mark, in_first_line, kind_before_text, lines, text_line}
pub use Rattle.definition_text.specs.Runs.{run}
pub use Rattle.html_bytes.proofs.SameLayout.{add}
pub use Rattle.html_bytes.proofs.SamePage.{html_is}
pub use Rattle.html_bytes.proofs.WithoutCalls.{AddsBytes, has_calls, without_calls}
pub use Rattle.html_bytes.specs.Document.{Document, document, document_meaning, reading_of, text_of}
pub use Rattle.html_bytes.specs.Html.{blocks_html, leaf_bytes, marked_html, text_ending}
pub use Rattle.html_bytes.specs.InlineHtml.{inline_html, leaf_html}
pub use Rattle.html_bytes.specs.Layout.{lay, page_layout, with_footnotes}
pub use Rattle.html_bytes.specs.Pieces.{Bytes, Fresh, Piece}
pub use Rattle.markdown_options.specs.Defaults.{no_constructs}
pub use Rattle.markdown_options.specs.LineEndings.{ending_bytes}
pub use Rattle.markdown_options.specs.declared.beside.Beside.{Beside}
pub use Rattle.markdown_options.specs.declared.beside.Kind.{Kind}
pub use Rattle.markdown_compile_options.specs.declared.configuration.CompileOptions.{CompileOptions}
pub use Rattle.markdown_options.specs.declared.configuration.Constructs.{Constructs}
pub use Rattle.markdown_compile_options.specs.declared.configuration.Options.{Options}
pub use Rattle.markdown_options.specs.declared.line_ending.LineEnding.{LineEnding}
pub use Rattle.laws_escape.specs.Escaped.{is_line_byte, IsTrimmedLine, with_backslashes}
