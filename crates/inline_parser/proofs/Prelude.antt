-- What several proofs of this crate import of other crates and of its own specs.
pub use Rattle.std.proofs.lemmas.Bool.{and_parts, cond-false, cond-true, eqb-true, true≢false}
pub use Rattle.std.proofs.lemmas.List.{append-nil, length-map}
pub use Rattle.std.proofs.lemmas.Str.{IsCharBoundary-after_ascii}
pub use Rattle.std.specs.List.{All, prefix_len}
pub use Rattle.std.specs.Str.{IsUtf8}
pub use Rattle.definition_inline.proofs.Scanning.{drop-codes_of}
pub use Rattle.definition_inline.specs.Attention.{run_at}
pub use Rattle.definition_inline.specs.GfmAutolinkLiteral.{with_literals}
pub use Rattle.definition_inline.specs.Inline.{InlineLeaf, Leaf, leaf}
pub use Rattle.definition_inline.specs.LabelEnd.{formed_size, LinkOrCall}
pub use Rattle.definition_inline.specs.Scan.{formed_at, InlineContext, label_start_at, leaf_here, read_tokens, spans_from, start_bytes, start_more, whole_text}
pub use Rattle.definition_inline.specs.Spans.{Delimiters, Item, with_spans}
pub use Rattle.definition_inline.specs.Targets.{labels_of, leads_to, linked_at, linked_by, Targets}
pub use Rattle.definition_text.specs.Columns.{is_white}
pub use Rattle.definition_text.specs.Content.{content_codes}
pub use Rattle.definition_text.specs.Encode.{encode}
pub use Rattle.definition_text.specs.InlineCode.{codes_of, InlineCode}
pub use Rattle.inline_content.proofs.Views.{codes_of_view}
pub use Rattle.inline_content.specs.View.{content_view, view_at}
pub use Rattle.inline_content.specs.declared.content.Content.{Content}
pub use Rattle.inline_label_ends.specs.Ends.{IsAfterEnd, IsFormed}
pub use Rattle.inline_label_ends.specs.declared.gfm_label_start_footnote.LabelForm.{LabelForm}
pub use Rattle.inline_leaves.proofs.Codes.{plain_code}
pub use Rattle.inline_leaves.specs.Leaves.{found_leaf, IsAfter, leaf_items, parts_of, size_before, text_items}
pub use Rattle.inline_leaves.specs.Scanned.{leaf_in}
pub use Rattle.inline_links.specs.Codes.{IsRest}
pub use Rattle.inline_reading.specs.Shows.{ended_here, formed_in, Shows, start_view, unformed_in, with_open_label}
pub use Rattle.inline_reading.specs.declared.label.LabelStart.{LabelStart}
pub use Rattle.inline_reading.specs.declared.label.OpenLabel.{OpenLabel}
pub use Rattle.inline_rows.specs.InlineRows.{inline_rows}
pub use Rattle.inline_rows.specs.View.{row_view, rows_view}
pub use Rattle.inline_runs.specs.View.{run_view}
pub use Rattle.inline_text.proofs.Verbatim.{front_bare, front_same}
pub use Rattle.markdown_options.specs.declared.configuration.Constructs.{Constructs}
pub use Rattle.markdown_options.specs.declared.configuration.ParseOptions.{ParseOptions}
pub use Rattle.inline_parser.specs.Scanned.{context_by, IsPlace}
