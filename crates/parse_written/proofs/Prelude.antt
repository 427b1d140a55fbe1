-- What several proofs of this crate import of other crates and of its own specs.
pub use Rattle.std.proofs.Math.Seq.{take-append_seam}
pub use Rattle.std.proofs.lemmas.Bool.{and_parts, both_ways, cases_Bool, cond-false, cond-true, cond_both, eqb-true, or_cases, true≢false}
pub use Rattle.std.proofs.lemmas.Grind.{common_steps}
pub use Rattle.std.proofs.lemmas.List.{append-nil, drop-drop, length-append, reverse-append, reverse-reverse, take-append-drop}
pub use Rattle.std.proofs.lemmas.Slice.Eq.{bytes_eq-Decides}
pub use Rattle.std.specs.Char.{is_ascii_punctuation}
pub use Rattle.std.specs.List.{prefix_len}
pub use Rattle.std.specs.Prelude.{codes, nat_le, ◌==◌}
pub use Rattle.definition_inline.proofs.InlineSizes.{here_fits}
pub use Rattle.definition_inline.proofs.Markers.{of_marker}
pub use Rattle.definition_inline.proofs.Scanning.{drop-codes_of}
pub use Rattle.definition_inline.specs.Attention.{has_span_size, is_marker, is_whole, Run, run_size}
pub use Rattle.definition_inline.specs.Autolink.{autolink_after, autolink_at, closed_autolink, email_end, uri_end}
pub use Rattle.definition_inline.specs.CharacterEscape.{escape_at}
pub use Rattle.definition_inline.specs.CharacterReference.{CharacterReference, Names, reference_after, reference_at, reference_form, reference_leaf}
pub use Rattle.definition_inline.specs.CharacterReference.{reference_of, reference_text}
pub use Rattle.definition_inline.specs.CodeText.{code_text, code_text_at, raw_at, raw_leaf, raw_part, run_of}
pub use Rattle.definition_inline.specs.GfmAutolinkLiteral.{literal_at, with_literals}
pub use Rattle.definition_inline.specs.HardBreak.{ends_here, escaped_break_at, is_trailing_break, line_end_at, line_spaces_at}
pub use Rattle.definition_inline.specs.HtmlText.{html_byte, html_end, html_leaf, html_text_at}
pub use Rattle.definition_inline.specs.Inline.{Autolink, Character, Code, Data, Emphasis, Escape, EscapedBreak, followed_by, Found, Html, Image, Inline}
pub use Rattle.definition_inline.specs.Inline.{InlineLeaf, Inlines, Leaf, leaf, LineEnd, Link, Literal, LiteralKind, Math, Nil, or_else, Span, SpanKind}
pub use Rattle.definition_inline.specs.Inline.{Strong, TrailingBreak}
pub use Rattle.definition_inline.specs.LabelEnd.{LinkTail}
pub use Rattle.definition_inline.specs.MathText.{math_text_at, may_open_math}
pub use Rattle.definition_inline.specs.NextPair.{run_by_place}
pub use Rattle.definition_inline.specs.Pairing.{Pair, pairs}
pub use Rattle.definition_inline.specs.Scan.{InlineContext, leaf_at, leaf_here, leaf_tokens, spans_from}
pub use Rattle.definition_inline.specs.Spans.{Delimiters, Item, Token, with_spans}
pub use Rattle.definition_text.proofs.Each.{Each, each-append, where_passed, WhereSome}
pub use Rattle.definition_text.specs.Bytes.{after_all, begins_with}
pub use Rattle.definition_text.specs.Columns.{bare, indent, is_white}
pub use Rattle.definition_text.specs.Content.{is_eol, Part, part, text_before, up_to}
pub use Rattle.definition_text.specs.InlineCode.{codes_of, InlineCode}
pub use Rattle.definition_text.specs.Runs.{after_run, run}
pub use Rattle.markdown_options.specs.declared.configuration.Constructs.{Constructs}
pub use Rattle.markdown_options.specs.declared.configuration.ParseOptions.{ParseOptions}
pub use Rattle.parse_written.specs.Written.{AreCodes, AreSpaces, AreWritten, AsCall, AsLeaf, AsLinked, AsSpan, EndNoLine, EndsLinked, IsFound, IsLeafWritten}
pub use Rattle.parse_written.specs.Written.{IsSequence, IsWritten, linked_start, More, Nothing, Spaces, StartsSpan}
