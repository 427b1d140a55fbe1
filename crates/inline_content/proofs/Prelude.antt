-- What several proofs of this crate import of other crates and of its own specs.
pub use Rattle.std.proofs.lemmas.Bool.{and_parts, and_right, cases_Bool, cases_lt, cond-false, cond-true, eq-eqb, eqb-true, le-ltb, lt-ltb, ltb-true, ne_eqb}
pub use Rattle.std.proofs.lemmas.Bool.{or_cases, or_from, or_parts, true≢false}
pub use Rattle.std.proofs.lemmas.List.{append-nil, drop_all, drop_at, length-append, take-append-drop}
pub use Rattle.std.specs.List.{flat_map, prefix_len}
pub use Rattle.std.specs.List.Sorted.{IsNonDecreasingBy}
pub use Rattle.std.specs.Prelude.{map}
pub use Rattle.std.specs.Str.{IsUtf8}
pub use Rattle.definition_inline.specs.Attention.{is_marker, run_between}
pub use Rattle.definition_text.specs.BlockLines.{BlockLine, last_ending, own_lines}
pub use Rattle.definition_text.specs.Columns.{code_byte}
pub use Rattle.definition_text.specs.Content.{content_codes, content_text, is_eol, line_text}
pub use Rattle.definition_text.specs.InlineCode.{character_kind, codes_of, first_kind, inline_code, inline_content, InlineCode}
pub use Rattle.definition_text.specs.Lines.{ending_text, ends_line}
pub use Rattle.markdown_options.specs.LineEndings.{ending_bytes}
pub use Rattle.markdown_options.specs.declared.beside.Kind.{Kind}
pub use Rattle.markdown_options.specs.declared.line_ending.LineEnding.{LineEnding}
pub use Rattle.text_pieces.specs.ParagraphLines.{HaveNoEnding}
pub use Rattle.text_pieces.specs.Pieces.{piece_lines}
pub use Rattle.text_pieces.specs.declared.piece.Piece.{Piece}
pub use Rattle.inline_content.specs.Endings.{without_last}
pub use Rattle.inline_content.specs.Lines.{mark_of, marks_of}
pub use Rattle.inline_content.specs.Marks.{kind_at, mark_place}
pub use Rattle.inline_content.specs.View.{codes_with_marks, kind_after, kind_before, kind_between, line_rest, previous_after, previous_from, view_from, width}
pub use Rattle.inline_content.specs.declared.mark.Mark.{Mark}
