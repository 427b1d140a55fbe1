-- What several proofs of this crate import of other crates and of its own specs.
pub use Rattle.std.proofs.lemmas.List.{append-nil, drop_all, drop_at, drop_more, length-append, length-drop, length-map, length-replicate, length-reverse}
pub use Rattle.std.proofs.lemmas.List.{length-take-le, take_at}
pub use Rattle.std.proofs.lemmas.List.Concat.{flat_map-append}
pub use Rattle.std.specs.List.{filter, flat_map}
pub use Rattle.std.specs.Prelude.{slice_index, ◌==◌}
pub use Rattle.definition_inline.specs.Inline.{Data, Inline, Leaf, LinkTexts, Target}
pub use Rattle.definition_inline.specs.Pairing.{Pair, pairs}
pub use Rattle.definition_inline.specs.SpanRows.{bytes_taken, Closes, Holds, Opens, run_rows, SpanRow}
pub use Rattle.definition_inline.proofs.SpanRows.{rows_from}
pub use Rattle.definition_inline.specs.Spans.{Delimiters, Item, runs_of, span_of, Token}
pub use Rattle.inline_runs.specs.Paired.{rows_of}
pub use Rattle.inline_runs.specs.View.{bytes_by, pair_view, run_view, runs_view}
pub use Rattle.inline_runs.specs.declared.run.Run.{Run}
pub use Rattle.inline_runs.specs.declared.spans.RunSpans.{RunSpans}
pub use Rattle.inline_rows.specs.Container.{AreBytes, Bytes, IsContainer, NoRows, Parts, text_of}
pub use Rattle.inline_rows.specs.InlineRows.{inline_rows, part_rows}
pub use Rattle.inline_rows.specs.Told.{rows_needed, span_row_rows, start_row, told_rows}
pub use Rattle.inline_rows.specs.View.{row_view, rows_view}
pub use Rattle.inline_rows.specs.declared.row.InlineRow.{InlineRow}
