-- What several proofs of this crate import of other crates and of its own specs.
pub use Rattle.std.proofs.lemmas.List.{map_more}
pub use Rattle.std.proofs.lemmas.List.Concat.{flat_map-append}
pub use Rattle.std.specs.Prelude.{[], map, replicate}
pub use Rattle.std.specs.Result.{OnOk}
pub use Rattle.definition_text.proofs.CodeBytes.{code_bytes}
pub use Rattle.definition_text.specs.BlockLines.{BlockLine, last_ending, own_lines}
pub use Rattle.definition_text.specs.Columns.{bytes_of, code_byte}
pub use Rattle.definition_text.specs.Encode.{encode}
pub use Rattle.definition_text.specs.Lines.{ending_text}
pub use Rattle.html_bytes.proofs.SameBlocks.{end_said}
pub use Rattle.html_bytes.specs.Layout.{LayoutState, with_text}
pub use Rattle.html_bytes.specs.RawHtml.{raw_bytes}
pub use Rattle.html_footnotes.specs.Output.{output_view}
pub use Rattle.markdown_compile_options.specs.Defaults.{default_compile_options}
pub use Rattle.markdown_options.specs.LineEndings.{ending_bytes}
pub use Rattle.markdown_compile_options.specs.declared.configuration.CompileOptions.{CompileOptions}
pub use Rattle.markdown_options.specs.declared.line_ending.LineEnding.{LineEnding}
pub use Rattle.text_pieces.proofs.OwnLines.{last_ending_more, lines_printed}
pub use Rattle.text_pieces.proofs.Pieces.{no_piece}
pub use Rattle.text_pieces.specs.Pieces.{piece_line, piece_lines}
pub use Rattle.html_leaves.specs.CodeLines.{code_of, html_of}
pub use Rattle.html_leaves.specs.Prints.{page_view, with_bytes, with_fresh, with_tag}
