-- What several proofs of this crate import of other crates and of its own specs.
pub use Rattle.std.proofs.lemmas.List.Concat.{flat_map-cons}
pub use Rattle.std.specs.List.{fold}
pub use Rattle.std.specs.Prelude.{OnOk}
pub use Rattle.definition_inline.specs.GfmTaskListItem.{check_size}
pub use Rattle.definition_inline.specs.Scan.{inlines, inlines_from}
pub use Rattle.definition_inline.specs.Targets.{linked_at, linked_by}
pub use Rattle.definition_page.specs.GfmTable.{in_cell}
pub use Rattle.definition_page.specs.Read.{context_of}
pub use Rattle.definition_page.specs.TextTables.{text_tables}
pub use Rattle.html_bytes.specs.Document.{document, reading_of, structure_pieces}
pub use Rattle.html_bytes.specs.Layout.{lay}
pub use Rattle.html_footnotes.specs.Output.{output_view}
pub use Rattle.html_inline.specs.GfmTable.{parts_in_cell}
pub use Rattle.html_inline.specs.Opens.{place_target}
pub use Rattle.inline_content.specs.View.{content_view, view_at}
pub use Rattle.inline_parser.specs.Found.{found_rows}
pub use Rattle.inline_rows.specs.View.{rows_view}
pub use Rattle.text_pieces.specs.Pieces.{piece_line}
pub use Rattle.html_contents.specs.Texts.{document_by}
