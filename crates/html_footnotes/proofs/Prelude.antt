-- What several proofs of this crate import of other crates and of its own specs.
pub use Rattle.std.proofs.lemmas.List.{append-nil, get_or_default, length-map}
pub use Rattle.std.proofs.lemmas.List.Concat.{flat_map-append}
pub use Rattle.std.proofs.lemmas.List.Sums.{fold-append}
pub use Rattle.std.proofs.lemmas.Result.{on_ok_weaker}
pub use Rattle.std.specs.List.{fold}
pub use Rattle.std.specs.Prelude.{OnOk}
pub use Rattle.definition_page.specs.GfmFootnoteDefinition.{arrow, back_pieces, back_tag, backs_pieces, count_pieces, footnotes_pieces, heading_pieces}
pub use Rattle.definition_page.specs.GfmFootnoteDefinition.{section_heading_name, section_heading_tag, space_after, with_backs}
pub use Rattle.definition_page.specs.GfmLabelStartFootnote.{Call, call_id, footnote_id}
pub use Rattle.definition_page.specs.OptionTexts.{text_or}
pub use Rattle.definition_page.specs.Pieces.{Close, Fresh, print}
pub use Rattle.definition_page.specs.Tags.{bare_tag, start_tag}
pub use Rattle.definition_text.specs.Encode.{encode, plain}
pub use Rattle.definition_text.specs.Lines.{ends_line}
pub use Rattle.html_bytes.specs.InlineHtml.{say_bytes}
pub use Rattle.html_bytes.specs.Layout.{latest_call, note_of, NoteCalls, once_more}
pub use Rattle.html_bytes.specs.Pieces.{pieces_html}
pub use Rattle.markdown_options.specs.LineEndings.{ending_bytes}
pub use Rattle.markdown_compile_options.specs.declared.configuration.CompileOptions.{CompileOptions}
pub use Rattle.html_footnotes.specs.Calls.{AreNumbers, called_view, number_of, with_one_more}
pub use Rattle.html_footnotes.specs.Footnotes.{call_view, note_view}
pub use Rattle.html_footnotes.specs.declared.calls.CalledFootnote.{CalledFootnote}
pub use Rattle.html_footnotes.specs.declared.gfm_footnote_definition.Footnote.{Footnote}
