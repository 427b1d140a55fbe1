-- What several proofs of this crate import of other crates and of its own specs.
pub use Rattle.std.proofs.lemmas.List.{length-append, length-map}
pub use Rattle.std.proofs.lemmas.Option.{none-some}
pub use Rattle.std.specs.List.{flat_map}
pub use Rattle.std.specs.Prelude.{map}
pub use Rattle.definition_block.specs.Definitions.{cut_most, DefinitionCut}
pub use Rattle.definition_block.specs.Tree.{is_some_line}
pub use Rattle.definition_inline.proofs.DefinitionParts.{the_same}
pub use Rattle.definition_inline.specs.Definition.{definition_at}
pub use Rattle.definition_inline.specs.Space.{after_spaces}
pub use Rattle.definition_text.specs.BlockLines.{BlockLine, own_lines}
pub use Rattle.definition_text.specs.Columns.{code_byte}
pub use Rattle.definition_text.specs.Content.{content_codes, content_of, content_text, ending_code, line_text}
pub use Rattle.inline_links.proofs.Texts.{AreBytes}
pub use Rattle.markdown_options.specs.declared.line_ending.LineEnding.{LineEnding}
pub use Rattle.text_pieces.specs.ParagraphLines.{AreLines}
pub use Rattle.text_pieces.specs.Pieces.{piece_line, piece_lines}
pub use Rattle.text_pieces.specs.declared.piece.Piece.{Piece}
pub use Rattle.block_definitions.specs.Contents.{begins_label, total}
pub use Rattle.block_definitions.specs.Ends.{EndsAt}
