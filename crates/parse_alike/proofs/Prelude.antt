-- What several proofs of this crate import of other crates and of its own specs.
pub use Rattle.std.proofs.lemmas.Bool.{and_parts, cond_both, false≢true, true≢false}
pub use Rattle.std.proofs.lemmas.Grind.{flat_map-append}
pub use Rattle.std.proofs.lemmas.List.{append-nil, map-append}
pub use Rattle.std.specs.List.{list_all}
pub use Rattle.std.specs.Prelude.{unwrap_or}
pub use Rattle.definition_inline.specs.Definition.{Definition}
pub use Rattle.definition_inline.specs.Inline.{Call, Cons, Html, Inline, InlineLeaf, Inlines, Leaf, LineEnd, Link, Linked, LinkTexts, Nil, Reference, Resource}
pub use Rattle.definition_inline.specs.Inline.{Span, Target}
pub use Rattle.definition_inline.specs.LabelMatch.{first_match, normal_label, place_of}
pub use Rattle.definition_inline.specs.Strings.{string_text}
pub use Rattle.definition_inline.specs.Targets.{leads_to}
pub use Rattle.definition_page.specs.BlockPieces.{code_line, html_line, says}
pub use Rattle.definition_page.specs.InlinePieces.{element, html_says, image_tag, inline_counts, inline_pieces, leaf_pieces, leaf_says, link_tag, Meaning}
pub use Rattle.definition_page.specs.InlinePieces.{raw_html}
pub use Rattle.definition_page.specs.Page.{Blocks, Page}
pub use Rattle.definition_page.specs.Pieces.{Close, Fresh, NoteEnd, NoteStart, Piece, Says}
pub use Rattle.definition_page.specs.Read.{after_leaf, in_container, next_standing, read, read_block, read_blocks, read_container, Reading, Standing}
pub use Rattle.definition_page.specs.Read.{standing_in, without_ending}
pub use Rattle.definition_page.specs.Tags.{bare_tag, PrintedPart, said_bytes, start_tag, tag, Tag, void_tag, Words}
pub use Rattle.definition_page.specs.TextTables.{TextTables}
pub use Rattle.definition_text.proofs.Each.{Each, each-append, each-drop}
pub use Rattle.definition_text.specs.BlockLines.{BlockLine}
pub use Rattle.definition_text.specs.Columns.{bytes_of, Code, code_byte}
pub use Rattle.definition_text.specs.Content.{line_text}
pub use Rattle.definition_text.specs.Lines.{ending_text, without_mark}
pub use Rattle.event_meaning.specs.Texts.{append, leaves}
pub use Rattle.markdown_options.specs.LineEndings.{ending_bytes}
pub use Rattle.markdown_compile_options.specs.declared.configuration.CompileOptions.{CompileOptions}
pub use Rattle.markdown_options.specs.declared.line_ending.LineEnding.{LineEnding}
pub use Rattle.parse_alike.specs.BlockLines.{AreCodeLinesAlike, AreHtmlLinesAlike, has_lines, html_end, html_parts, html_text, HtmlPart}
pub use Rattle.parse_alike.specs.HtmlText.{html_leaves}
pub use Rattle.parse_alike.specs.Inline.{ArePartsAlike, IsPartAlike, leaf_parts}
pub use Rattle.parse_alike.specs.Page.{AreAlikeAfterFront, AreBlocksAlike, AreContainersAlike, ArePagesAlike, IsBlockAlike}
pub use Rattle.parse_alike.specs.Strings.{IsOfBytes}
pub use Rattle.parse_alike.specs.Targets.{AreDefinitionsAlike, AreFootnotesAlike, AreLabelsAlike, AreLinksAlike, AreMeaningsAlike, AreTargetsAlike, title_text}
