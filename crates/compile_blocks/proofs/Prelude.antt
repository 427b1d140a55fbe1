-- What several proofs of this crate import of other crates and of its own specs.
pub use Rattle.std.specs.List.{flat_map, fold}
pub use Rattle.std.specs.Option.{MatchOption}
pub use Rattle.std.specs.Result.{OnOk}
pub use Rattle.compile_levels.specs.Children.{IsChildOf}
pub use Rattle.compile_levels.specs.Kinds.{kind_of}
pub use Rattle.compile_levels.specs.declared.node.Sibling.{Sibling}
pub use Rattle.compile_raw.proofs.Children.{first_none}
pub use Rattle.compile_raw.proofs.Sound.{after_sound, before_sound, child_sound, kids_sound}
pub use Rattle.compile_raw.specs.Sound.{AreSound}
pub use Rattle.compile_rows.specs.Columns.{AreCounted}
pub use Rattle.compile_rows.specs.Texts.{HaveEndings}
pub use Rattle.compile_written.specs.Texts.{AreTexts}
pub use Rattle.definition_inline.specs.CharacterReference.{Names}
pub use Rattle.definition_inline.specs.Definition.{Definition}
pub use Rattle.definition_inline.specs.Inline.{Inlines}
pub use Rattle.definition_inline.specs.Targets.{labels_of, leads_to, linked_at, linked_by}
pub use Rattle.definition_page.specs.BlockPieces.{leaf_block_pieces}
pub use Rattle.definition_page.specs.GfmTable.{body_pieces, cell_pieces, cells_pieces, endings_pieces, head_pieces, in_cell, row_pieces, Table}
pub use Rattle.definition_page.specs.InlinePieces.{element, inline_counts, inline_pieces, Meaning}
pub use Rattle.definition_page.specs.Page.{Heading, PageLeaf}
pub use Rattle.definition_page.specs.Pieces.{Fresh, Piece}
pub use Rattle.definition_page.specs.Tags.{bare_tag, end_tag}
pub use Rattle.engine_events.specs.declared.event.Event.{Event}
pub use Rattle.engine_events.specs.declared.event.Name.{Name}
pub use Rattle.event_check.specs.Loose.{IsAt}
pub use Rattle.event_grammar.specs.InGrammar.{kids_of, PlacesFit}
pub use Rattle.event_grammar.specs.Trees.{AreNodes, Around, events_of, Node, Nodes}
pub use Rattle.event_meaning.specs.Blocks.{code_fenced_of, heading_atx_of, heading_setext_of, math_flow_of, one}
pub use Rattle.event_meaning.specs.Children.{after_child, before_child, child, inside_of, kids_in, text_in}
pub use Rattle.event_meaning.specs.GfmTable.{cell_of, endings_in, row_of}
pub use Rattle.event_meaning.specs.Raw.{ending_of, raw_lines, raw_parts}
pub use Rattle.event_meaning.specs.Texts.{inlines_of}
pub use Rattle.html_bytes.specs.Layout.{lay, LayoutState}
pub use Rattle.html_bytes.specs.Pieces.{in_bytes}
pub use Rattle.html_footnotes.specs.Output.{output_view}
pub use Rattle.html_inline.specs.GfmTable.{parts_in_cell}
pub use Rattle.html_inline.specs.Opens.{place_target}
pub use Rattle.html_inline.specs.Prints.{meaning_by}
pub use Rattle.html_leaves.proofs.LeafLaid.{after_pieces}
pub use Rattle.html_leaves.specs.GfmTable.{cell_name}
pub use Rattle.html_leaves.specs.Prints.{layout_after, page_view, with_bytes, with_fresh, with_tag}
pub use Rattle.inline_labels.specs.Table.{HasLabels}
pub use Rattle.inline_rows.specs.InlineRows.{inline_rows}
pub use Rattle.inline_rows.specs.View.{rows_view}
pub use Rattle.markdown_options.specs.LineEndings.{ending_bytes}
pub use Rattle.markdown_options.specs.declared.align_kind.AlignKind.{AlignKind}
pub use Rattle.markdown_options.specs.declared.line_ending.LineEnding.{LineEnding}
pub use Rattle.compile_blocks.specs.GfmTable.{cell_or_none, cells_in, more_rows_pieces, next_cell}
pub use Rattle.compile_blocks.specs.Leaf.{first_pieces}
pub use Rattle.compile_blocks.specs.Meant.{IsMeant}
pub use Rattle.compile_blocks.specs.Texts.{text_kids}
