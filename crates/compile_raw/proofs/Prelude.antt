-- What several proofs of this crate import of other crates and of its own specs.
pub use Rattle.std.proofs.lemmas.Bool.{cond-false, cond-true}
pub use Rattle.std.proofs.lemmas.List.{append-nil}
pub use Rattle.std.specs.List.{flat_map, fold, repeat}
pub use Rattle.std.specs.Option.{IfSome}
pub use Rattle.std.specs.Prelude.{replicate}
pub use Rattle.std.specs.Result.{OnOk}
pub use Rattle.compile_written.specs.Strings.{valid}
pub use Rattle.compile_written.specs.Texts.{IsTextNode}
pub use Rattle.definition_inline.specs.CharacterReference.{Names}
pub use Rattle.definition_page.specs.BlockPieces.{info_attributes, leaf_block_pieces}
pub use Rattle.definition_page.specs.Page.{FencedCode}
pub use Rattle.definition_page.specs.Tags.{attribute_bytes}
pub use Rattle.definition_text.specs.BlockLines.{BlockLine}
pub use Rattle.definition_text.specs.Encode.{encode}
pub use Rattle.engine_events.specs.Names.{same_name}
pub use Rattle.engine_events.specs.declared.event.Event.{Event}
pub use Rattle.engine_events.specs.declared.event.Name.{Name}
pub use Rattle.event_grammar.specs.InGrammar.{kids_of, node_name}
pub use Rattle.event_grammar.specs.Points.{bytes_between, spot_of}
pub use Rattle.event_grammar.specs.Trees.{AreNodes, Around, Cons, events_of, IsNode, Nil, Node, node_events, Nodes}
pub use Rattle.event_grammar.specs.declared.spot.Spot.{Spot}
pub use Rattle.event_meaning.specs.Blocks.{info_of}
pub use Rattle.event_meaning.specs.Children.{after_child, before_child, child, children, columns_after, ends_in, kids_in, text_of}
pub use Rattle.event_meaning.specs.GfmTable.{endings_in}
pub use Rattle.event_meaning.specs.Raw.{Chunk, fenced_lines, raw_lines, raw_part, raw_parts, RawPart, without_first_end}
pub use Rattle.html_bytes.proofs.SameLayout.{add_add, add_nil}
pub use Rattle.html_bytes.specs.Layout.{lay, LayoutState}
pub use Rattle.html_bytes.specs.Pieces.{in_bytes}
pub use Rattle.html_leaves.specs.CodeLines.{code_of, html_of}
pub use Rattle.html_leaves.specs.Prints.{KeepsEnding, layout_after, page_view, with_bytes, with_fresh, with_tag}
pub use Rattle.markdown_options.specs.LineEndings.{ending_bytes}
pub use Rattle.markdown_compile_options.specs.declared.configuration.CompileOptions.{CompileOptions}
pub use Rattle.markdown_options.specs.declared.line_ending.LineEnding.{LineEnding}
pub use Rattle.compile_raw.specs.Endings.{endings_bytes}
pub use Rattle.compile_raw.specs.Raw.{fenced_close, fenced_end, has_any, last_end, lines_behind, part_bytes, part_view, passed}
pub use Rattle.compile_raw.specs.Sound.{AreSound, HaveNoChunk, IsSound}
pub use Rattle.compile_raw.specs.declared.raw.CodePart.{CodePart}
pub use Rattle.compile_raw.specs.declared.raw.Passed.{Passed}
