-- What several proofs of this crate import of other crates and of its own specs.
pub use Rattle.std.proofs.Math.Seq.{drop-append_seam}
pub use Rattle.std.proofs.lemmas.Bool.{and_parts}
pub use Rattle.std.proofs.lemmas.List.{length-append}
pub use Rattle.std.specs.List.{fold, position_or_len}
pub use Rattle.std.specs.Prelude.{min}
pub use Rattle.std.specs.declared.vec.Vec.{Vec}
pub use Rattle.compile_blocks.specs.Leaf.{first_pieces, is_leaf}
pub use Rattle.compile_blocks.specs.declared.printer.LeafPlace.{LeafPlace}
pub use Rattle.compile_levels.specs.Kinds.{kind_of}
pub use Rattle.compile_levels.specs.Levels.{begins, is_document as level_document, passed as level_passed}
pub use Rattle.compile_levels.specs.Siblings.{Reads}
pub use Rattle.compile_levels.specs.declared.kind.BlockKind.{BlockKind}
pub use Rattle.compile_levels.specs.declared.level.Level.{Level}
pub use Rattle.compile_raw.proofs.Sound.{first_sound}
pub use Rattle.compile_safe_page.proofs.SafeHtml.{safe_events_law}
pub use Rattle.compile_written.proofs.CheckedNodes.{checked_nodes}
pub use Rattle.compile_written.specs.GfmFootnoteDefinition.{container_names}
pub use Rattle.compile_written.specs.List.{is_list, loose_lists, node_lists}
pub use Rattle.compile_written.specs.Within.{AreWithin}
pub use Rattle.definition_block.specs.ListItem.{number_of}
pub use Rattle.definition_inline.specs.CharacterReference.{Names}
pub use Rattle.definition_page.specs.BlockPieces.{block_pieces, children_pieces, fresh_unless}
pub use Rattle.definition_page.specs.InlinePieces.{Meaning}
pub use Rattle.definition_page.specs.Pieces.{Piece}
pub use Rattle.definition_text.specs.Lines.{first_line, without_mark}
pub use Rattle.engine_events.specs.Names.{is_listed, same_name}
pub use Rattle.engine_events.specs.contracts.event.Name.{the_type}
pub use Rattle.engine_events.specs.declared.event.Event.{Event}
pub use Rattle.engine_events.specs.declared.event.Name.{Name}
pub use Rattle.event_check.specs.Loose.{is_loose_list}
pub use Rattle.event_check.specs.Matches.{MatchesGrammar}
pub use Rattle.event_grammar.specs.Facts.{are_digits}
pub use Rattle.event_grammar.specs.InGrammar.{node_name, PlacesFit}
pub use Rattle.event_grammar.specs.Points.{spot}
pub use Rattle.event_grammar.specs.Trees.{AreNodes, Around, Cons, events_of, Nil, Node, Nodes, tree}
pub use Rattle.event_meaning.proofs.Steps.{passed_events, passes, spelled_by, with_siblings}
pub use Rattle.event_meaning.specs.Blocks.{block_of, blocks_from, blocks_of, list_number, one, start_of}
pub use Rattle.event_meaning.specs.Children.{ends_in, kids_in, text_of}
pub use Rattle.event_meaning.specs.Left.{closing, counts, Document, first_name, Footnote, Frame, frame_pieces, has_begun, Holder, is_document, Item}
pub use Rattle.event_meaning.specs.Left.{left_events, left_pieces, ListOf, new_frame, opening, passed, place_of, Quote, sibling_of}
pub use Rattle.event_meaning.specs.Spelled.{page_of}
pub use Rattle.html_bytes.specs.Layout.{LayoutState}
pub use Rattle.html_bytes.specs.Pieces.{in_bytes}
pub use Rattle.html_leaves.specs.Prints.{KeepsEnding, layout_after, page_view}
pub use Rattle.laws_safe_page.specs.SafeHtml.{HasOneReadingBy, table_of}
pub use Rattle.markdown_options.specs.LineEndings.{ending_bytes}
pub use Rattle.markdown_options.specs.declared.line_ending.LineEnding.{LineEnding}
pub use Rattle.text_search.specs.Pairs.{is_of_pair}
pub use Rattle.compile_html.specs.Containers.{HoldsLists, lists_before}
pub use Rattle.compile_html.specs.Frames.{after_spelled, AreOpen, HasChildren, HasExit, holder_of, holder_view, left_lists, level_of}
pub use Rattle.compile_html.specs.Going.{GoesOn, page_after}
pub use Rattle.compile_html.specs.Numbers.{HasNumber, HaveNumbers}
pub use Rattle.compile_html.specs.Opened.{Opened, opened, within}
pub use Rattle.compile_html.specs.Views.{next_loose, opened_of, Prints}
pub use Rattle.compile_html.specs.declared.printer.Printer.{Printer}
