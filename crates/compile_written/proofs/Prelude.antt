-- What several proofs of this crate import of other crates and of its own specs.
pub use Rattle.std.proofs.lemmas.Bool.{cond-false, eqb-true, leb-true}
pub use Rattle.std.proofs.lemmas.List.{append-nil, length-drop, map-append, take_rest}
pub use Rattle.std.proofs.lemmas.List.Concat.{flat_map-append}
pub use Rattle.std.proofs.lemmas.Str.{is_utf8-from_IsUtf8, IsUtf8-from_is_utf8}
pub use Rattle.std.specs.Prelude.{map, nat_le, reverse, slice_index, unwrap_or}
pub use Rattle.std.specs.Str.{is_utf8, IsCharBoundary, IsUtf8}
pub use Rattle.definition_inline.specs.CharacterReference.{Names, number_of}
pub use Rattle.definition_inline.specs.Definition.{Definition}
pub use Rattle.definition_text.specs.Columns.{Code}
pub use Rattle.definition_text.specs.Content.{content_codes}
pub use Rattle.engine_events.specs.Names.{is_listed, same_name}
pub use Rattle.engine_events.specs.declared.event.Event.{Event}
pub use Rattle.engine_events.specs.declared.event.Kind.{Kind}
pub use Rattle.engine_events.specs.declared.event.Name.{Name}
pub use Rattle.event_check.proofs.LooseLaw.{less, nonzero}
pub use Rattle.event_grammar.proofs.NoEvent.{no_event}
pub use Rattle.event_grammar.specs.InGrammar.{kids_of, PlacesFit}
pub use Rattle.event_grammar.specs.Points.{bytes_between, spot_of}
pub use Rattle.event_grammar.specs.Trees.{AreNodes, Around, Cons, events_of, IsNode, Nil, Node, node_events, Nodes}
pub use Rattle.event_grammar.specs.declared.slot.Child.{Child}
pub use Rattle.event_grammar.specs.declared.spot.Spot.{Spot}
pub use Rattle.event_meaning.specs.Children.{child, inside_of, kids_in, text_in, text_of, text_or_none}
pub use Rattle.event_meaning.specs.Strings.{string_of, written, written_byte}
pub use Rattle.event_references.proofs.Loops.{drop_next}
pub use Rattle.event_references.proofs.TextLaw.{split}
pub use Rattle.event_references.specs.Texts.{is_enter}
pub use Rattle.inline_labels.specs.Table.{HasLabels}
pub use Rattle.compile_written.specs.Child.{from_child, text_first, text_to}
pub use Rattle.compile_written.specs.Definition.{definition_after, definitions_in, destination_written, HasDefinitions, label_string, target_view}
pub use Rattle.compile_written.specs.Definition.{title_written}
pub use Rattle.compile_written.specs.GfmFootnoteDefinition.{begun, container_names, enter_content, enter_note, enter_open, first_held, has_begun, HasNotes}
pub use Rattle.compile_written.specs.GfmFootnoteDefinition.{Held, label_at, label_codes, label_list, note_next, notes, Notes, notes_after, only_if}
pub use Rattle.compile_written.specs.GfmFootnoteDefinition.{the_document}
pub use Rattle.compile_written.specs.List.{around, before_enter, before_exit, compared_in, compares, is_before, is_list, level, level_view, more_lists}
pub use Rattle.compile_written.specs.List.{new_level, pass_at, pass_event, pass_next, pass_start, pass_view, passed, PassView}
pub use Rattle.compile_written.specs.Strings.{formed, part_text, parts_after, parts_next, valid}
pub use Rattle.compile_written.specs.Texts.{AreTexts}
pub use Rattle.compile_written.specs.Within.{AreWithin, IsEnd, StandsFirst}
pub use Rattle.compile_written.specs.declared.list.Level.{Level}
pub use Rattle.compile_written.specs.declared.string.Form.{Form}
