-- What several proofs of this crate import of other crates and of its own specs.
pub use Rattle.std.proofs.lemmas.Bool.{eqb-true}
pub use Rattle.std.proofs.lemmas.List.{append-nil}
pub use Rattle.std.specs.Option.{option_map}
pub use Rattle.std.specs.Prelude.{OnOk, unwrap_or}
pub use Rattle.compile_strings.proofs.Passes.{less, nonzero, passes, PassesOver}
pub use Rattle.compile_strings.specs.RawTexts.{raw_after, sequence_of}
pub use Rattle.compile_strings.specs.Spelled.{AreSpelled, first_raw, first_target, raws_by, raws_next, raws_view, Spelled, spelled_by, targets_by}
pub use Rattle.compile_strings.specs.Spelled.{targets_next, targets_view}
pub use Rattle.compile_strings.specs.Targets.{target_by}
pub use Rattle.compile_strings.specs.declared.spelled.SpelledStrings.{SpelledStrings}
pub use Rattle.compile_written.proofs.ChildLaw.{text_is}
pub use Rattle.compile_written.specs.Child.{text_first}
pub use Rattle.compile_written.specs.Strings.{valid}
pub use Rattle.compile_written.specs.Texts.{AreTexts, IsTextNode}
pub use Rattle.definition_inline.specs.CharacterReference.{Names, number_of, numbered_text}
pub use Rattle.definition_inline.specs.CodeText.{without_padding}
pub use Rattle.definition_inline.specs.Inline.{Autolink, Character, Data, Escape, Html, Image, InlineLeaf, Inlines, LineEnd, Link, LinkedKind, LinkTexts}
pub use Rattle.definition_inline.specs.Inline.{SpanKind, Target, TaskCheck}
pub use Rattle.definition_text.specs.Content.{content_codes, line_ending_code}
pub use Rattle.engine_events.specs.Names.{is_listed, same_name}
pub use Rattle.engine_events.specs.declared.event.Event.{Event}
pub use Rattle.engine_events.specs.declared.event.Kind.{Kind}
pub use Rattle.engine_events.specs.declared.event.Name.{Name}
pub use Rattle.event_grammar.proofs.NoEvent.{no_event}
pub use Rattle.event_grammar.specs.References.{media_names}
pub use Rattle.event_grammar.specs.Spans.{span_of}
pub use Rattle.event_grammar.specs.Trees.{AreNodes, Around, Cons, events_of, IsNode, Nil, Nodes}
pub use Rattle.event_meaning.specs.Children.{text_in, text_of}
pub use Rattle.event_meaning.specs.Texts.{text_part}
pub use Rattle.event_references.proofs.TextLaw.{split}
pub use Rattle.inline_rows.specs.InlineRows.{CallRow, EnterLinked, inline_rows, InlineRow, Leave, Part}
pub use Rattle.inline_rows.specs.View.{data_rows, rows_view}
pub use Rattle.compile_rows.specs.Ahead.{AreLeft}
pub use Rattle.compile_rows.specs.Leaves.{autolink_by, ending_rows, has, html_after, html_next, html_part_rows, leaf_rows, literal_kind, literal_rows}
pub use Rattle.compile_rows.specs.Leaves.{reference_by, value_of}
pub use Rattle.compile_rows.specs.Places.{entered, exited, is_around, place}
pub use Rattle.compile_rows.specs.Rows.{alone_rows, enter_in, enter_rows, exit_in, exit_rows, part_rows, rows_by}
pub use Rattle.compile_rows.specs.Texts.{HasEndings, HaveEndings}
pub use Rattle.compile_rows.specs.declared.rows.Mode.{Mode}
pub use Rattle.compile_rows.specs.declared.rows.Place.{Place}
pub use Rattle.compile_rows.specs.declared.rows.Walk.{Walk}
