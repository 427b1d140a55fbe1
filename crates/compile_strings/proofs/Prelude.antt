-- What several proofs of this crate import of other crates and of its own specs.
pub use Rattle.std.proofs.lemmas.Bool.{eqb-true}
pub use Rattle.std.proofs.lemmas.List.{append-nil, drop_all, reverse-append, take_rest}
pub use Rattle.std.proofs.lemmas.Str.{is_utf8-from_IsUtf8, IsUtf8-from_is_utf8, IsUtf8-string_bytes}
pub use Rattle.std.specs.List.{fold}
pub use Rattle.std.specs.Option.{option_map, option_or}
pub use Rattle.std.specs.Prelude.{replicate, reverse}
pub use Rattle.std.specs.Str.{is_utf8, IsUtf8}
pub use Rattle.compile_written.proofs.FormedTexts.{valid_is}
pub use Rattle.compile_written.specs.Strings.{parts_after, valid}
pub use Rattle.definition_inline.specs.CharacterReference.{Names}
pub use Rattle.definition_inline.specs.Definition.{Definition}
pub use Rattle.definition_inline.specs.Inline.{link_texts, LinkTexts, Reference, Resource, Target}
pub use Rattle.definition_inline.specs.LabelMatch.{first_match}
pub use Rattle.definition_inline.specs.Targets.{labels_of, leads_to, linked_at, linked_by}
pub use Rattle.definition_text.specs.Content.{content_codes}
pub use Rattle.engine_events.specs.Names.{is_listed, same_name}
pub use Rattle.engine_events.specs.declared.event.Event.{Event}
pub use Rattle.engine_events.specs.declared.event.Kind.{Kind}
pub use Rattle.engine_events.specs.declared.event.Name.{Name}
pub use Rattle.event_grammar.proofs.NoEvent.{no_event}
pub use Rattle.event_grammar.specs.InGrammar.{PlacesFit}
pub use Rattle.event_grammar.specs.Phases.{phase_at, phase_on}
pub use Rattle.event_grammar.specs.Points.{bytes_between, spot_of}
pub use Rattle.event_grammar.specs.References.{media_names}
pub use Rattle.event_grammar.specs.Trees.{AreNodes, Around, Cons, events_of, Nil, Nodes}
pub use Rattle.event_grammar.specs.declared.spot.Spot.{Spot}
pub use Rattle.event_meaning.specs.Children.{columns_after}
pub use Rattle.event_meaning.specs.Strings.{written}
pub use Rattle.event_meaning.specs.Texts.{label_or_none}
pub use Rattle.event_references.proofs.Loops.{drop_next}
pub use Rattle.event_references.proofs.TextLaw.{split}
pub use Rattle.compile_strings.specs.Columns.{AreCounted}
pub use Rattle.compile_strings.specs.Joined.{found_target, HaveRaws, HaveTargets, IsTarget, label_at}
pub use Rattle.compile_strings.specs.LabelEnd.{AreHeld, HoldsAt, IsFoundAt, IsHeld, label_place}
pub use Rattle.compile_strings.specs.RawTexts.{chunk_between, chunk_first, exit_spot, raw_after, raw_next, raw_part_first, sequence_of, spaces, whole_by}
pub use Rattle.compile_strings.specs.Spelled.{nowhere, raws_by, raws_next, spelled, Spelled, spelled_by, target_view, targets_by}
pub use Rattle.compile_strings.specs.Targets.{has_own, label_after, label_by, label_first, own_from, string_first, target_by}
pub use Rattle.compile_strings.specs.declared.label_end.Held.{Held}
pub use Rattle.compile_strings.specs.declared.spelled.SpelledStrings.{SpelledStrings}
pub use Rattle.compile_strings.specs.declared.spelled.SpelledTarget.{SpelledTarget}
