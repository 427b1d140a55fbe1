-- What several proofs of this crate import of other crates and of its own specs.
pub use Rattle.std.proofs.lemmas.List.{append-nil, length-append, map-append}
pub use Rattle.std.specs.Option.{option_or}
pub use Rattle.std.specs.Prelude.{map, reverse}
pub use Rattle.engine_events.specs.Names.{is_listed, same_name}
pub use Rattle.engine_events.specs.declared.event.Event.{Event}
pub use Rattle.engine_events.specs.declared.event.Kind.{Kind}
pub use Rattle.engine_events.specs.declared.event.Name.{Name}
pub use Rattle.event_grammar.proofs.NoEvent.{no_event}
pub use Rattle.event_grammar.specs.Points.{spot_of}
pub use Rattle.event_grammar.specs.References.{label_text, leads, media_names, named}
pub use Rattle.event_grammar.specs.Trees.{AreNodes, Around, Cons, events_of, Nil, Node, Nodes}
pub use Rattle.event_grammar.specs.declared.spot.Spot.{Spot}
pub use Rattle.event_references.specs.Lost.{around, is_part, label_of, lost_from, lost_next, Media, media, new_media, noted, only_if}
pub use Rattle.event_references.specs.Texts.{is_enter, text_after, text_of, texts_of}
pub use Rattle.event_references.specs.Views.{media_view, text_at}
