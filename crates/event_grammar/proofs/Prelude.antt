-- What several proofs of this crate import of other crates and of its own specs.
pub use Rattle.std.proofs.lemmas.Bool.{and_parts}
pub use Rattle.std.proofs.lemmas.List.{drop_all}
pub use Rattle.std.proofs.lemmas.Str.{is_utf8-from_IsUtf8, IsUtf8-from_is_utf8}
pub use Rattle.std.specs.List.{fold, list_all}
pub use Rattle.std.specs.Str.{IsUtf8}
pub use Rattle.engine_events.specs.Columns.{mark_size}
pub use Rattle.engine_events.specs.Names.{is_listed, same_name}
pub use Rattle.engine_events.specs.contracts.event.Name.{the_type}
pub use Rattle.engine_events.specs.declared.event.Name.{Name}
pub use Rattle.event_grammar.specs.Facts.{ending_names}
pub use Rattle.event_grammar.specs.Grammar.{cell_names, link_names, mdx_names, row, space_names}
pub use Rattle.event_grammar.specs.Phases.{phase, phase_at, phase_on}
pub use Rattle.event_grammar.specs.Points.{column_on}
pub use Rattle.event_grammar.specs.SlotViews.{child_of}
pub use Rattle.event_grammar.specs.Slots.{has, may_end, take_child, taken, Taken}
pub use Rattle.event_grammar.specs.Void.{is_void}
pub use Rattle.event_grammar.specs.Voids.{asks_others, is_not, void_by, void_of}
pub use Rattle.event_grammar.specs.declared.slot.Child.{Child}
pub use Rattle.event_grammar.specs.declared.slot.Form.{Form}
pub use Rattle.event_grammar.specs.declared.slot.Slot.{Slot}
