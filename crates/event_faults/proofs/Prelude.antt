-- What several proofs of this crate import of other crates and of its own specs.
pub use Rattle.std.proofs.lemmas.List.{drop_all}
pub use Rattle.std.proofs.lemmas.Str.{is_utf8-from_IsUtf8, IsUtf8-from_is_utf8}
pub use Rattle.std.specs.List.{fold}
pub use Rattle.std.specs.Prelude.{Err, map, Ok, Result, reverse}
pub use Rattle.std.specs.Str.{IsUtf8, IsValidUpTo}
pub use Rattle.engine_events.specs.Columns.{mark_size}
pub use Rattle.engine_events.specs.Events.{event}
pub use Rattle.engine_events.specs.Names.{is_listed, same_name}
pub use Rattle.engine_events.specs.contracts.event.Name.{the_type}
pub use Rattle.engine_events.specs.declared.event.Event.{Event}
pub use Rattle.engine_events.specs.declared.event.Kind.{Kind}
pub use Rattle.engine_events.specs.declared.event.Name.{Name}
pub use Rattle.event_faults.specs.CheckViews.{around_it, check_view, innermost, open_view, Passes, StandsAt}
pub use Rattle.event_faults.specs.Checks.{at_start, Check, check_at, entered, entered_as, exited_to, is_barred, may_exit, moved, next_of, Open, opened}
pub use Rattle.event_faults.specs.Checks.{placed, step, with_above, with_child}
pub use Rattle.event_faults.specs.Faults.{event_fault, fault_after, fault_at_end, fault_from}
pub use Rattle.event_faults.specs.Spaces.{TakesNone}
pub use Rattle.event_faults.specs.declared.check.Leaf.{Leaf}
pub use Rattle.event_faults.specs.declared.fault.EventFault.{EventFault}
pub use Rattle.event_faults.specs.declared.fault.FaultKind.{FaultKind}
pub use Rattle.event_faults.specs.declared.place.Known.{Known}
pub use Rattle.event_grammar.specs.Facts.{ending_names}
pub use Rattle.event_grammar.specs.Grammar.{cell_names, link_names, mdx_names, row, space_names}
pub use Rattle.event_grammar.specs.Marked.{marked_from}
pub use Rattle.event_grammar.specs.Phases.{phase, phase_at, phase_on}
pub use Rattle.event_grammar.specs.Points.{column_on, is_spot, reaches, spot, spot_of}
pub use Rattle.event_grammar.specs.SlotViews.{child_of, taken_view}
pub use Rattle.event_grammar.specs.Slots.{has, may_end, stands_between, take_child, taken, Taken}
pub use Rattle.event_grammar.specs.Void.{is_void}
pub use Rattle.event_grammar.specs.Voids.{asks_others, is_not, void_by, void_of}
pub use Rattle.event_grammar.specs.declared.slot.Child.{Child}
pub use Rattle.event_grammar.specs.declared.slot.Form.{Form}
pub use Rattle.event_grammar.specs.declared.slot.Slot.{Slot}
pub use Rattle.event_grammar.specs.declared.spot.Spot.{Spot}
