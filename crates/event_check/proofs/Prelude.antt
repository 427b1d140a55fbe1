-- What several proofs of this crate import of other crates and of its own specs.
pub use Rattle.std.proofs.lemmas.Bool.{and_parts, cond-false, eqb-true}
pub use Rattle.std.proofs.lemmas.List.{append-nil}
pub use Rattle.engine_events.specs.Names.{is_listed, same_name}
pub use Rattle.engine_events.specs.contracts.event.Name.{the_type}
pub use Rattle.engine_events.specs.declared.event.Event.{Event}
pub use Rattle.engine_events.specs.declared.event.Kind.{Kind}
pub use Rattle.engine_events.specs.declared.event.Name.{Name}
pub use Rattle.event_faults.specs.Checks.{Check, check_at, entered, exited, fact_at, has_limit, is_barred, is_limit, limit_of, may_exit, moved, Open, opened}
pub use Rattle.event_faults.specs.Checks.{with_above, with_child}
pub use Rattle.event_grammar.specs.Facts.{is_fact}
pub use Rattle.event_faults.specs.Faults.{event_fault, fault_from}
pub use Rattle.event_grammar.specs.Grammar.{cell_names, document_row, line_names, link_names, mdx_names, row, space_names}
pub use Rattle.event_grammar.specs.InGrammar.{after, before, Before, between, cells_of, end, fits, IsInGrammar, KidsFit, node_name, NodeFits, PlacesFit, takes}
pub use Rattle.event_grammar.specs.InGrammar.{within, Within}
pub use Rattle.event_grammar.specs.Points.{bytes_between, spot_of}
pub use Rattle.event_grammar.specs.Slots.{has, may_end, stands_between, take_child, taken, Taken}
pub use Rattle.event_grammar.specs.Trees.{AreNodes, Around, Cons, events_of, Nil, Node, Nodes, tree}
pub use Rattle.event_faults.specs.declared.fault.EventFault.{EventFault}
pub use Rattle.event_grammar.specs.declared.slot.Between.{Between}
pub use Rattle.event_grammar.specs.declared.slot.Child.{Child}
pub use Rattle.event_grammar.specs.declared.slot.Form.{Form}
pub use Rattle.event_grammar.specs.declared.slot.Slot.{Slot}
pub use Rattle.event_grammar.specs.declared.spot.Spot.{Spot}
pub use Rattle.event_check.specs.Align.{aligns_after, marks, marks_after}
pub use Rattle.event_check.specs.Loose.{apart_after, are_apart, has_loose_item, IsAt, item_after, kids_of}
pub use Rattle.event_check.specs.Matches.{MatchesGrammar}
