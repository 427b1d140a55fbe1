-- What several proofs of this crate import of other crates and of its own specs.
pub use Rattle.std.proofs.Math.Bool.{and-false}
pub use Rattle.std.proofs.Math.Nat.{sub_self}
pub use Rattle.std.proofs.Math.Seq.{take-add}
pub use Rattle.std.proofs.lemmas.Bool.{and_from, and_parts, true≢false}
pub use Rattle.std.proofs.lemmas.Bool.Decides.{nat_tests}
pub use Rattle.std.proofs.lemmas.List.{append-nil as append-nil-list, length-take-le, map-append, take_more}
pub use Rattle.std.proofs.lemmas.List.Sums.{fold-append}
pub use Rattle.std.specs.List.{fold, list_all, prefix_len}
pub use Rattle.std.specs.Prelude.{if◌then◌else◌, ◌==◌}
pub use Rattle.engine_events.specs.Columns.{between, mark_size}
pub use Rattle.engine_events.specs.Events.{event}
pub use Rattle.engine_events.specs.Names.{same_name}
pub use Rattle.engine_events.specs.contracts.event.Name.{the_type}
pub use Rattle.engine_events.specs.declared.event.Event.{Event}
pub use Rattle.engine_events.specs.declared.event.Name.{Name}
pub use Rattle.event_grammar.specs.Points.{edge}
pub use Rattle.event_grammar.specs.Trees.{Around, Cons, Growth, growth, Nil, Nodes, Part}
pub use Rattle.parse_output.specs.Drafts.{marks_of}
pub use Rattle.parse_output.specs.Ends.{columns_before, end_at, end_columns, end_place, enter_at, exit_at, first_end, Follows, index_spot, same_end}
pub use Rattle.parse_output.specs.Forest.{append, AreInOrder, byte_nodes, cut, data_nodes, draft_events, drafted, drafted_all, drafts_end, exited, exited_from}
pub use Rattle.parse_output.specs.Forest.{forest, GoesOnward, IsData, void_nodes, with_nodes}
pub use Rattle.parse_output.specs.Open.{closed, Entered, Exited, Mark, mark_of, then_mark, unmatched}
pub use Rattle.parse_output.specs.Placed.{ArePlaced, IsTold}
pub use Rattle.parse_output.specs.Spots.{ArePlain, is_plain, next_spot, spot, spot_at}
pub use Rattle.parse_output.specs.Tokens.{IsPlace, place, point_at}
pub use Rattle.parse_output.specs.Written.{end_in, forest_in, IsInOrder, Writes}
pub use Rattle.parse_output.specs.declared.draft.Draft.{Draft}
pub use Rattle.parse_output.specs.declared.end.End.{End}
pub use Rattle.parse_output.specs.declared.output.Output.{Output}
pub use Rattle.parse_output.specs.declared.spot.Place.{Place}
pub use Rattle.parse_output.specs.declared.spot.Spot.{Spot}
