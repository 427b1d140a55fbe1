-- What several proofs of this crate import of other crates and of its own specs.
pub use Rattle.std.proofs.lemmas.Bool.{and_left, and_parts, and_right, cases_Bool, cases_lt, eq-eqb, eqb-true, le-leb, le-ltb, leb-false, leb-true, lt-leb}
pub use Rattle.std.proofs.lemmas.Bool.{lt-ltb, or_cases, or_from, or_parts}
pub use Rattle.std.specs.List.{count_by, list_all, prefix_len, take_while}
pub use Rattle.definition_text.specs.Columns.{bare, code_byte, indent, is_white}
pub use Rattle.definition_text.specs.Content.{is_eol}
pub use Rattle.engine_events.specs.Events.{event}
pub use Rattle.engine_events.specs.declared.event.Event.{Event}
pub use Rattle.engine_events.specs.declared.event.Name.{Name as EventName}
pub use Rattle.engine_events.specs.declared.place.Point.{Point}
pub use Rattle.engine_states.specs.declared.state.Name.{Name}
pub use Rattle.engine_states.specs.declared.state.State.{State}
pub use Rattle.engine_programs.specs.Bodies.{has, run}
pub use Rattle.markdown_engine.specs.Context.{Context}
pub use Rattle.markdown_engine.specs.KeptState.{KeptState}
pub use Rattle.markdown_engine.specs.Machine.{past_byte, plain, tries, with_enter, with_exit}
pub use Rattle.markdown_engine.specs.Reading.{byte_of, Config, Effect, ends-nok, ends-ok, feed}
pub use Rattle.markdown_engine.specs.VirtualText.{as_byte, is_feed, Text}
pub use Rattle.markdown_engine.specs.declared.virtual_text.VirtualByte.{VirtualByte}
pub use Rattle.state_table.specs.BlockWords.{next, no_limit, part, retry}
pub use Rattle.state_verdicts.specs.Codes.{byte, nothing, Sees, tab, text_byte}
pub use Rattle.state_flow.specs.declared.flows.Flows.{Flows}
pub use Rattle.state_table.specs.Words.{is_space_or_tab, less, more}
pub use Rattle.state_verdicts.specs.Lines.{after_line, is_inner, line_of, LineEnds, SkipsOnce}
pub use Rattle.state_verdicts.specs.BlockVerdicts.{AtHand, GoesOn, handed, InLine, Leaves}
