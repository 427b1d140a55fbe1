-- What several proofs of this crate import of other crates and of its own specs.
pub use Rattle.std.proofs.lemmas.Bool.{cases_lt, eq-eqb, eqb-true, lt-ltb, ltb-true}
pub use Rattle.std.proofs.lemmas.Bool.Decides.{nat_tests}
pub use Rattle.std.proofs.lemmas.List.{drop_all, drop_more}
pub use Rattle.std.proofs.lemmas.Result.{IfOk-weaker}
pub use Rattle.std.specs.Prelude.{Err, Ok, Result}
pub use Rattle.engine_chunks.specs.Chunks.{chunks, part_size}
pub use Rattle.engine_chunks.specs.Parts.{counts, places_of, with_division}
pub use Rattle.engine_edits.specs.Edits.{edit_at, EditAt, edits_of}
pub use Rattle.engine_edits.specs.Replacement.{IsOrdered, places, Places, replacement, with_new_links}
pub use Rattle.engine_events.specs.declared.event.Content.{Content}
pub use Rattle.engine_events.specs.declared.event.Event.{Event}
pub use Rattle.engine_events.specs.declared.place.Point.{Point}
pub use Rattle.engine_states.specs.declared.resolve.Name.{Name as Resolver}
pub use Rattle.engine_states.specs.declared.state.Name.{Name}
pub use Rattle.engine_states.specs.declared.state.State.{State}
pub use Rattle.markdown_engine.specs.Chains.{after_chunk, AreApart, ArePlaces, Chain, chains, chains_from, chunks_of, Divides, end_of, first_state, IsPlace}
pub use Rattle.markdown_engine.specs.Chains.{MayBegin, place_at, ReadsChain, Subtokenizes, with_chunks}
pub use Rattle.markdown_engine.specs.Context.{Context, context}
pub use Rattle.markdown_engine.specs.Evaluation.{reading}
pub use Rattle.markdown_engine.specs.Laws.{AreNested, Holds, HoldsAt, IsFed, LawfulAt, MovesOn, OnlyAdds, RanksAt, remaining}
pub use Rattle.markdown_engine.specs.Machine.{config, fresh_config, GoesAll, GoesOn, HasCompleted, HasEnded, HasFlushed, IsRefused, read_with, source, Turn}
pub use Rattle.markdown_engine.specs.Machine.{view_config, weight}
pub use Rattle.markdown_engine.specs.Order.{Reaches}
pub use Rattle.markdown_engine.specs.OrderLaws.{reaches_on, stays}
pub use Rattle.markdown_engine.specs.Reading.{after_success, Config, continuation, end_state, ends-nok, ends-ok, feed, first, Frame, hand_on, mark, next}
pub use Rattle.markdown_engine.specs.Reading.{Outcome, restore, retry, Runs, second, seen_as, state_after, Steps, Unwinds}
pub use Rattle.markdown_engine.specs.Resolvers.{AreOnce, is_registered}
pub use Rattle.markdown_engine.specs.Resolving.{found_both, found_in, FoundLabels, nothing_found, resolve_all, resolve_each, Resolves, SettlesAt}
pub use Rattle.markdown_engine.specs.VirtualText.{byte_before, is_before, IsCut, line_start, place_in, Skips, Source, Text, text_to, Walks, with_skip}
pub use Rattle.markdown_engine.specs.VirtualText.{without_skips}
pub use Rattle.markdown_engine.specs.declared.attempt.Attempt.{Attempt}
pub use Rattle.markdown_engine.specs.declared.parse_state.ParseState.{ParseState}
pub use Rattle.markdown_engine.specs.declared.tokenizer.Tokenizer.{Tokenizer}
pub use Rattle.markdown_engine.specs.declared.virtual_text.VirtualByte.{VirtualByte}
