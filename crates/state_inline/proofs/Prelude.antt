-- What several proofs of this crate import of other crates and of its own specs.
pub use Rattle.engine_programs.specs.Bodies.{step_by}
pub use Rattle.markdown_engine.proofs.Push.{at_outcome, not_refused, whole_run}
pub use Rattle.markdown_engine.specs.Context.{context}
pub use Rattle.markdown_engine.specs.Machine.{fresh_config, source, view_config}
pub use Rattle.markdown_engine.specs.Order.{text_start}
pub use Rattle.markdown_engine.specs.Reading.{Config, Outcome, Runs, seen_as}
pub use Rattle.markdown_engine.specs.Resolving.{resolve_all}
pub use Rattle.markdown_engine.specs.VirtualText.{Source, text_to, without_skips}
pub use Rattle.markdown_engine.specs.declared.parse_state.ParseState.{ParseState}
pub use Rattle.state_resolvers.specs.Resolving.{inline_resolved}
pub use Rattle.state_inline.specs.Inlines.{bodies}
pub use Rattle.state_inline.specs.declared.inlines.Inlines.{Inlines}
