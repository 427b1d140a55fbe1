use Rattle.std.proofs.Common.{◌≡◌, ℕ, [], true, length, refl, ap, subst, sym}
use Rattle.state_inline.proofs.Prelude.{at_outcome, bodies, Config, context, fresh_config, inline_resolved, Inlines, Outcome, ParseState, resolve_all, Runs}
use Rattle.state_inline.proofs.Prelude.{seen_as, Source, source, step_by, text_start, text_to, view_config, whole_run, without_skips}
use Rattle.markdown_engine.specs.Machine.{config}
use Rattle.engine_states.specs.declared.state.Inline.TheVariants as state_inline
use Rattle.engine_states.specs.declared.state.Name.TheVariants.{Inline}
use Rattle.engine_states.specs.declared.state.State.TheVariants as states
use Rattle.state_inline.proofs.reading.resolved_string.Goals as goal

pub returns-clause-reads : goal.returns-clause-reads
returns-clause-reads g c =
    let x = context c.args.parse_state.now in
    let step = step_by (bodies (g.T.Tables.reference_of x.tables) (g.T.Tables.punctuation_of x.tables) x) in
    let old = c.in_ok-tokenizer.tokenizer in
    let made = c.in_ok-tokenizer.ensures in
    let start : Config Inlines = fresh_config text_start old.machine in
    let empty : old.machine.starts.now ≡ [] = ap (λ (z : Config Inlines). z.machine.starts.now) made.config in
    let begun : config old ≡ start =
    subst (λ (m : Inlines). config old ≡ fresh_config text_start m) (sym (ap (λ (z : Config Inlines). z.machine) made.config)) made.config in
    let first = states.Next (Inline state_inline.StringStart) in
    let done = c.in_ok-read_and_resolve.ensures.completed in
    let to : ℕ × ℕ = (length x.bytes, 0) in
    let from : source old ≡ without_skips x.bytes = rw (made.parse_state, made.skips) refl in
    let text = text_to (source old) to in
    let given : Outcome text step old.attempts.items (view_config (λ m. m) old) [] first done.read true =
    subst (λ (z : ParseState _ _). Outcome (text_to (source old) (length (context z).bytes, 0))
    (step_by (bodies (g.T.Tables.reference_of (context z).tables) (g.T.Tables.punctuation_of (context z).tables) (context z))) old.attempts.items
    (view_config (λ m. m) old) [] first done.read true) made.parse_state done.outcome in
    let one = at_outcome text step old.attempts.items [] (view_config (λ m. m) old) start first first done.read true made.attempts
    (ap (seen_as (λ m. m)) begun) refl given in
    let left : view_config (λ m. m) c.read_and_resolve.new.self ≡ (resolve_all (inline_resolved (g.T.Tables.punctuation_of x.tables) x) done.read).config =
    subst (λ (z : ParseState _ _). view_config (λ m. m) c.read_and_resolve.new.self
    ≡ (resolve_all (inline_resolved (g.T.Tables.punctuation_of (context z).tables) (context z)) done.read).config) made.parse_state done.config in
    let runs = whole_run text step start first done.read true one in (
      old.machine,
      empty,
      record {
        read = done.read;
        runs = subst (λ (z : Source). Runs (text_to z to) step start [] first done.read true) from runs;
        are = ap (λ (z : Config Inlines). z.events) left;
      },
    )
