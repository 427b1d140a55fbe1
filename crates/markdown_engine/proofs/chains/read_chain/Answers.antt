use Rattle.std.proofs.Common.{List, ℕ, refl, subst, sym}
use Rattle.markdown_engine.proofs.Prelude.{ArePlaces, context, found_in, place_at, read_with}
use Rattle.markdown_engine.proofs.ChainSteps.{begins_as, fresh_at, machine_of, reads_as}
use Rattle.markdown_engine.proofs.Resolves.{same_bytes, same_context}
use Rattle.markdown_engine.proofs.chains.read_chain.Goals as goal

pub read_chunks-requires-clause-places : goal.read_chunks-requires-clause-places
read_chunks-requires-clause-places g c =
    subst (λ (z : List ℕ). ArePlaces z c.args.events.now) (sym (same_bytes c.in_ok-tokenizer.tokenizer c.args.parse_state.now
    c.in_ok-tokenizer.ensures.parse_state)) c.requires.places

pub read_chunks-requires-clause-fresh : goal.read_chunks-requires-clause-fresh
read_chunks-requires-clause-fresh g c =
    fresh_at c.in_ok-tokenizer.tokenizer c.place_at-start.result _ c.args.machine c.in_ok-tokenizer.ensures.config c.place_at-start.ensures
    c.in_ok-tokenizer.ensures.attempts c.in_ok-tokenizer.ensures.skips

pub read_chunks-requires-clause-begins : goal.read_chunks-requires-clause-begins
read_chunks-requires-clause-begins g c =
    let start = c.in_ok-tokenizer.tokenizer in
    begins_as g.M.Machine.valid (read_with start) (context c.args.parse_state.now) (g.M.Machine.seen start.machine) (g.M.Machine.seen c.args.machine)
    (place_at c.args.events.now c.args.first) c.args.content (same_context start start c.args.parse_state.now refl c.in_ok-tokenizer.ensures.parse_state)
    (machine_of g.M.Machine.seen start _ c.args.machine c.in_ok-tokenizer.ensures.config) c.requires.begins

pub returns-clause-reads : goal.returns-clause-reads
returns-clause-reads g c =
    let start = c.in_ok-tokenizer.tokenizer in
    reads_as g.M.Machine.step g.M.Machine.resolved (read_with start) (context c.args.parse_state.now) (g.M.Machine.seen start.machine)
    (g.M.Machine.seen c.args.machine) c.args.events.now (c.args.first, c.args.content) _ _ (found_in c.in_ok-found.found)
    (same_context start start c.args.parse_state.now refl c.in_ok-tokenizer.ensures.parse_state)
    (machine_of g.M.Machine.seen start _ c.args.machine c.in_ok-tokenizer.ensures.config) c.into_events.ensures c.in_ok-found.ensures.reads
