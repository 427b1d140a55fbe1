use Rattle.std.proofs.Common.{◌≡◌, ◌∙◌, List, ℕ, ap, length, refl, subst, sym}
use Rattle.markdown_engine.proofs.Prelude.{AreApart, chunks, Config, found_in, IfOk-weaker, IsPlace, Name, place_at, Point, read_with, seen_as}
use Rattle.engine_states.specs.declared.state.State.TheVariants as states
use Rattle.markdown_engine.proofs.ChainSteps.{chain_read}
use Rattle.markdown_engine.proofs.Push.{same_read}
use Rattle.markdown_engine.proofs.Resolves.{completed_at}
use Rattle.markdown_engine.proofs.chains.read_chunks.Goals as goal

pub skip_before_chunks-requires : goal.skip_before_chunks-requires
skip_before_chunks-requires g c =
    let start = c.args.tokenizer.now in
    let events = c.args.events.now in
    let chain : c.deref.result.now ≡ chunks events c.args.first = c.deref.ensures.value ∙ c.in_ok-chain.ensures in
    let point : start.point ≡ place_at events c.args.first =
    ap (λ (z : Config g.M.Machine.Seen). z.point) (ap (seen_as g.M.Machine.seen) c.requires.fresh.config) in
    record {
      apart = subst (λ (z : List ℕ). AreApart 0 z (length events)) (sym chain) c.requires.apart;
      places = c.requires.places;
      place = subst (λ (z : Point). IsPlace start.parse_state.now.bytes.now z) (sym point) (c.requires.places c.args.first c.requires.first);
    }

pub returns-clause-reads : goal.returns-clause-reads
returns-clause-reads g c =
    let start = c.args.tokenizer.now in
    let mid = c.skip_before_chunks.new.tokenizer in
    let x = read_with start in
    let chain : c.deref.result.now ≡ chunks c.args.events.now c.args.first = c.deref.ensures.value ∙ c.in_ok-chain.ensures in
    IfOk-weaker c.flush_to.result _ _ (λ found completed. chain_read g.M.Machine.seen (g.M.Machine.step x) (g.M.Machine.resolved x) x.bytes
    (g.M.Machine.seen start.machine) c.args.events.now c.args.first c.args.content start mid c.flush_to.new.self c.deref.result.now c.in_ok-end.end _
    (found_in found) chain (ap (seen_as g.M.Machine.seen) c.requires.fresh.config) refl c.requires.fresh.skips c.requires.fresh.attempts
    c.in_ok-end.ensures.source c.in_ok-end.ensures.end (ap (seen_as g.M.Machine.seen) c.in_ok-end.ensures.config) c.in_ok-end.ensures.attempts
    (ap (λ (z : Name). states.Next z) c.first_state.ensures)
    (completed_at g.M.Machine.seen g.M.Machine.step g.M.Machine.resolved (read_with mid) x _ _ mid c.flush_to.new.self _
    (same_read start mid c.in_ok-end.ensures.parse_state) completed)) c.flush_to.ensures.completed
