use Rattle.std.proofs.Common.{◌≡◌, ◌∙◌, ◌+◌, ◌∷◌, List, ap, drop, length, refl, sym, subst, Option, Some, None}
use Rattle.markdown_engine.proofs.Prelude.{AreApart, Chain, chains, chains_from, chunks, chunks_of, Content, context, counts, drop_all, drop_more, edits_of}
use Rattle.markdown_engine.proofs.Prelude.{Event, found_both, found_in, MayBegin, with_division}
use Rattle.markdown_engine.proofs.ChainSteps.{Dividing, apart_all, apart_front, chains_at, dividing_all, dividing_none, dividing_on}
use Rattle.markdown_engine.proofs.chains.divide_chains.Goals as goal
use Rattle.markdown_engine.proofs.chains.divide_chains.Goals.{in-Some+in_ok-read+in_ok-counts, in_default}

pub loop-index-init : goal.loop-index-init
loop-index-init g c =
    let x = context c.args.parse_state.now in
    dividing_none (g.M.Machine.valid x) (g.M.Machine.step x) (g.M.Machine.resolved x) x.bytes (g.M.Machine.seen c.args.machine)
    c.args.events.now (chains c.args.filter c.args.events.now) (edits_of c.args.map.now) (found_in c.in_ok-found.found)
    c.in_ok-found.ensures.found c.requires.readable.apart c.requires.begins

pub read_chain-requires-clause-first : goal.read_chain-requires-clause-first
read_chain-requires-clause-first g c = c.loop-index-test.true

pub read_chain-requires-clause-places : goal.read_chain-requires-clause-places
read_chain-requires-clause-places g c = c.requires.readable.places

pub read_chain-requires-clause-begins : goal.read_chain-requires-clause-begins
read_chain-requires-clause-begins g c =
    let x = context c.args.parse_state.now in
    let events = c.args.events.now in
    let i = c.loop-index.index in
    let content = c.in-Some.content in
    let rest : List Chain = chains_from c.args.filter (i + 1) (drop (i + 1) events) in
    let here : chains_from c.args.filter i (drop i events) ≡ (i, content) ∷ rest =
    chains_at c.args.filter i (drop i events) (drop (i + 1) events) _ (Some content) (drop_more events i _ c.loop-index-test.true)
    (sym c.chain_content.ensures ∙ c.in-Some.is) in
    let begins : MayBegin (g.M.Machine.valid x) (g.M.Machine.seen c.args.machine) events ((i, content) ∷ rest) =
    subst (λ (z : List Chain). MayBegin (g.M.Machine.valid x) (g.M.Machine.seen c.args.machine) events z) here c.loop-index.invariant.begins in
    begins.0

pub read_chain-requires-clause-apart : goal.read_chain-requires-clause-apart
read_chain-requires-clause-apart g c =
    let events = c.args.events.now in
    let i = c.loop-index.index in
    let content = c.in-Some.content in
    let rest : List Chain = chains_from c.args.filter (i + 1) (drop (i + 1) events) in
    let here : chains_from c.args.filter i (drop i events) ≡ (i, content) ∷ rest =
    chains_at c.args.filter i (drop i events) (drop (i + 1) events) _ (Some content) (drop_more events i _ c.loop-index-test.true)
    (sym c.chain_content.ensures ∙ c.in-Some.is) in
    let from = c.loop-index.invariant.from in
    let apart : AreApart from (chunks_of events ((i, content) ∷ rest)) (length events) =
    subst (λ (z : List Chain). AreApart from (chunks_of events z) (length events)) here c.loop-index.invariant.apart in
    apart_all from (chunks events i) (length events) (apart_front from (chunks events i) (chunks_of events rest) (length events) apart)

is_none : (b : Option Content) → ((x : Content) → b ≡ Some x → ⊥) → b ≡ None
is_none None h = refl
is_none (Some x) h = absurd (h x refl)

pub loop-index-preserved : goal.loop-index-preserved
loop-index-preserved g c =
    let events = c.args.events.now in
    let filter = c.args.filter in
    let i = c.loop-index.index in
    let old = edits_of c.args.map.now in
    let all = chains filter events in
    let rest : List Chain = chains_from filter (i + 1) (drop (i + 1) events) in
    let x = context c.args.parse_state.now in
    let valid = g.M.Machine.valid x in
    let step = g.M.Machine.step x in
    let resolve = g.M.Machine.resolved x in
    let bytes = c.args.parse_state.now.bytes.now in
    let machine = g.M.Machine.seen c.args.machine in
    elim c.match-chain_content.branch [
      | in-Some+in_ok-read+in_ok-counts w ↦ (
          let content = w.in-Some.content in
          let children = w.in_ok-read.read.0.items in
          let more = found_in w.in_ok-read.read.1 in
          let here : chains_from filter i (drop i events) ≡ (i, content) ∷ rest =
          chains_at filter i (drop i events) (drop (i + 1) events) _ (Some content) (drop_more events i _ c.loop-index-test.true)
          (sym c.chain_content.ensures ∙ w.in-Some.is) in
          let counted : c.match-chain_content.counts ≡ counts events (chunks events i) children 0 c.loop-index.counts.0 c.loop-index.counts.1 =
          w.counts-is ∙ w.in_ok-counts.ensures.counts in
          let made : edits_of c.match-chain_content.map ≡ with_division events i children c.loop-index.counts (edits_of c.loop-index.map) =
          rw w.map-is w.in_ok-counts.ensures.edits in
          let both : found_in w.add_chain.new.found ≡ found_both (found_in c.loop-index.found) more = w.in_ok-counts.ensures.found in
          let on = dividing_on valid step resolve bytes machine events (chains_from filter i (drop i events)) rest (
            i,
            content,
          ) children more c.loop-index.counts c.match-chain_content.counts (edits_of c.loop-index.map) (edits_of c.match-chain_content.map)
          (found_in c.loop-index.found) (found_in w.add_chain.new.found) c.loop-index.found.done all old here w.in_ok-read.ensures.reads counted made both
          c.loop-index.invariant in
          rw w.found-is (rw w.in_ok-counts.ensures.done on))
      | in_default w ↦ (
          let here : chains_from filter i (drop i events) ≡ rest =
          chains_at filter i (drop i events) (drop (i + 1) events) _ None (drop_more events i _ c.loop-index-test.true)
          (sym c.chain_content.ensures ∙ is_none c.chain_content.result w.in_default.not-Some) in
          let kept =
          subst (λ (z : List Chain). Dividing valid step resolve bytes machine events z c.loop-index.counts (edits_of c.loop-index.map)
          (found_in c.loop-index.found) c.loop-index.found.done all old) here c.loop-index.invariant in
          rw w.found-is (rw w.counts-is (rw w.map-is kept)))
    ]

pub returns-clause-divides : goal.returns-clause-divides
returns-clause-divides g c =
    let x = context c.args.parse_state.now in
    let all =
    dividing_all (g.M.Machine.valid x) (g.M.Machine.step x) (g.M.Machine.resolved x) x.bytes (g.M.Machine.seen c.args.machine)
    c.args.events.now (chains_from c.args.filter c.loop-index.index (drop c.loop-index.index c.args.events.now)) c.loop-index.counts
    (edits_of c.loop-index.map) (found_in c.loop-index.found) c.loop-index.found.done (chains c.args.filter c.args.events.now) (edits_of c.args.map.now)
    (ap (λ (z : List Event). chains_from c.args.filter c.loop-index.index z) (drop_all c.loop-index.index c.args.events.now c.loop-index-test.false))
    c.loop-index.invariant in
    all.0

pub returns-clause-done : goal.returns-clause-done
returns-clause-done g c =
    let x = context c.args.parse_state.now in
    let all =
    dividing_all (g.M.Machine.valid x) (g.M.Machine.step x) (g.M.Machine.resolved x) x.bytes (g.M.Machine.seen c.args.machine)
    c.args.events.now (chains_from c.args.filter c.loop-index.index (drop c.loop-index.index c.args.events.now)) c.loop-index.counts
    (edits_of c.loop-index.map) (found_in c.loop-index.found) c.loop-index.found.done (chains c.args.filter c.args.events.now) (edits_of c.args.map.now)
    (ap (λ (z : List Event). chains_from c.args.filter c.loop-index.index z) (drop_all c.loop-index.index c.args.events.now c.loop-index-test.false))
    c.loop-index.invariant in
    all.1
