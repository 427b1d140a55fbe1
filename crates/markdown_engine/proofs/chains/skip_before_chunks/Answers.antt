use Rattle.std.proofs.Common.{◌≡◌, ◌∙◌, ◌≤◌, ◌+◌, drop, length, get_or, ap, arith}
use Rattle.markdown_engine.proofs.Prelude.{after_chunk, drop_more, place_at, Point, source}
use Rattle.markdown_engine.proofs.ChainSteps.{next_fits, skipping_on}
use Rattle.markdown_engine.proofs.chains.skip_before_chunks.Goals as goal

pub place_at-requires : goal.place_at-requires
place_at-requires g c = let low =
    next_fits c.args.events.now c.loop-chunk.end c.args.chain.now c.loop-chunk.chunk-index c.loop-chunk.tokenizer c.args.tokenizer.now c.loop-chunk-test.true
    c.loop-chunk.invariant in omega (arith, low)

pub overflow_add-chunk : goal.overflow_add-chunk
overflow_add-chunk g c = let low =
    next_fits c.args.events.now c.loop-chunk.end c.args.chain.now c.loop-chunk.chunk-index c.loop-chunk.tokenizer c.args.tokenizer.now c.loop-chunk-test.true
    c.loop-chunk.invariant in omega (arith, low)

pub place_at-end-requires : goal.place_at-end-requires
place_at-end-requires g c = let low =
    next_fits c.args.events.now c.loop-chunk.end c.args.chain.now c.loop-chunk.chunk-index c.loop-chunk.tokenizer c.args.tokenizer.now c.loop-chunk-test.true
    c.loop-chunk.invariant in omega (arith, low)

pub skip_before-requires : goal.skip_before-requires
skip_before-requires g c =
    let low = next_fits c.args.events.now c.loop-chunk.end c.args.chain.now c.loop-chunk.chunk-index c.loop-chunk.tokenizer c.args.tokenizer.now
    c.loop-chunk-test.true c.loop-chunk.invariant in
    let k = get_or c.args.chain.now c.loop-chunk.chunk-index 0 in
    let there : (place_at c.args.events.now k).index ≤ length c.args.tokenizer.now.parse_state.now.bytes.now =
    (c.requires.places k (omega (arith, low))).within in
    let same : c.place_at.result ≡ place_at c.args.events.now k = c.place_at.ensures in
    rw same (rw c.loop-chunk.invariant.parse_state there)

pub loop-chunk-preserved : goal.loop-chunk-preserved
loop-chunk-preserved g c =
    let i = c.loop-chunk.chunk-index in
    let chain = c.args.chain.now in
    let events = c.args.events.now in
    let old = c.args.tokenizer.now in
    let t = c.loop-chunk.tokenizer in
    let u = c.skip_before.new.tokenizer in
    let k = get_or chain i 0 in
    let said : source u ≡ after_chunk c.loop-chunk.end c.place_at.result (source t) = c.in_ok-skip_before.ensures.source in
    let there : source u ≡ after_chunk c.loop-chunk.end (place_at events k) (source t) =
    said ∙ ap (λ (z : Point). after_chunk c.loop-chunk.end z (source t)) c.place_at.ensures in
    let on = skipping_on events c.loop-chunk.end (drop i chain) (drop (i + 1) chain) k t u old.point chain old
    (drop_more chain i 0 c.loop-chunk-test.true) c.requires.places there c.in_ok-skip_before.ensures.config c.in_ok-skip_before.ensures.attempts
    c.in_ok-skip_before.ensures.parse_state c.in_ok-skip_before.ensures.failed c.loop-chunk.invariant in
    rw c.place_at-end.ensures on
