use Rattle.std.proofs.Common.{◌≡◌, ◌∙◌, ◌-◌, ◌++◌, [], ◌∷◌, ℕ, List, Option, sym, ap, append_assoc}
use Rattle.engine_chunks.specs.Chunks.{chunks_from}
use Rattle.engine_chunks.proofs.Steps.{one_chunk}
use Rattle.engine_chunks.proofs.chunks.chunks.Goals as goal

pub loop-left-preserved : goal.loop-left-preserved
loop-left-preserved g c =
    let events = c.args.events.now in
    let left = c.loop-left.left in
    let found = c.loop-left.found.items in
    let rest : List ℕ = chunks_from (left - 1) events c.next_chunk-chunk.result in
    let one = one_chunk left events c.in-Some.at c.loop-left-test.true in
    let there : chunks_from left events c.loop-left.chunk ≡ c.in-Some.at ∷ rest =
    ap (λ (z : Option ℕ). chunks_from left events z) c.in-Some.is
    ∙ (one ∙ ap (λ (z : Option ℕ). c.in-Some.at ∷ chunks_from (left - 1) events z) (sym c.next_chunk-chunk.ensures)) in
    ap (λ (z : List ℕ). z ++ rest) c.in_ok-push.ensures.items
    ∙ (append_assoc found (c.in-Some.at ∷ []) rest ∙ (ap (λ (z : List ℕ). found ++ z) (sym there) ∙ c.loop-left.invariant))
