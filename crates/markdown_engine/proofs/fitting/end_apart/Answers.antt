use Rattle.std.proofs.Common.{◌≡◌, ◌+◌, ◌∷◌, ◌++◌, ℕ, List, IsTrue, Bool, true, false, drop, get_or, subst}
use Rattle.markdown_engine.proofs.Prelude.{AreApart, drop_more}
use Rattle.markdown_engine.proofs.ChainSteps.{apart_first}
use Rattle.markdown_engine.proofs.fitting.end_apart.Goals as goal

pub returns-then-not-follows : goal.returns-then-not-follows
returns-then-not-follows c more h =
    let chain = c.args.chain.now in
    let i = c.loop-chunk.chunk-index in
    let end = c.loop-chunk.end in
    let k = get_or chain i 0 in
    let rest : List ℕ = drop (i + 1) chain ++ more in
    let left : AreApart end (drop i chain ++ more) c.args.count = (c.loop-chunk.invariant.1 more).0 h in
    let apart : AreApart end (k ∷ rest) c.args.count =
    subst (λ (z : List ℕ). AreApart end (z ++ more) c.args.count) (drop_more chain i 0 c.loop-chunk-test.true) left in
    let holds = c.follows.ensures.1 (apart.0, apart_first end k rest c.args.count apart) in
    absurd (let e : false ≡ true = subst (λ (z : Bool). IsTrue z) c.if-not-follows.true holds in cc)
