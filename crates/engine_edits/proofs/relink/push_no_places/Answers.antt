use Rattle.std.proofs.Common.{◌≡◌, ◌∙◌, ◌∷◌, ◌++◌, [], None, ap, append_assoc, arith, ℕ}
use Rattle.std.proofs.lemmas.List.{replicate_more}
use Rattle.std.specs.Prelude.{replicate}
use Rattle.engine_edits.specs.Replacement.{Places}
use Rattle.engine_edits.proofs.relink.push_no_places.Goals as goal

pub loop-preserved : goal.loop-preserved
loop-preserved g c =
    let old = c.args.places.now.items in
    let gone : Places = replicate c.loop.counter None in
    c.in_ok-push.ensures.items ∙ (ap (λ (z : Places). z ++ None ∷ []) c.loop.invariant
    ∙ (append_assoc old gone (None ∷ []) ∙ ap (λ (z : Places). old ++ z) (replicate_more c.loop.counter None)))

pub returns : goal.returns
returns g c =
    let all : c.loop.counter ≡ c.args.count = omega arith in
    c.loop.invariant ∙ ap (λ (n : ℕ). let gone : Places = replicate n None in c.args.places.now.items ++ gone) all
