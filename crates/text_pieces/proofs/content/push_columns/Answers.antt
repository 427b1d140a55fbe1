use Rattle.std.proofs.Common.{◌≡◌, ◌++◌, ◌∷◌, [], string_bytes, ap, ◌∙◌, append_assoc, arith}
use Rattle.std.specs.Prelude.{replicate}
use Rattle.std.proofs.lemmas.List.{replicate_more}
use Rattle.text_pieces.proofs.content.push_columns.Goals as goal

pub loop-preserved : goal.loop-preserved
loop-preserved g c =
    let start = string_bytes c.args.content.now in
    c.in_ok-push_str.ensures.bytes
    ∙ ap (λ x. x ++ 32 ∷ []) c.loop.invariant
    ∙ append_assoc start (replicate c.loop.counter 32) (32 ∷ [])
    ∙ ap (λ x. start ++ x) (replicate_more c.loop.counter 32)

pub returns : goal.returns
returns g c =
    let start = string_bytes c.args.content.now in
    let end : c.loop.counter ≡ c.args.owed = omega arith in
    c.loop.invariant ∙ ap (λ n. start ++ replicate n 32) end
