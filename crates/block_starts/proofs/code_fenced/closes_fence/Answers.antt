use Rattle.std.proofs.Common.{ℕ, ◌<◌, get_or, sym, ap, ◌∙◌, arith}
use Rattle.block_starts.specs.CodeFenced.{fence_view, may_close}
use Rattle.block_starts.proofs.CodeFencedLemmas.{closes_none}
use Rattle.block_starts.proofs.code_fenced.closes_fence.Goals as goal

pub returns-else-may_close : goal.returns-else-may_close
returns-else-may_close c =
    let f = fence_view c.args.fence.now in
    let content = c.args.content.now in
    let small : (k : ℕ) → get_or content k 0 < 256 = λ k. omega (arith, c.type_inv.content k) in
    c.if-may_close.false
    ∙ sym (closes_none c.args.on.now f content small
    (sym (ap (may_close f.byte) c.as_bytes.ensures.value) ∙ sym c.may_close.ensures ∙ c.if-may_close.false))
