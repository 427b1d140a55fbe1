use Rattle.std.proofs.Common.{arith, subst}
use Rattle.inline_leaves.specs.Leaves.{IsWhite}
use Rattle.inline_leaves.proofs.HardBreakTrailingLemmas.{white_end}
use Rattle.inline_leaves.proofs.hard_break_trailing.line_spaces_at.Goals as goal

pub cut_after-requires : goal.cut_after-requires
cut_after-requires c =
    let white = subst (λ s. IsWhite s c.white_size-size.result) c.as_bytes-bytes.ensures.value c.white_size-size.ensures.codes in
    white_end c.args.content.now c.white_size-size.result white (omega arith) (λ k. omega (arith, c.type_inv.content k))
