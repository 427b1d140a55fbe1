use Rattle.std.proofs.Common.{ap, arith, subst, ◌∙◌, drop}
use Rattle.inline_leaves.specs.Leaves.{IsWhite, ReadsEnding}
use Rattle.inline_leaves.proofs.LineEndingLemmas.{ending_white_end}
use Rattle.inline_leaves.proofs.line_ending.line_end_at.Goals as goal

pub cut_after-requires : goal.cut_after-requires
cut_after-requires c =
    let found = c.in_ok-found.found in
    let ends = subst (λ s. ReadsEnding s found) c.as_bytes-bytes.ensures.value c.in_ok-found.ensures in
    let white = subst (λ s. IsWhite s c.white_size.result) (c.from.ensures ∙ ap (drop found.size) c.as_bytes-bytes.ensures.value) c.white_size.ensures.codes in
    ending_white_end c.args.content.now found c.white_size.result ends white (λ k. omega (arith, c.type_inv.content k))
