use Rattle.std.proofs.Common.{◌≡◌, ap, ◌∙◌, drop, length, arith}
use Rattle.block_leaves.proofs.Prelude.{is_head, lines_from, piece_lines}
use Rattle.block_leaves.proofs.GfmTableLemmas.{fits_some}
use Rattle.block_leaves.proofs.leaves.Leaves.has_head.Goals as goal

pub returns-then-columns-gt0 : goal.returns-then-columns-gt0
returns-then-columns-gt0 g c =
    let p = c.args.self.now in
    let n = p.lines_in_rows in
    let count = c.len-columns.result in
    let columns = p.aligns.items in
    let same : count ≡ length columns = omega (arith, c.len-columns.ensures, p.aligns.ok.0) in
    c.is_head.ensures
    ∙ ap (is_head count) (lines_from n c.deref.result.now ∙ ap (λ ps. drop n (piece_lines ps)) c.deref.ensures.value)
    ∙ ap (λ k. is_head k (drop n (piece_lines p.pieces.items))) same
    ∙ fits_some columns (drop n (piece_lines p.pieces.items)) (omega (arith, same, c.if-columns-gt0.true))
