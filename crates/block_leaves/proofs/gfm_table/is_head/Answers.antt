use Rattle.std.proofs.Common.{◌≡◌, ◌-◌, ◌<◌, ◌==◌, length, Some, sym, ap, ◌∙◌, arith}
use Rattle.block_leaves.proofs.Prelude.{get_or_from_slice_get, line_cells, Piece, piece_line, slice_get, slice_get_within}
use Rattle.block_leaves.proofs.GfmTableLemmas.{last_is_head}
use Rattle.block_leaves.proofs.gfm_table.is_head.Goals as goal

pub returns-in-Some : goal.returns-in-Some
returns-in-Some c =
    let pieces = c.args.lines.now in
    let last = c.in-Some.line.now in
    let read : slice_get pieces (length pieces - 1) ≡ Some last = sym c.in-Some.ensures.value in
    let some : 0 < length pieces = omega (arith, slice_get_within pieces (length pieces - 1) last read) in
    c.has_cells.ensures
    ∙ sym (ap (λ (p : Piece). length (line_cells (piece_line p)) == c.args.columns) (get_or_from_slice_get pieces (length pieces - 1) last last read))
    ∙ last_is_head c.args.columns pieces last some
