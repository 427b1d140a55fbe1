use Rattle.std.proofs.Common.{◌≡◌, ◌-◌, ◌<◌, length, Some, sym, ap, ◌∙◌, arith}
use Rattle.block_leaves.proofs.Prelude.{get_or_from_slice_get, Piece, slice_get, slice_get_within}
use Rattle.text_pieces.proofs.OwnLines.{last_piece_ending}
use Rattle.block_leaves.proofs.definition.last_ending.Goals as goal

pub returns-in-Some : goal.returns-in-Some
returns-in-Some c =
    let pieces = c.args.lines.now in
    let last = c.in-Some.line.now in
    let read : slice_get pieces (length pieces - 1) ≡ Some last = sym c.in-Some.ensures.value in
    let some : 0 < length pieces = omega (arith, slice_get_within pieces (length pieces - 1) last read) in
    sym (ap (λ (p : Piece). p.ending) (get_or_from_slice_get pieces (length pieces - 1) last last read)) ∙ last_piece_ending pieces last some
