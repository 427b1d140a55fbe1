use Rattle.std.proofs.Common.{get_or, arith}
use Rattle.text_lines.proofs.Ascii.{boundary_before, space_ascii}
use Rattle.text_lines.proofs.blank.trim_end.Goals as goal

pub range-requires-clause-end_boundary : goal.range-requires-clause-end_boundary
range-requires-clause-end_boundary c =
    boundary_before c.args.text.now c.loop-end.end c.loop-end.invariant.in_range
    (λ lt. space_ascii (get_or c.args.text.now c.loop-end.end 0) (omega (arith, c.type_inv.text c.loop-end.end)) (c.loop-end.invariant.at_end lt))
