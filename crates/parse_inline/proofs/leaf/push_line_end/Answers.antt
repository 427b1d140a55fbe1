use Rattle.std.proofs.Common.{refl, ap, ◌∙◌}
use Rattle.parse_lines.proofs.Bytes.{ending_may}
use Rattle.parse_inline.proofs.Prelude.{both_ok, indent}
use Rattle.parse_inline.proofs.LineEnds.{line_end_front, rest_after}
use Rattle.parse_inline.proofs.leaf.push_line_end.Goals as goal

pub returns-clause-written : goal.returns-clause-written
returns-clause-written g c =
    both_ok c.text-2.result
    (λ written stays on names text rest ending stop size parts apart st whole.
    let spaces = c.white_size-before.ensures.size in
    let left = rest_after c.args.bytes.now rest _ _ ending _ c.args.size spaces size parts c.bytes_from.ensures.rest c.bytes_from-after.ensures.rest in
    line_end_front text stop on names _ _ _ _ c.args.bytes.now rest ending _ _ spaces
    (c.white_size.ensures.size ∙ ap indent left) parts st c.in_ok-text.ensures.stays
    (c.in_ok-text.ensures.written text) (c.in_ok-content_ending.ensures.written text rest stop ending size apart refl refl (ending_may ending)) stays (written text))
    c.text-2.ensures.written c.text-2.ensures.stays
