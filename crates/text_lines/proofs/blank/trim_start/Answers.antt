use Rattle.std.proofs.Common.{ap, ◌∙◌, get_or, length, arith}
use Rattle.std.proofs.lemmas.List.Sums.{prefix_len_passes}
use Rattle.definition_text.specs.Columns.{indent, is_white}
use Rattle.text_lines.proofs.Ascii.{boundary_after, space_ascii}
use Rattle.text_lines.proofs.blank.trim_start.Goals as goal

pub range_from-requires : goal.range_from-requires
range_from-requires c =
    let t = c.args.text.now in
    let size = c.white_size.ensures.size ∙ ap indent c.as_bytes.ensures.value in
    let len = ap length c.as_bytes.ensures.value in
    λ pos. boundary_after t c.white_size.result c.utf8.text (omega (arith, len, c.white_size.ensures.within))
    (λ k e. space_ascii (get_or t k 0) (omega (arith, c.type_inv.text k)) (prefix_len_passes is_white t k 0 (omega (arith, size, e))))
