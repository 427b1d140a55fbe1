use Rattle.std.proofs.Common.{get_or, arith}
use Rattle.std.proofs.lemmas.List.Sums.{prefix_len_passes, prefix_len-le-length}
use Rattle.definition_text.specs.Columns.{is_white}
use Rattle.text_bytes.proofs.Ascii.{boundary_after, space_ascii}
use Rattle.block_starts.proofs.cursor.without_white.Goals as goal

pub range_from-requires : goal.range_from-requires
range_from-requires c =
    let t = c.args.text.now in
    let within = prefix_len-le-length is_white t in
    λ pos. boundary_after t c.args.count c.utf8.text (omega arith)
    (λ k e. space_ascii (get_or t k 0) (omega (arith, c.type_inv.text k)) (prefix_len_passes is_white t k 0 (omega arith)))
