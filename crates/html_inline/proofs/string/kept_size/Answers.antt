use Rattle.std.proofs.Common.{arith, drop}
use Rattle.html_inline.proofs.Prelude.{is_ink, length-drop, prefix_len-le-length}
use Rattle.html_inline.proofs.string.kept_size.Goals as goal

pub overflow_add-result : goal.overflow_add-result
overflow_add-result c =
    let bytes = c.args.bytes.now in
    grind (arith, prefix_len-le-length is_ink (drop 1 bytes), length-drop 1 bytes, c.ink_size.ensures, c.from.ensures)
