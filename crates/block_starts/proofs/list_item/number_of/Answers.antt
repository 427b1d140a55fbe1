use Rattle.std.proofs.Common.{arith}
use Rattle.block_starts.proofs.MarkLemmas.{eight_digits}
use Rattle.block_starts.proofs.list_item.number_of.Goals as goal

pub overflow_mul-number : goal.overflow_mul-number
overflow_mul-number c =
    let few = eight_digits c.loop-digit.number c.loop-digit.digit-index c.loop-digit.invariant.few (omega arith) in
    omega (arith, few)

pub overflow_add-number : goal.overflow_add-number
overflow_add-number c =
    let few = eight_digits c.loop-digit.number c.loop-digit.digit-index c.loop-digit.invariant.few (omega arith) in
    omega (arith, few, c.from.ensures, c.type_inv.digits c.loop-digit.digit-index)
