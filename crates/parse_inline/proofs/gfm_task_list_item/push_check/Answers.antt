use Rattle.std.proofs.Common.{arith}
use Rattle.parse_inline.proofs.Prelude.{both_ok}
use Rattle.parse_inline.proofs.Checks.{check_written}
use Rattle.parse_inline.proofs.gfm_task_list_item.push_check.Goals as goal

pub returns-clause-written : goal.returns-clause-written
returns-clause-written g c =
    both_ok c.exit.result
    (λ exits stays on names text front after stop is check behind st whole.
    check_written names text stop _ _ _ _ _ _ on c.args.done c.args.bytes.now c.bytes_from.result.now front after
    (λ k. omega (arith, c.type_inv.bytes k)) is check behind
    c.bytes_from.ensures.rest st whole c.in_ok-enter.ensures.stays (c.in_ok-enter.ensures.written text) c.in_ok-text.ensures.stays
    (c.in_ok-text.ensures.written text)
    (λ value content. c.in_ok-push_value.ensures.written names text value content stop) c.in_ok-text-2.ensures.stays
    (c.in_ok-text-2.ensures.written text) stays (exits text))
    c.exit.ensures.written c.exit.ensures.stays
