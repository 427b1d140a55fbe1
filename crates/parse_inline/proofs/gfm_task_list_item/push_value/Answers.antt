use Rattle.std.proofs.Common.{arith}
use Rattle.parse_inline.proofs.Prelude.{both_ok}
use Rattle.parse_inline.proofs.Checks.{value_other, value_read}
use Rattle.parse_inline.proofs.gfm_task_list_item.push_value.Goals as goal

pub returns-in-Some-clause-written : goal.returns-in-Some-clause-written
returns-in-Some-clause-written g c =
    both_ok c.content_ending.result
    (λ written same names text value content stop of st whole.
    value_read names text stop _ _ c.args.done c.value_name.result c.args.bytes.now value content c.in-Some.found c.value_name.ensures
    (λ k. omega (arith, c.type_inv.bytes k)) of c.in-Some.ensures st (λ ending. written text content stop ending))
    c.content_ending.ensures.written c.content_ending.ensures.open

pub returns-in-None-clause-written : goal.returns-in-None-clause-written
returns-in-None-clause-written g c =
    both_ok c.text.result
    (λ written same names text value content stop of st whole.
    value_other names text stop _ _ c.args.done c.value_name-in-None.result c.args.bytes.now value content c.value_name-in-None.ensures of c.in-None.ensures st whole same
    (written text))
    c.text.ensures.written c.text.ensures.stays
