use Rattle.std.proofs.Common.{refl, arith}
use Rattle.parse_inline.proofs.Prelude.{both_ok}
use Rattle.parse_inline.proofs.Escapes.{reference_written}
use Rattle.parse_inline.proofs.leaf.push_character.Goals as goal

pub returns-clause-written : goal.returns-clause-written
returns-clause-written g c =
    both_ok c.push_reference.result
    (λ written same context text printed from to stop is_on form at st whole.
    reference_written context.names text context.options.constructs stop _ _ context printed c.args.bytes.now from to c.reference_size.result refl
    (λ k. omega (arith, c.type_inv.bytes k)) form at
    c.reference_size.ensures st whole
    (λ marks value after content first is are some most alphanumeric decodes size dark next outside.
    written context.options.constructs context.names text marks value after content first stop is_on is are some most alphanumeric decodes size dark next outside))
    c.push_reference.ensures.written c.push_reference.ensures.open
