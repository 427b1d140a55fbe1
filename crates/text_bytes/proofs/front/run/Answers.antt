use Rattle.std.proofs.Common.{length, eqb, sym, arith}
use Rattle.std.proofs.lemmas.List.Sums.{prefix_len_is}
use Rattle.std.proofs.lemmas.Bool.{ne_eqb, eq-eqb}
use Rattle.text_bytes.proofs.front.run.Goals as goal

pub returns-then-b-byte-clause-size : goal.returns-then-b-byte-clause-size
returns-then-b-byte-clause-size c =
    sym (prefix_len_is (λ b. eqb b c.args.byte) c.args.bytes.now c.loop-i.i 0 (omega arith) (λ k h. eq-eqb _ _ (c.loop-i.invariant k h))
    (λ _. ne_eqb _ _ c.if-b-byte.true))

pub returns-clause-size : goal.returns-clause-size
returns-clause-size c =
    sym (prefix_len_is (λ b. eqb b c.args.byte) c.args.bytes.now (length c.args.bytes.now) 0 (omega arith)
    (λ k h. eq-eqb _ _ (c.loop-i.invariant k (omega arith))) (λ h. absurd (omega arith)))
