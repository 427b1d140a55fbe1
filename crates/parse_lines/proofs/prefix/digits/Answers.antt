use Rattle.std.proofs.Common.{length, sym, ◌∙◌, arith}
use Rattle.std.proofs.lemmas.List.Sums.{prefix_len_is}
use Rattle.parse_lines.proofs.Prelude.{is_digit}
use Rattle.parse_lines.proofs.prefix.digits.Goals as goal

pub returns-then-not-is_ascii_digit : goal.returns-then-not-is_ascii_digit
returns-then-not-is_ascii_digit c =
    sym (prefix_len_is is_digit c.args.bytes.now c.loop-i.i 0 (omega arith) c.loop-i.invariant
    (λ _. sym c.is_ascii_digit.ensures.value ∙ c.if-not-is_ascii_digit.true))

pub returns : goal.returns
returns c =
    sym (prefix_len_is is_digit c.args.bytes.now (length c.args.bytes.now) 0 (omega arith) (λ k h. c.loop-i.invariant k (omega arith))
    (λ h. absurd (omega arith)))
