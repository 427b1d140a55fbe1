use Rattle.std.proofs.Common.{◌∙◌, ap, sym, take, length, arith}
use Rattle.std.proofs.Math.Seq.{take-length}
use Rattle.std.proofs.lemmas.List.Sums.{prefix_len_is}
use Rattle.html_unsafe_place.specs.What.{is_name_byte}
use Rattle.html_unsafe_place.proofs.what.name_of.Goals as goal

pub returns-then-not-is_ascii_alphanumeric : goal.returns-then-not-is_ascii_alphanumeric
returns-then-not-is_ascii_alphanumeric c =
    let bytes = c.args.bytes.now in
    let i = c.loop-i.i in
    ap (λ n. take n bytes) (sym (prefix_len_is is_name_byte bytes i 0 (omega arith) c.loop-i.invariant
    (λ _. sym c.is_ascii_alphanumeric.ensures.value ∙ c.if-not-is_ascii_alphanumeric.true)))

pub returns : goal.returns
returns c =
    let bytes = c.args.bytes.now in
    sym (ap (λ n. take n bytes) (prefix_len_is is_name_byte bytes (length bytes) 0 (omega arith) (λ k lt. c.loop-i.invariant k (omega arith))
    (λ lt. absurd (omega arith)))
    ∙ take-length bytes)
