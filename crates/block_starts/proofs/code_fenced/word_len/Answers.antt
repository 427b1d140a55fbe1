use Rattle.std.proofs.Common.{length, sym, ◌∙◌, arith}
use Rattle.std.proofs.lemmas.List.Sums.{position_or_len_is}
use Rattle.definition_text.specs.Columns.{is_white}
use Rattle.block_starts.proofs.code_fenced.word_len.Goals as goal

pub returns-then-is_space_or_tab : goal.returns-then-is_space_or_tab
returns-then-is_space_or_tab c =
    sym (position_or_len_is is_white c.args.bytes.now c.loop-i.i 0 (omega arith) c.loop-i.invariant
    (λ _. sym c.is_space_or_tab.ensures ∙ c.if-is_space_or_tab.true))

pub returns : goal.returns
returns c =
    sym (position_or_len_is is_white c.args.bytes.now (length c.args.bytes.now) 0 (omega arith) (λ k h. c.loop-i.invariant k (omega arith))
    (λ h. absurd (omega arith)))
