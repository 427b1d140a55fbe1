use Rattle.block_starts.proofs.LabelLemmas.{LabelFrom}
use Rattle.block_starts.proofs.cursor.label_len.Given as goal

-- what is left of the search
abbrev pub invariant-loop-i : goal.invariant-loop-i
invariant-loop-i l = LabelFrom l.bytes l.i l.escaped
