use Rattle.std.proofs.Common.{◌≡◌, ◌<◌, ℕ, get_or, false}
use Rattle.definition_text.specs.Columns.{is_white}
use Rattle.block_starts.proofs.code_fenced.word_len.Given as goal

-- no byte so far is a space or a tab
abbrev pub invariant-loop-i : goal.invariant-loop-i
invariant-loop-i l = (k : ℕ) → k < l.i → is_white (get_or l.bytes k 0) ≡ false
