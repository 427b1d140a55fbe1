use Rattle.std.proofs.Common.{◌≡◌, drop}
use Rattle.inline_constructs.proofs.Prelude.{after_text}
use Rattle.inline_constructs.proofs.html_text.text_end.Given as goal

-- what is left has the answer
abbrev pub invariant-loop-i : goal.invariant-loop-i
invariant-loop-i l = after_text l.text (drop l.i l.bytes) ≡ after_text l.text (drop l.start l.bytes)
