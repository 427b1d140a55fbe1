use Rattle.std.proofs.Common.{◌≡◌, drop}
use Rattle.definition_text.specs.Bytes.{begins_with, somewhere}
use Rattle.text_bytes.proofs.bytes.holds.Given as goal

-- what is left has the answer
abbrev pub invariant-loop-i : goal.invariant-loop-i
invariant-loop-i l = somewhere (begins_with l.text) (drop l.i l.bytes) ≡ somewhere (begins_with l.text) l.bytes
