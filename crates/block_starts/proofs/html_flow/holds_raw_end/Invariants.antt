use Rattle.std.proofs.Common.{◌≡◌, drop}
use Rattle.definition_text.specs.Bytes.{somewhere}
use Rattle.definition_block.specs.HtmlFlow.{begins_with_raw_end}
use Rattle.block_starts.proofs.html_flow.holds_raw_end.Given as goal

-- what is left has the answer
abbrev pub invariant-loop-i : goal.invariant-loop-i
invariant-loop-i l = somewhere begins_with_raw_end (drop l.i l.line) ≡ somewhere begins_with_raw_end l.line
