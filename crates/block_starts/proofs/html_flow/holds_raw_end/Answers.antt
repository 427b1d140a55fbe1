use Rattle.std.proofs.Common.{sym, ◌∙◌, arith}
use Rattle.definition_block.specs.HtmlFlow.{begins_with_raw_end}
use Rattle.text_bytes.proofs.Somewhere.{somewhere_later}
use Rattle.block_starts.proofs.html_flow.holds_raw_end.Goals as goal

pub loop-i-preserved : goal.loop-i-preserved
loop-i-preserved c =
    somewhere_later begins_with_raw_end c.args.line.now c.loop-i.i (omega arith) (sym c.begins_with_raw_end.ensures ∙ c.if-begins_with_raw_end.false)
    ∙ c.loop-i.invariant
