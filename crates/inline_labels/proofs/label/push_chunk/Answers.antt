use Rattle.std.proofs.Common.{sym, ◌∙◌}
use Rattle.inline_labels.proofs.Chunks.{chunk_added}
use Rattle.inline_labels.proofs.label.push_chunk.Goals as goal

pub returns-else-is_empty : goal.returns-else-is_empty
returns-else-is_empty g c =
    chunk_added c.push.result _ c.args.text.now c.args.no_text.now _ _ c.in_ok-push_folded.ensures
    (sym c.is_empty.ensures ∙ c.if-is_empty.false) c.push.ensures.bytes
