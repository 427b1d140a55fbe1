use Rattle.std.proofs.Common.{sym, ◌∙◌}
use Rattle.block_starts.proofs.Views.{bytes_view}
use Rattle.block_starts.proofs.cursor.Cursor.text.Goals as goal

pub returns : goal.returns
returns c = c.bytes_only.ensures.same ∙ sym (bytes_view c.args.self c.bytes_only.ensures.bytes)
