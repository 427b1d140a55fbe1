use Rattle.std.proofs.Common.{eqb, length, sym, ap, ◌∙◌}
use Rattle.block_starts.proofs.Views.{blank_view}
use Rattle.block_starts.proofs.cursor.Cursor.is_blank.Goals as goal

pub returns : goal.returns
returns c = let s = c.args.self in ap (λ n. eqb n (length s.text.now)) s.front ∙ sym (blank_view s)
