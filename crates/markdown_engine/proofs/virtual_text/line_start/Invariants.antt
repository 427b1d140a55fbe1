use Rattle.std.proofs.Common.{◌≡◌, ◌≤◌, ℕ, List, length}
use Rattle.markdown_engine.proofs.Prelude.{line_start}
use Rattle.markdown_engine.proofs.virtual_text.line_start.Given as goal

pub record Back (bytes : List ℕ) (index start : ℕ) : Type 0 where
  pub within : start ≤ length bytes
  pub same : line_start bytes start ≡ line_start bytes index

abbrev pub invariant-loop-start : goal.invariant-loop-start
invariant-loop-start l = Back l.bytes l.index l.start

abbrev pub decreases-loop-start : goal.decreases-loop-start
decreases-loop-start l = l.start
