use Rattle.std.proofs.Common.{◌≤◌, ℕ, List, length}
use Rattle.markdown_engine.proofs.Prelude.{Point, Reaches, remaining, Walks}
use Rattle.markdown_engine.proofs.virtual_text.place_over.Given as goal

pub record Walking (bytes : List ℕ) (to : ℕ × ℕ) (first place : Point) : Type 0 where
  pub rest : (q : Point) → Walks bytes to place q → Walks bytes to first q
  pub forward : remaining (length bytes) place ≤ remaining (length bytes) first
  pub order : Reaches first place

abbrev pub invariant-loop-to : goal.invariant-loop-to
invariant-loop-to l = Walking l.bytes l.to l.fn.point l.place

abbrev pub decreases-loop-to : goal.decreases-loop-to
decreases-loop-to l = remaining (length l.bytes) l.place
