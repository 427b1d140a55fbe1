use Rattle.std.proofs.Common.{◌≡◌, length}
use Rattle.compile_raw.proofs.Prelude.{AreNodes, endings_bytes, endings_in, events_of, KeepsEnding, Names, Nodes, page_view}
use Rattle.compile_raw.proofs.RawWalk.{Walked}
use Rattle.compile_raw.proofs.line_ending.push_endings.Given as goal

abbrev pub invariant-loop-node : goal.invariant-loop-node
invariant-loop-node g l = record {
  default : KeepsEnding l.initial.page l.page;
  walked : (names : Names) (ns : Nodes) → AreNodes ns → l.events ≡ events_of ns
      → Walked AreNodes (λ x. endings_bytes (endings_in names l.bytes x)) (endings_bytes (endings_in names l.bytes ns))
      (page_view l.initial.page) (page_view l.page) l.rest;
}

abbrev pub decreases-loop-node : goal.decreases-loop-node
decreases-loop-node g l = length l.rest
