use Rattle.std.proofs.Common.{◌≡◌, length}
use Rattle.compile_raw.proofs.Prelude.{AreSound, events_of, KeepsEnding, Nodes, page_view}
use Rattle.compile_rows.specs.Columns.{AreCounted}
use Rattle.compile_raw.proofs.RawWalk.{CodeWalked}
use Rattle.compile_raw.proofs.raw.push_code.Given as goal

abbrev pub invariant-loop-node : goal.invariant-loop-node
invariant-loop-node g l = record {
  default : KeepsEnding l.initial.page l.page;
  counted : AreCounted l.bytes l.columns;
  walked : (ns : Nodes) → AreSound l.bytes ns → l.events ≡ events_of ns
      → CodeWalked l.bytes l.after_fence ns (page_view l.initial.page) l.passed (page_view l.page) l.rest;
}

abbrev pub decreases-loop-node : goal.decreases-loop-node
decreases-loop-node g l = length l.rest
