use Rattle.std.proofs.Common.{◌≡◌, length}
use Rattle.compile_raw.proofs.Prelude.{AreSound, events_of, HaveNoChunk, html_of, KeepsEnding, Nodes, page_view, raw_lines, raw_parts}
use Rattle.compile_raw.proofs.RawWalk.{Walked}
use Rattle.compile_raw.proofs.raw.push_html_parts.Given as goal

abbrev pub invariant-loop-node : goal.invariant-loop-node
invariant-loop-node g l = record {
  default : KeepsEnding l.initial.page l.page;
  walked : (ns : Nodes) → AreSound l.bytes ns → HaveNoChunk ns → l.events ≡ events_of ns
      → Walked (λ x. AreSound l.bytes x × HaveNoChunk x) (λ x. html_of l.options (raw_lines (raw_parts l.bytes x)))
      (html_of l.options (raw_lines (raw_parts l.bytes ns))) (page_view l.initial.page) (page_view l.page) l.rest;
}

abbrev pub decreases-loop-node : goal.decreases-loop-node
decreases-loop-node g l = length l.rest
