use Rattle.std.proofs.Common.{◌≡◌, ◌≤◌, drop}
use Rattle.compile_written.proofs.Prelude.{from_child}
use Rattle.compile_written.proofs.child.child.Given as goal

-- no child so far: the first is among the events that are left
abbrev pub invariant-loop-index : goal.invariant-loop-index
invariant-loop-index l =
    record {
      counted : l.depth ≤ l.index;
      rest : from_child l.name l.depth (drop l.index l.events) ≡ from_child l.name 0 l.events;
    }
