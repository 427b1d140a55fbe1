use Rattle.std.proofs.Common.{◌≡◌, ◌≤◌, ◌+◌, ℕ, Bool, List, None, drop}
use Rattle.compile_written.proofs.Prelude.{Level, level_view, pass_start, passed}
use Rattle.compile_written.proofs.list.pass_others.Given as goal

-- the events from here on are passed
abbrev pub invariant-loop-first : goal.invariant-loop-first
invariant-loop-first l =
    record {
      passed : (bytes : List ℕ) (level : Level) (ls : List Level) (lists : List Bool) → (l.least ≡ 0 → level.child ≡ None) →
          level_view l.depth level ls lists ≡ passed bytes pass_start (drop l.end l.events) →
          level_view l.inside level ls lists ≡ passed bytes pass_start (drop l.first l.events);
      order : l.first ≤ l.end;
      least : l.least ≤ l.inside;
      fits : l.inside + l.first ≤ l.depth + l.end;
    }

abbrev pub decreases-loop-first : goal.decreases-loop-first
decreases-loop-first l = l.first
