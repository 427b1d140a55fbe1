use Rattle.std.proofs.Common.{◌≡◌, ◌≤◌, ℕ, List, drop}
use Rattle.compile_strings.proofs.Prelude.{Held, HoldsAt, LinkTexts, Names, Target, targets_by}
use Rattle.compile_strings.proofs.spelled.last_noted.Given as goal

-- the events from here up to the end say nothing of where something leads
abbrev pub invariant-loop-last : goal.invariant-loop-last
invariant-loop-last l =
    record {
      targets : (names : Names) (bytes : List ℕ) (leads : Target → LinkTexts) →
          targets_by names bytes leads (drop l.last l.events) ≡ targets_by names bytes leads (drop l.end l.events);
      held : (inner : Held) (outer : List Held) → HoldsAt l.events (drop l.end l.events) inner outer → HoldsAt l.events (drop l.last l.events) inner outer;
      order : l.last ≤ l.end;
    }

abbrev pub decreases-loop-last : goal.decreases-loop-last
decreases-loop-last l = l.last
