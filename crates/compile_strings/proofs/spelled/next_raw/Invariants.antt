use Rattle.std.proofs.Common.{◌≡◌, ◌≤◌, ◌-◌, ℕ, List, drop, length}
use Rattle.compile_strings.proofs.Prelude.{raws_by}
use Rattle.compile_strings.proofs.spelled.next_raw.Given as goal

-- the events from the first index up to here aren't raw texts
abbrev pub invariant-loop-index : goal.invariant-loop-index
invariant-loop-index l =
    record {
      raws : (bytes : List ℕ) → raws_by bytes (drop l.index l.events) ≡ raws_by bytes (drop l.from l.events);
      order : l.from ≤ l.index;
      within : l.index ≤ length l.events;
    }

abbrev pub decreases-loop-index : goal.decreases-loop-index
decreases-loop-index l = length l.events - l.index
