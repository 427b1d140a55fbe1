use Rattle.std.proofs.Common.{◌≡◌, ◌≤◌, ◌-◌, ℕ, List, drop, length}
use Rattle.compile_strings.proofs.Prelude.{AreCounted, HaveRaws, raws_by}
use Rattle.compile_strings.proofs.spelled.SpelledStrings.join_raw_texts.Given as goal

-- what was joined, with the raw texts that are left, is all
abbrev pub invariant-loop-index : goal.invariant-loop-index
invariant-loop-index g l =
    record {
      counted : AreCounted l.bytes l.columns;
      raws : (raws : List (List ℕ)) → HaveRaws l.initial.self (raws_by l.bytes l.events) raws → HaveRaws l.self (raws_by l.bytes (drop l.index l.events)) raws;
      targets : l.self.targets.items ≡ l.initial.self.targets.items;
      within : l.index ≤ length l.events;
    }

abbrev pub decreases-loop-index : goal.decreases-loop-index
decreases-loop-index g l = length l.events - l.index
