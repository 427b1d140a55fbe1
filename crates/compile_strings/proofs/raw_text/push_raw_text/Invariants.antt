use Rattle.std.proofs.Common.{◌≡◌, ◌≤◌, ◌++◌, false, drop, string_bytes}
use Rattle.compile_strings.proofs.Prelude.{AreCounted, raw_after}
use Rattle.compile_strings.proofs.raw_text.push_raw_text.Given as goal

-- what was appended, with the text that is left, is all
abbrev pub invariant-loop-index : goal.invariant-loop-index
invariant-loop-index g l =
    record {
      depth : l.place.depth ≤ l.index;
      counted : AreCounted l.bytes l.columns;
      read : string_bytes l.out ++ raw_after l.bytes l.sequence l.place.begun l.place.depth (drop l.index l.events)
          ≡ string_bytes l.initial.out ++ raw_after l.bytes l.sequence false 0 l.events;
    }
