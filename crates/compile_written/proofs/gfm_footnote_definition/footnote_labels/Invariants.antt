use Rattle.std.proofs.Common.{◌≤◌}
use Rattle.compile_written.proofs.FootnoteLoops.{KnowsFront}
use Rattle.compile_written.proofs.gfm_footnote_definition.footnote_labels.Given as goal

-- what is known after the events before
abbrev pub invariant-loop-index : goal.invariant-loop-index
invariant-loop-index g l =
    record {
      skipped : l.walk.skipped ≤ l.index;
      counted : l.walk.count ≤ l.index;
      known : KnowsFront l.bytes l.events l.index l.walk;
    }
