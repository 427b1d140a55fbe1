use Rattle.std.proofs.Common.{◌≡◌, length}
use Rattle.inline_runs.proofs.Prelude.{AreLaid, AreTexts, run_sizes, runs_view}
use Rattle.inline_runs.proofs.pairing.Pairing.lay_out.Given as goal

-- of the runs so far it is known what they become
abbrev pub invariant-loop-run : goal.invariant-loop-run
invariant-loop-run g l = record {
  pairs : l.self.pairs ≡ l.fn.self.pairs;
  laid : AreLaid l.self.pairs.pairs.items l.self.opened.opened.items l.self.opened.laid.items;
  count : length l.self.opened.laid.items ≡ l.run-index;
  texts : AreTexts l.self.pairs.pairs.items (run_sizes (runs_view l.runs)) l.self.opened.laid.items;
}
