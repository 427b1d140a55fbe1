use Rattle.std.proofs.Common.{◌≡◌}
use Rattle.engine_edits.specs.Edits.{edits_of}
use Rattle.inline_runs.specs.Paired.{IsPaired}
use Rattle.inline_runs.specs.View.{runs_view}
use Rattle.state_edits_attention.specs.Attention.{run_edits}
use Rattle.state_edits_attention.proofs.attention.add_runs.Given as goal

-- the runs are paired, and the edits are those of the runs so far
abbrev pub invariant-loop-place : goal.invariant-loop-place
invariant-loop-place g l = record {
  paired : IsPaired l.pairing (runs_view l.runs);
  edits : edits_of l.edits ≡ run_edits l.events l.entries (runs_view l.runs) l.place (edits_of l.fn.edits);
}
