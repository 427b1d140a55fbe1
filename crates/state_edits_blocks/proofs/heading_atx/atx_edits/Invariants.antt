use Rattle.std.proofs.Common.{◌≡◌}
use Rattle.engine_edits.specs.Edits.{edits_of}
use Rattle.state_edits_blocks.specs.HeadingAtx.{atx_edits, known}
use Rattle.state_edits_blocks.proofs.heading_atx.atx_edits.Given as goal

-- what is known, and the edits, are those up to the index
abbrev pub invariant-loop-index : goal.invariant-loop-index
invariant-loop-index g l = record {
  known : l.heading ≡ known l.events l.index;
  edits : edits_of l.edits ≡ atx_edits l.events l.index;
}
