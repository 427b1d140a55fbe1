use Rattle.std.proofs.Common.{◌≡◌}
use Rattle.engine_edits.specs.Edits.{edits_of}
use Rattle.state_edits_blocks.specs.HeadingSetext.{last, setext_edits}
use Rattle.state_edits_blocks.proofs.heading_setext.setext_edits.Given as goal

-- the last paragraph, and the edits, are those up to the index
abbrev pub invariant-loop-index : goal.invariant-loop-index
invariant-loop-index g l = record {
  last : l.paragraph ≡ last l.events l.index;
  edits : edits_of l.edits ≡ setext_edits l.events l.index;
}
