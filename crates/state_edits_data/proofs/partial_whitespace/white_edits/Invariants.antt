use Rattle.std.proofs.Common.{◌≡◌}
use Rattle.engine_edits.specs.Edits.{edits_of}
use Rattle.state_edits_data.specs.Whitespace.{white_edits}
use Rattle.state_edits_data.proofs.partial_whitespace.white_edits.Given as goal

-- the edits are those up to the index
abbrev pub invariant-loop-index : goal.invariant-loop-index
invariant-loop-index g l = edits_of l.edits ≡ white_edits l.trimming.in_text l.trimming.hard l.trimming.bytes.now l.events l.index
