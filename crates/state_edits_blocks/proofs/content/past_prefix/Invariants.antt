use Rattle.std.proofs.Common.{◌≡◌}
use Rattle.state_edits_blocks.specs.Content.{past_prefix}
use Rattle.state_edits_blocks.proofs.content.past_prefix.Given as goal

-- the first is that of the rest
abbrev pub invariant-loop-at : goal.invariant-loop-at
invariant-loop-at l = past_prefix l.events l.at ≡ past_prefix l.events l.from
