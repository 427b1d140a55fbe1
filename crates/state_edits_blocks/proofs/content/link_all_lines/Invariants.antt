use Rattle.std.proofs.Common.{◌≡◌}
use Rattle.engine_edits.specs.Edits.{edits_of}
use Rattle.state_edits_blocks.specs.Content.{ending_edits, linked}
use Rattle.state_edits_blocks.proofs.content.link_all_lines.Given as goal

-- the lines before the index are joined
abbrev pub invariant-loop-index : goal.invariant-loop-index
invariant-loop-index g l = record {
  events : l.events ≡ linked l.fn.events l.index;
  edits : edits_of l.edits ≡ ending_edits l.fn.events l.index;
}
