use Rattle.std.proofs.Common.{◌≡◌}
use Rattle.engine_edits.specs.Edits.{edits_of}
use Rattle.state_edits_blocks.specs.ListItem.{edits_before, levels_before}
use Rattle.state_edits_blocks.proofs.list_item.list_edits.Given as goal

-- the levels, and the edits, are those up to the index
abbrev pub invariant-loop-index : goal.invariant-loop-index
invariant-loop-index g l = record {
  levels : l.levels.items ≡ levels_before l.bytes l.events l.index;
  edits : edits_of l.edits ≡ edits_before l.bytes l.events l.index;
}
