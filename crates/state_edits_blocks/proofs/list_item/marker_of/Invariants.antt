use Rattle.std.proofs.Common.{◌≡◌}
use Rattle.state_edits_blocks.specs.ListItem.{marker_within}
use Rattle.state_edits_blocks.proofs.list_item.marker_of.Given as goal

-- the first marker among the events so far
abbrev pub invariant-loop-depth : goal.invariant-loop-depth
invariant-loop-depth l = l.marker ≡ marker_within l.bytes l.events l.index l.depth
