use Rattle.std.proofs.Common.{◌≡◌}
use Rattle.engine_edits.specs.Edits.{edits_of}
use Rattle.state_edits_blocks.specs.GfmTableRow.{row_before, row_edits}
use Rattle.state_edits_blocks.proofs.gfm_table_row.add_rows.Given as goal

-- what is known of the row, and the edits, are those up to the index
abbrev pub invariant-loop-index : goal.invariant-loop-index
invariant-loop-index g l = record {
  row : l.row ≡ row_before l.events l.index;
  edits : edits_of l.edits ≡ row_edits l.events (edits_of l.fn.edits) l.index;
}
