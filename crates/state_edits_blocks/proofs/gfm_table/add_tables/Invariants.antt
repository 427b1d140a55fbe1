use Rattle.std.proofs.Common.{◌≡◌}
use Rattle.engine_edits.specs.Edits.{edits_of}
use Rattle.state_edits_blocks.specs.GfmTable.{table_before, wraps_before}
use Rattle.state_edits_blocks.proofs.gfm_table.add_tables.Given as goal

-- what is known of the table, and the edits, are those up to the index
abbrev pub invariant-loop-index : goal.invariant-loop-index
invariant-loop-index g l = record {
  table : l.table ≡ table_before l.events l.index;
  edits : edits_of l.edits ≡ wraps_before l.events (edits_of l.fn.edits) l.index;
}
