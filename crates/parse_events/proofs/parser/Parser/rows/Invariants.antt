use Rattle.std.proofs.Common.{◌≤◌, ◌+◌, ℕ, List, length, drop}
use Rattle.definition_block.specs.Blocks.{Blocks}
use Rattle.definition_inline.specs.Targets.{Targets}
use Rattle.parse_events.proofs.Prelude.{IsAmongRows, Keeps, Nodes, piece_lines, reading_by, rows_size}
use Rattle.parse_leaves.specs.Texts.{KnowsTargets}
use Rattle.parse_events.proofs.parser.Parser.rows.Given as goal

-- the rows to come take their lines from those that are left, and what is open beside containers and lists is as before; it is the innermost; all rows before
-- these are written
abbrev pub invariant-loop-row : goal.invariant-loop-row
invariant-loop-row g l = record {
  enough : l.taken + rows_size (drop l.row-index l.rows) ≤ length l.pieces;
  kept : Keeps l.fn.self l.self;
  written : (ds : Targets) → KnowsTargets l.texts ds → (text : List ℕ) (front : Nodes) (all : Blocks)
      → IsAmongRows (reading_by g.T.Tables l.texts ds) text front all l.rows (piece_lines l.pieces) l.fn.self
      → IsAmongRows (reading_by g.T.Tables l.texts ds) text front all (drop l.row-index l.rows) (piece_lines (drop l.taken l.pieces)) l.self;
}
