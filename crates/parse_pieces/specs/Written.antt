-- Which pieces an output has written.
use Rattle.std.specs.Prelude.{◌≡◌, ℕ, ◌+◌, if◌then◌else◌, ◌==◌, List}
use Rattle.event_definition.specs.Pieces.{Pieces}
use Rattle.parse_output.specs.declared.end.End.{End}
use Rattle.parse_output.specs.declared.output.Output.{Output}
use Rattle.parse_output.specs.Written.{Writes, end_in}
use Rattle.parse_pieces.specs.Nodes.{nodes}
use Rattle.parse_pieces.specs.Sizes.{columns, pieces_size}

-- how many bytes are before an end: a tab of which columns are still ahead is one of them
abbrev pub passed : End → ℕ
passed end = end.index + (if end.owed == 0 then 0 else 1)

-- Exactly these pieces are written: they begin where the old output ends, and end where the new one does.
pub record WritesPieces {A : Type 0} (text : List ℕ) (pieces : Pieces) (old new : Output A) : Type 0 where
  pub begins : (end_in old).owed ≡ columns pieces (end_in new).owed
  pub writes : Writes text old new (nodes text (passed (end_in old)) pieces (end_in new).owed)
  pub ends : passed (end_in new) ≡ passed (end_in old) + pieces_size pieces
