-- Columns that were counted.
use Rattle.std.specs.Prelude.{◌≡◌, ◌≤◌, ℕ, List, length}
use Rattle.event_grammar.specs.Phases.{phase_at}
use Rattle.compile_strings.specs.declared.columns.Columns.{Columns}

-- the phase that is known is that of its index in a text
pub record AreCounted (bytes : List ℕ) (columns : Columns) : Type 0 where
  pub within : columns.index ≤ length bytes
  pub phase : columns.phase ≡ phase_at bytes columns.index
