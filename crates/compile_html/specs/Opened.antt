-- The levels that are open.
use Rattle.std.specs.Prelude.{Bool, List, [], ◌∷◌}
use Rattle.compile_levels.specs.Levels.{new_level, passed}
use Rattle.compile_levels.specs.declared.kind.BlockKind.{BlockKind}
use Rattle.compile_levels.specs.declared.level.Holder.{Holder}
use Rattle.compile_levels.specs.declared.level.Level.{Level}

-- the innermost level, and those around it
pub record Opened : Type 0 where
  pub level : Level
  pub outer : List Level

abbrev pub opened : Level → List Level → Opened
opened level outer = record { level = level; outer = outer }

-- in a container or a list of this kind
abbrev pub within : BlockKind → Holder → Bool → Opened → Opened
within kind holder tight o = opened (new_level holder tight) (passed o.level kind ∷ o.outer)

-- outside of the innermost level, if there is one around it
abbrev pub around : Level → List Level → Opened
around level [] = opened level []
around level (next ∷ outer) = opened next outer

abbrev pub outside : Opened → Opened
outside o = around o.level o.outer
