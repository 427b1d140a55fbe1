use Rattle.compile_written.proofs.DefinitionLoops.{HasFront}
use Rattle.compile_written.proofs.definition.definitions_in.Given as goal

-- the definitions before, which with those that are left are all
abbrev pub invariant-loop-index : goal.invariant-loop-index
invariant-loop-index g l = HasFront (g.T.Tables.reference_of l.tables) l.bytes l.events l.index l.found
