use Rattle.std.proofs.Common.{take}
use Rattle.block_targets.proofs.Prelude.{HasDefinitions, map, read_on}
use Rattle.block_targets.proofs.definitions.document_definitions.Given as goal

-- the contents so far are read
abbrev pub invariant-loop-text : goal.invariant-loop-text
invariant-loop-text g l = HasDefinitions l.found (map read_on (take l.text-index l.text-items))
