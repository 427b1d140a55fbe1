use Rattle.std.proofs.Common.{◌≤◌, ◌-◌, List, drop, length, string_bytes}
use Rattle.block_leaves.proofs.Prelude.{AreLines, AreRead, BlockLine, Blocks, Container, Level, spine, Text}
use Rattle.block_leaves.proofs.DefinitionLemmas.{Cutting}
use Rattle.block_leaves.proofs.leaves.Leaves.cut_definitions.Given as goal

-- the definitions so far are cut
abbrev pub invariant-loop-end : goal.invariant-loop-end
invariant-loop-end g l = record {
  within : l.at ≤ length (string_bytes l.self.content);
  cuts : (containers : List Container) (around : List Level) (kids : Blocks) (ls : List BlockLine) → AreLines ls → AreRead l.initial.self containers (spine around kids (Text ls))
      → Cutting l.self (drop l.at (string_bytes l.self.content)) containers around kids ls;
}

abbrev pub decreases-loop-end : goal.decreases-loop-end
decreases-loop-end g l = length (string_bytes l.self.content) - l.at
