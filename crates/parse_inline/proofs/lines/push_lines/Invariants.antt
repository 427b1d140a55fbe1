use Rattle.std.proofs.Common.{◌≡◌, ◌++◌, List, ℕ, length}
use Rattle.parse_inline.proofs.Prelude.{AreCutBetween, IsChunk, IsUtf8, Names, StandsInContent, still_open, Stop, WritesLinesTo}
use Rattle.parse_inline.proofs.lines.push_lines.Given as goal

abbrev pub invariant-loop-rest : goal.invariant-loop-rest
invariant-loop-rest g l = record {
  opened : still_open l.walk ≡ still_open l.fn.walk;
  written : (names : Names) (text content : List ℕ) (stop : Stop) → IsChunk l.name → IsUtf8 l.bytes → AreCutBetween l.bytes content
      → StandsInContent text (l.bytes ++ content) stop l.fn.walk → WritesLinesTo names text l.name l.indented l.bytes l.rest content stop l.fn.walk l.walk;
}

abbrev pub decreases-loop-rest : goal.decreases-loop-rest
decreases-loop-rest g l = length l.rest
