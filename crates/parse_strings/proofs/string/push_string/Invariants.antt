use Rattle.std.proofs.Common.{◌≡◌, ℕ, List, ◌++◌, length}
use denote.Text.{Utf8}
use denote.Shadow.{shadow}
use Rattle.parse_strings.proofs.Prelude.{AreCutApart, IsWhole, StandsInContent, Stop, WritesStringFront}
use Rattle.parse_lines.specs.Open.{still_open}
use Rattle.parse_strings.proofs.string.push_string.Given as goal

abbrev pub invariant-loop-rest : goal.invariant-loop-rest
invariant-loop-rest g l = record {
  utf8 : shadow (Utf8 l.rest);
  open_is : still_open l.walk ≡ still_open l.fn.walk;
  written : (text content : List ℕ) (stop : Stop) → AreCutApart l.string content → StandsInContent text (l.string ++ content) stop l.fn.walk
      → IsWhole l.fn.walk → WritesStringFront l.on (g.T.Tables.reference_of l.tables) text l.string l.rest content stop l.fn.walk l.walk;
}

abbrev pub decreases-loop-rest : goal.decreases-loop-rest
decreases-loop-rest g l = length l.rest
