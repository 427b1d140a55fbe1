-- Which runs form pairs (CommonMark 6.2).
use Rattle.std.specs.Prelude.{List, []}
use Rattle.definition_inline.specs.Attention.{Run}
use Rattle.definition_inline.specs.Pairing.{placed_from, pairs}
use Rattle.definition_inline.specs.RunPairs.{ArePairs}
use Rattle.definition_inline.specs.NextPair.{AreNext}

-- the runs of a container, from left to right, each pair with the nearest opener that may pair with them, and none is crossed; so the pairs depend on these
-- runs alone (CommonMark 6.2)
abbrev pub RunsPair : Type 0
RunsPair = (runs : List Run) → ArePairs [] (placed_from 0 runs) (pairs runs)

-- each pair is the next one from the pairs before it: eligible by what they left, with the leftmost closer and then the nearest opener; and after the last no
-- pair is left (CommonMark 6.2)
abbrev pub EachPairIsNext : Type 0
EachPairIsNext = (runs : List Run) → AreNext runs [] (pairs runs)
