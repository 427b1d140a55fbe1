-- Which runs form pairs.
use Rattle.definition_inline.proofs.RunPairs.{are_pairs}
use Rattle.definition_inline.proofs.NextPair.{are_next}
use Rattle.laws_inline.specs.Pairs.{RunsPair, EachPairIsNext}

pub runs_pair : RunsPair
runs_pair runs = are_pairs runs

pub each_pair_is_next : EachPairIsNext
each_pair_is_next runs = are_next runs
