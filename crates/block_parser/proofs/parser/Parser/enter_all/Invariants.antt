use Rattle.std.proofs.Common.{[], List, length}
use Rattle.block_parser.proofs.Prelude.{Blocks, HasRead, Level, new_inside, rest_of, spine, Text}
use Rattle.block_parser.specs.View.{Inner}
use Rattle.block_parser.proofs.parser.Parser.enter_all.Given as goal

-- what the rest so far makes is what is left to read
abbrev pub invariant-loop-container : goal.invariant-loop-container
invariant-loop-container g l = (around : List Level) (kids : Blocks) → HasRead l.initial.self (spine around kids (Text []))
    → Inner l.self around kids (new_inside l.on l.initial.here (rest_of l.initial.inside)) (new_inside l.on l.here (rest_of l.inside))

abbrev pub decreases-loop-container : goal.decreases-loop-container
decreases-loop-container g l = length (rest_of l.inside)
