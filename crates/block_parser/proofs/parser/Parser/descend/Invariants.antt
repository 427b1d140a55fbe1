use Rattle.block_parser.proofs.Prelude.{Descent, HasRead, rest_of, spine_of, Tree}
use Rattle.block_parser.proofs.parser.Parser.descend.Given as goal

-- so many containers go on
abbrev pub invariant-loop-depth : goal.invariant-loop-depth
invariant-loop-depth g l = (t : Tree) → HasRead l.self (spine_of t)
    → Descent l.on l.fn.beside (rest_of l.initial.rest) t 0 l.depth (rest_of l.rest) l.here
