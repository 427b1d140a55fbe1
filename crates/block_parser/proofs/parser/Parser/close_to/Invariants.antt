use Rattle.std.proofs.Common.{◌≡◌, ◌-◌, ◌≤◌, [], vec_len}
use Rattle.block_parser.proofs.Prelude.{HasRead, Spine, Text}
use Rattle.block_parser.proofs.Closing.{exits}
use Rattle.block_parser.proofs.parser.Parser.close_to.Given as goal

-- so many containers were closed
abbrev pub invariant-loop-self : goal.invariant-loop-self
invariant-loop-self g l = record {
  more : l.depth ≤ vec_len l.self.open;
  fewer : vec_len l.self.open ≤ vec_len l.initial.self.open;
  reads : (s : Spine) → s.leaf ≡ Text [] → HasRead l.initial.self s → HasRead l.self (exits (vec_len l.initial.self.open - vec_len l.self.open) s);
}

abbrev pub decreases-loop-self : goal.decreases-loop-self
decreases-loop-self g l = vec_len l.self.open
