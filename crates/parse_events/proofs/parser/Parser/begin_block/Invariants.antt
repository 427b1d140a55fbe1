use Rattle.std.proofs.Common.{◌≡◌, false, vec_len}
use Rattle.parse_events.proofs.Prelude.{ends_in_list, Keeps}
use Rattle.parse_events.proofs.parser.Parser.begin_block.Given as goal

abbrev pub invariant-loop-self : goal.invariant-loop-self
invariant-loop-self g l = record {
  kept : Keeps l.fn.self l.self;
  stays : ends_in_list l.fn.self.open.items ≡ false → l.self ≡ record l.fn.self { first = false };
}

abbrev pub decreases-loop-self : goal.decreases-loop-self
decreases-loop-self g l = vec_len l.self.open
