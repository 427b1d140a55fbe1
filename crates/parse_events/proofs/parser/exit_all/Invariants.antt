use Rattle.std.proofs.Common.{◌≡◌, [], vec_len}
use Rattle.parse_events.proofs.Prelude.{close_all, still_open}
use Rattle.parse_events.proofs.parser.exit_all.Given as goal

abbrev pub invariant-loop-opened : goal.invariant-loop-opened
invariant-loop-opened g l = record {
  around : close_all l.open.items (still_open l.walk) ≡ close_all l.fn.open.items (still_open l.fn.walk);
  none : l.fn.open.items ≡ [] → l.open.items ≡ [];
  stays : l.fn.open.items ≡ [] → l.walk ≡ l.fn.walk;
}

abbrev pub decreases-loop-opened : goal.decreases-loop-opened
decreases-loop-opened g l = vec_len l.open
