use Rattle.std.proofs.Common.{◌≡◌, [], drop}
use Rattle.state_resolvers.specs.Whole.{is_nested}
use Rattle.state_resolvers.proofs.whole.is_nested.Given as goal

-- the events that are left are nested in what is open exactly if all are
abbrev pub invariant-loop-index : goal.invariant-loop-index
invariant-loop-index g l = is_nested l.names.items (drop l.index l.events) ≡ is_nested [] l.events
