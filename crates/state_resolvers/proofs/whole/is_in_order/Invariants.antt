use Rattle.std.proofs.Common.{◌≡◌, drop}
use Rattle.markdown_engine.specs.Order.{text_start}
use Rattle.state_resolvers.specs.Whole.{is_in_order}
use Rattle.state_resolvers.proofs.whole.is_in_order.Given as goal

-- the events that are left are in order exactly if all are
abbrev pub invariant-loop-index : goal.invariant-loop-index
invariant-loop-index l = is_in_order l.from (drop l.index l.events) l.to ≡ is_in_order text_start l.events l.to
