use Rattle.std.proofs.Common.{arith}
use Rattle.std.proofs.lemmas.Grind.{common_steps}
use Rattle.compile_levels.specs.Siblings.{IsFirst}
use Rattle.compile_levels.proofs.FirstLaw.{first_law, none_law}
use Rattle.compile_levels.proofs.node.first_node.Goals as goal

pub returns-in-empty-clause-nodes : goal.returns-in-empty-clause-nodes
returns-in-empty-clause-nodes c = λ ns k e. none_law ns c.args.events.now e c.in-empty.len_below

pub returns-in-len1-up-clause-nodes : goal.returns-in-len1-up-clause-nodes
returns-in-len1-up-clause-nodes c = λ ns k e.
    let is : IsFirst c.args.events.now c.node_after.result.0 c.node_after.result.1.now = grind (arith, common_steps) in
    first_law ns k c.args.events.now e c.node_after.result.0 c.node_after.result.1.now is
