use Rattle.block_leaves.proofs.leaves.Leaves.add_line.Goals as goal

pub returns : goal.returns
returns g c = c.push_line.ensures
