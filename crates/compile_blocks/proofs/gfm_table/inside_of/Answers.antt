use Rattle.compile_blocks.proofs.Prelude.{events_of}
use Rattle.compile_blocks.proofs.Found.{none_found, some_found, inside_none, inside_some}
use Rattle.compile_blocks.proofs.gfm_table.inside_of.Goals as goal

pub returns-in-None : goal.returns-in-None
returns-in-None c = λ name kids found. inside_none name kids (none_found name kids c.args.found c.in-None.is found)

pub returns-in-Some : goal.returns-in-Some
returns-in-Some c = λ name kids found.
    inside_some name kids (events_of kids) c.in-Some.child (some_found name kids c.args.found c.in-Some.child c.in-Some.is found)
