use Rattle.compile_blocks.proofs.Found.{none_found, some_found, after_none}
use Rattle.compile_blocks.proofs.gfm_table.after_of.Goals as goal

pub returns-in-None : goal.returns-in-None
returns-in-None c = λ name kids found. after_none name kids (none_found name kids c.args.found c.in-None.is found)

pub returns-in-Some : goal.returns-in-Some
returns-in-Some c = λ name kids found. (some_found name kids c.args.found c.in-Some.child c.in-Some.is found).after
