use Rattle.engine_chunks.specs.Joins.{with_previous}
use Rattle.engine_chunks.proofs.Writes.{written}
use Rattle.engine_chunks.proofs.join.join_previous.Goals as goal

pub returns : goal.returns
returns c = written (with_previous c.args.previous) c.args.index c.args.events.now _ c.with_previous.result c.with_previous.ensures
