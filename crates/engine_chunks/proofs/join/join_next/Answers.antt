use Rattle.engine_chunks.specs.Joins.{with_next}
use Rattle.engine_chunks.proofs.Writes.{written}
use Rattle.engine_chunks.proofs.join.join_next.Goals as goal

pub returns : goal.returns
returns c = written (with_next c.args.next) c.args.index c.args.events.now _ c.with_next.result c.with_next.ensures
