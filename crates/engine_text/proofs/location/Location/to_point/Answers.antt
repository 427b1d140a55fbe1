use Rattle.std.proofs.Common.{take}
use Rattle.engine_text.proofs.Starts.{start_below}
use Rattle.engine_text.proofs.location.Location.to_point.Goals as goal

pub overflow_sub-offset : goal.overflow_sub-offset
overflow_sub-offset g c = start_below c.args.offset c.start_of-start.result c.as_slice-starts.result.now
    (take c.lines_to-line.result c.as_slice-starts.result.now) c.lines_to-line.ensures.before c.start_of-start.ensures
