use Rattle.std.proofs.Common.{rules, ◌<◌, length}
use Rattle.markdown_buffers.specs.FlatEvents.{flat_event}
use Rattle.markdown_buffers.proofs.Written.{written_more}
use Rattle.markdown_buffers.proofs.flat_event.write_events.Goals as goal

pub loop-index-preserved : goal.loop-index-preserved
loop-index-preserved c =
    let before : c.loop-index.index < length c.args.events.now = search rules in (
      (search rules),
      rw c.flat_event.ensures
          (written_more flat_event c.args.events.now c.loop-index.array c.args.array.now c.loop-index.index _ before c.requires.room c.loop-index.invariant.1),
    )
