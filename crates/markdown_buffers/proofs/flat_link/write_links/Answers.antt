use Rattle.std.proofs.Common.{rules, ◌<◌, length}
use Rattle.markdown_buffers.specs.FlatLinks.{flat_link}
use Rattle.markdown_buffers.proofs.Written.{written_more}
use Rattle.markdown_buffers.proofs.flat_link.write_links.Goals as goal

pub loop-index-preserved : goal.loop-index-preserved
loop-index-preserved c =
    let before : c.loop-index.index < length c.args.links.now = search rules in (
      (search rules),
      rw c.flat_link.ensures
          (written_more flat_link c.args.links.now c.loop-index.array c.args.array.now c.loop-index.index _ before c.requires.room c.loop-index.invariant.1),
    )
