use Rattle.std.proofs.Common.{rules, ◌<◌, length}
use Rattle.markdown_buffers.specs.FlatHeadings.{flat_heading}
use Rattle.markdown_buffers.proofs.Written.{written_more}
use Rattle.markdown_buffers.proofs.flat_heading.write_headings.Goals as goal

pub loop-index-preserved : goal.loop-index-preserved
loop-index-preserved c =
    let before : c.loop-index.index < length c.args.headings.now = search rules in (
      (search rules),
      rw c.flat_heading.ensures
          (written_more flat_heading c.args.headings.now c.loop-index.array c.args.array.now c.loop-index.index _ before c.requires.room c.loop-index.invariant.1),
    )
