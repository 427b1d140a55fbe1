use Rattle.std.proofs.Common.{◌≡◌, ◌++◌, map, take, drop, length}
use Rattle.markdown_buffers.specs.FlatHeadings.{flat_heading}
use Rattle.markdown_buffers.proofs.flat_heading.write_headings.Given as goal

abbrev pub invariant-loop-index : goal.invariant-loop-index
invariant-loop-index l = (length l.array ≡ length l.fn.array) × (l.array ≡ map flat_heading (take l.index l.headings) ++ drop l.index l.fn.array)
