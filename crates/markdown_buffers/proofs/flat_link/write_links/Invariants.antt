use Rattle.std.proofs.Common.{◌≡◌, ◌++◌, map, take, drop, length}
use Rattle.markdown_buffers.specs.FlatLinks.{flat_link}
use Rattle.markdown_buffers.proofs.flat_link.write_links.Given as goal

abbrev pub invariant-loop-index : goal.invariant-loop-index
invariant-loop-index l = (length l.array ≡ length l.fn.array) × (l.array ≡ map flat_link (take l.index l.links) ++ drop l.index l.fn.array)
