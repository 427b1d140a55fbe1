use Rattle.std.proofs.Common.{take, string_bytes}
use Rattle.markdown_links.specs.Listed.{HasParts, targets_of}
use Rattle.markdown_links.proofs.list.push_targets.Given as goal

-- what the targets of the links before spell
abbrev pub invariant-loop-span : goal.invariant-loop-span
invariant-loop-span g l =
    HasParts (string_bytes l.out) l.ranges.items (targets_of (g.T.Tables.reference_of l.tables) l.bytes l.events (take l.span-index l.spans))
