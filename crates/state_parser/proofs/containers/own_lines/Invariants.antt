use Rattle.std.proofs.Common.{◌≡◌, ◌++◌, drop, map}
use Rattle.state_parser.specs.LastLines.{own_line}
use Rattle.state_parser.proofs.containers.own_lines.Given as goal

-- the lines of the containers that are left follow
abbrev pub invariant-loop-span : goal.invariant-loop-span
invariant-loop-span g l = l.last.items ++ map (own_line l.lines) (drop l.span-index l.spans) ≡ map (own_line l.lines) l.spans
