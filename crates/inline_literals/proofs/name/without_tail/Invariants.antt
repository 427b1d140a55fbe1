use Rattle.std.proofs.Common.{◌≡◌, ◌<◌, ◌≤◌, get_or, length, take}
use Rattle.std.specs.Prelude.{reverse}
use Rattle.definition_inline.specs.GfmAutolinkLiteral.{count_of, without_tail}
use Rattle.inline_literals.proofs.name.without_tail.Given as goal

-- what is left has the same end, and so many parentheses
abbrev pub invariant-loop-end : goal.invariant-loop-end
invariant-loop-end l = record {
  within : l.end ≤ length l.text;
  same : without_tail 0 (reverse l.text) ≡ without_tail 0 (reverse (take l.end l.text));
  next : l.end < length l.text → get_or l.text l.end 0 < 128;
  closed : l.closed ≡ count_of 41 (reverse (take l.end l.text));
  opened : l.opened ≡ count_of 40 (reverse (take l.end l.text));
}

abbrev pub decreases-loop-end : goal.decreases-loop-end
decreases-loop-end l = l.end
