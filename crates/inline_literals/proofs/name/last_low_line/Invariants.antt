use Rattle.std.proofs.Common.{◌≡◌, ◌≤◌, ◌-◌, ℕ, drop, length, take}
use Rattle.std.specs.Prelude.{reverse}
use Rattle.definition_inline.specs.GfmAutolinkLiteral.{low_line_in}
use Rattle.inline_literals.proofs.name.last_low_line.Given as goal

-- no `_` stands in the parts so far, of the domain and of its rests
abbrev pub invariant-loop-end : goal.invariant-loop-end
invariant-loop-end l = record {
  within : l.end ≤ length l.domain;
  same : low_line_in 2 (reverse l.domain) ≡ low_line_in l.parts (reverse (take l.end l.domain));
  rests : (k : ℕ) → k ≤ l.end → low_line_in 2 (reverse (drop k l.domain)) ≡ low_line_in l.parts (reverse (take (l.end - k) (drop k l.domain)));
}

abbrev pub decreases-loop-end : goal.decreases-loop-end
decreases-loop-end l = l.end
