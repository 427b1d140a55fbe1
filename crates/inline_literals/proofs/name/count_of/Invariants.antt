use Rattle.std.proofs.Common.{◌≡◌, ◌≤◌, take}
use Rattle.std.specs.Prelude.{reverse}
use Rattle.definition_inline.specs.GfmAutolinkLiteral.{count_of}
use Rattle.inline_literals.proofs.name.count_of.Given as goal

-- the count of the bytes so far
abbrev pub invariant-loop-b : goal.invariant-loop-b
invariant-loop-b l = record {
  counted : l.count ≡ count_of l.byte (reverse (take l.b-index l.text));
  within : l.count ≤ l.b-index;
}
