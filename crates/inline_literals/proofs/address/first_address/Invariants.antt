use Rattle.std.proofs.Common.{◌≡◌, drop, take}
use Rattle.definition_inline.specs.GfmAutolinkLiteral.{parts_from, with_addresses}
use Rattle.inline_literals.proofs.address.first_address.Given as goal

-- no address was found around an `@` so far
abbrev pub invariant-loop-at : goal.invariant-loop-at
invariant-loop-at l = with_addresses l.text ≡ parts_from 0 (take l.at l.text) (drop l.at l.text)
