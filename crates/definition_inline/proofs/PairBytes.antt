-- How many bytes a pair takes.
use Rattle.std.proofs.Common.{◌≡◌, ◌<◌, ◌≤◌, true, arith}
use Rattle.std.proofs.lemmas.Grind.{common_steps}
use Rattle.definition_inline.specs.Pairing.{OpenRun, is_eligible, taken_by}

-- an eligible pair takes something, and no more than is left
pub takes_some : (o c : OpenRun) → is_eligible o c ≡ true → 0 < taken_by o c
takes_some o c h = grind (arith, common_steps)

pub takes_left : (o c : OpenRun) → is_eligible o c ≡ true → taken_by o c ≤ c.run.left
takes_left o c h = grind (arith, common_steps)

pub takes_opener : (o c : OpenRun) → is_eligible o c ≡ true → taken_by o c ≤ o.run.left
takes_opener o c h = grind (arith, common_steps)
