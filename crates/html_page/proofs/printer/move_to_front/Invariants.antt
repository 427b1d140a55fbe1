use Rattle.std.proofs.Common.{◌≡◌, ◌≤◌, ◌+◌, ◌-◌, ◌++◌, length, drop, take}
use Rattle.html_page.proofs.printer.move_to_front.Given as goal

-- what was moved so far, and then what was there
abbrev pub invariant-by_part : goal.invariant-by_part
invariant-by_part g l = record {
  within : l.at + l.from ≤ length l.initial.items;
  moved : l.items ≡ take l.at (drop l.from l.initial.items) ++ drop l.at l.initial.items;
}

abbrev pub decreases-by_part : goal.decreases-by_part
decreases-by_part g l = length l.initial.items - l.at
