use Rattle.std.proofs.Common.{◌≡◌, true, length}
use Rattle.html_safe_page.specs.Machine.{after_letters}
use Rattle.html_safe_page.proofs.Passed.{stops}
use Rattle.html_safe_page.proofs.letters.after_letters.Given as goal

-- the same letters follow, from where no plain byte follows
abbrev pub invariant-loop-next : goal.invariant-loop-next
invariant-loop-next l = (after_letters l.rest ≡ after_letters l.bytes) × (stops l.rest ≡ true)

abbrev pub decreases-loop-next : goal.decreases-loop-next
decreases-loop-next l = length l.rest
