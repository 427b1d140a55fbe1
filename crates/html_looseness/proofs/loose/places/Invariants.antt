use Rattle.std.proofs.Common.{◌≡◌, map}
use Rattle.std.specs.List.{fold}
use Rattle.html_looseness.specs.Loose.{pass_view, pass_start}
use Rattle.html_looseness.proofs.Backward.{pass_bare}
use Rattle.html_looseness.proofs.loose.places.Given as goal

-- the last rows are passed
abbrev pub invariant-loop-row : goal.invariant-loop-row
invariant-loop-row g l = pass_view l.pass ≡ fold pass_bare pass_start (map (λ y. y.now) l.yielded)
