use Rattle.std.proofs.Common.{◌≡◌, drop}
use Rattle.inline_addresses.proofs.Prelude.{rows_may_link}
use Rattle.inline_addresses.proofs.links.may_link.Given as goal

-- what is so of all rows is so of those that are left
abbrev pub invariant-loop-place : goal.invariant-loop-place
invariant-loop-place l = rows_may_link l.rows ≡ rows_may_link (drop l.place l.rows)
