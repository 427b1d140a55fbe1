use Rattle.std.proofs.Common.{◌≡◌, ◌++◌, ℕ, length}
use denote.Text.{Utf8}
use denote.Shadow.{shadow}
use Rattle.inline_addresses.proofs.Prelude.{LinkTexts, rows_view, run_linked}
use Rattle.inline_addresses.proofs.walk.push_addresses.Given as goal

-- what is left of the run gives the rest of its rows
abbrev pub invariant-loop-found : goal.invariant-loop-found
invariant-loop-found g l =
    shadow (Utf8 l.rest)
    × ((at : ℕ → LinkTexts) → rows_view at l.rows.items ++ run_linked 0 l.rest ≡ rows_view at l.initial.rows.items ++ run_linked 0 l.run)

abbrev pub decreases-loop-found : goal.decreases-loop-found
decreases-loop-found g l = length l.rest
