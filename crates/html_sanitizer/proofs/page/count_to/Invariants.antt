use Rattle.html_safe_page.specs.Views.{names_of}
use Rattle.html_sanitizer.proofs.Ends.{ArePassed}
use Rattle.html_sanitizer.proofs.page.count_to.Given as goal

-- the last ones are passed
abbrev pub invariant-loop-above : goal.invariant-loop-above
invariant-loop-above l = ArePassed (names_of l.wanted) l.names l.above
