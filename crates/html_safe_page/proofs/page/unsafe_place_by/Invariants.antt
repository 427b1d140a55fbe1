use Rattle.std.proofs.Common.{length}
use Rattle.html_safe_page.specs.Views.{open_names}
use Rattle.html_safe_page.proofs.Led.{IsReached}
use Rattle.html_safe_page.proofs.page.unsafe_place_by.Given as goal

-- the page is read up to what is left, with these tags open
abbrev pub invariant-loop-rest : goal.invariant-loop-rest
invariant-loop-rest g l = IsReached l.fn.table l.fn.page l.rest (open_names l.names.items)

abbrev pub decreases-loop-rest : goal.decreases-loop-rest
decreases-loop-rest g l = length l.rest
