use Rattle.std.proofs.Common.{◌≡◌}
use Rattle.definition_html.specs.State.{ended}
use Rattle.html_sanitizer.specs.Page.{page_state}
use Rattle.html_sanitizer.proofs.page.Page.end.Given as goal

-- what is left to end makes the same page
abbrev pub invariant-loop-left : goal.invariant-loop-left
invariant-loop-left g l = ended l.left (page_state l.self) ≡ ended l.count (page_state l.fn.self)

abbrev pub decreases-loop-left : goal.decreases-loop-left
decreases-loop-left g l = l.left
