use Rattle.std.proofs.Common.{sym, ◌∙◌}
use Rattle.html_sanitizer.proofs.ListedNames.{found_at}
use Rattle.html_sanitizer.proofs.listing.find_name.Goals as goal

pub returns-then-is_lower : goal.returns-then-is_lower
returns-then-is_lower c =
    sym (found_at c.args.names.now c.loop-name.name-index _ c.args.written.now c.loop-name-test.true (sym c.is_lower.ensures ∙ c.if-is_lower.true))
    ∙ c.loop-name.invariant
