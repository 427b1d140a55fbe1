use Rattle.std.proofs.Common.{◌≡◌, ◌≤◌, drop, length}
use Rattle.markdown_links.specs.Span.{scan_from, scan_view}
use Rattle.markdown_links.proofs.span.spans.Given as goal

-- the last events were read
abbrev pub invariant-loop-end : goal.invariant-loop-end
invariant-loop-end g l =
    record {
      within : l.end ≤ length l.events;
      read : scan_view l.scan ≡ scan_from l.end (drop l.end l.events);
    }

abbrev pub decreases-loop-end : goal.decreases-loop-end
decreases-loop-end g l = l.end
