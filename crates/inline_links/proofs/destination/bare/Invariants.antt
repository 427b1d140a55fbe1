use Rattle.std.proofs.Common.{◌≡◌, ◌≤◌, ◌-◌, length, drop, false}
use Rattle.inline_links.proofs.Prelude.{bare_end, content_codes, is_too_deep, IsCut}
use Rattle.inline_links.proofs.destination.bare.Given as goal

abbrev pub invariant-loop-read : goal.invariant-loop-read
invariant-loop-read l = record {
  within : l.end ≤ length l.content;
  few : l.opened ≤ l.end;
  shallow : is_too_deep l.depth l.opened ≡ false;
  cut : IsCut l.content l.end;
  same : bare_end l.depth l.escaped l.opened (content_codes (drop l.end l.content)) ≡ bare_end l.depth false 0 (content_codes l.content);
}

abbrev pub decreases-loop-read : goal.decreases-loop-read
decreases-loop-read l = length l.content - l.end
