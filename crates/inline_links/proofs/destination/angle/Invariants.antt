use Rattle.std.proofs.Common.{◌≡◌, ◌≤◌, ◌-◌, length, drop, false}
use Rattle.inline_links.proofs.Prelude.{angle_end, content_codes, IsCut}
use Rattle.inline_links.proofs.destination.angle.Given as goal

abbrev pub invariant-loop-read : goal.invariant-loop-read
invariant-loop-read l = record {
  within : l.end ≤ length l.content;
  cut : IsCut l.content l.end;
  same : angle_end l.escaped (content_codes (drop l.end l.content)) ≡ angle_end false (content_codes l.content);
}

abbrev pub decreases-loop-read : goal.decreases-loop-read
decreases-loop-read l = length l.content - l.end
